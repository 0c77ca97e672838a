use Rattle.der_values.proofs.LawsLaws.Spellings.BerFaults as ber
use Rattle.der_values.proofs.LawsLaws.Spellings.DerFaults as der
use Rattle.der_values.proofs.laws.faults_are_one.Goals as goal

pub returns-clause-ber : goal.returns-clause-ber
returns-clause-ber c = ber.shows_one

pub returns-clause-der : goal.returns-clause-der
returns-clause-der c = der.shows_one

pub returns-clause-spelled : goal.returns-clause-spelled
returns-clause-spelled c = ber.spelled_shows_nothing

pub returns-clause-der_spelled : goal.returns-clause-der_spelled
returns-clause-der_spelled c = der.spelled_shows_nothing
