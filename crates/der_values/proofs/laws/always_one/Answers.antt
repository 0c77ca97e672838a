use Rattle.der_base.proofs.Leaves.Always.{always_ber}
use Rattle.der_values.proofs.LawsLaws.Leaves.AlwaysDer.{accepted_written, always_der}
use Rattle.der_values.proofs.laws.always_one.Goals as goal

pub returns-clause-ber : goal.returns-clause-ber
returns-clause-ber c = always_ber

pub returns-clause-der : goal.returns-clause-der
returns-clause-der c = always_der

pub returns-clause-written : goal.returns-clause-written
returns-clause-written c = accepted_written
