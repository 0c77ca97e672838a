use Rattle.der_values.proofs.LawsLaws.Spellings.AppendedBer.{shown_appended, spelled_appended}
use Rattle.der_values.proofs.LawsLaws.Spellings.AppendedDer.{der_shown_appended, der_spelled_appended}
use Rattle.der_values.proofs.laws.appended_only_lengthen.Goals as goal

pub returns-clause-ber : goal.returns-clause-ber
returns-clause-ber c = shown_appended

pub returns-clause-der : goal.returns-clause-der
returns-clause-der c = der_shown_appended

pub returns-clause-spelled : goal.returns-clause-spelled
returns-clause-spelled c = spelled_appended

pub returns-clause-der_spelled : goal.returns-clause-der_spelled
returns-clause-der_spelled c = der_spelled_appended
