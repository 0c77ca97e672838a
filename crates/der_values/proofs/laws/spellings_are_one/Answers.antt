use Rattle.der_values.proofs.LawsLaws.Spellings.BerFaults.{spelling_same}
use Rattle.der_values.proofs.laws.spellings_are_one.Goals as goal

pub returns : goal.returns
returns c = spelling_same
