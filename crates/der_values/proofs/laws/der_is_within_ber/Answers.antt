use Rattle.der_values.proofs.LawsLaws.Spellings.DerWithinBer.{der_within_ber}
use Rattle.der_values.proofs.laws.der_is_within_ber.Goals as goal

pub returns : goal.returns
returns c = der_within_ber
