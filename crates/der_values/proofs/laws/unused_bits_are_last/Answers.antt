use Rattle.der_values.proofs.LawsLaws.Octets.LastBits.{unused_is_last}
use Rattle.der_values.proofs.laws.unused_bits_are_last.Goals as goal

pub returns : goal.returns
returns c = unused_is_last
