use Rattle.der_writer.proofs.Bits.{bits_strict}
use Rattle.der_writer.proofs.Signed.{signed_minimal, signed_value}
use Rattle.der_writer.proofs.Trees.{leaf_spelled}
use Rattle.der_writer.proofs.laws.leaves_spell.Goals as goal

pub returns : goal.returns
returns c = record { leaves = leaf_spelled; numbers = λ n. (signed_minimal n, signed_value n); bits = bits_strict }
