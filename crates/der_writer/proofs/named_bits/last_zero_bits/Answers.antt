use Rattle.der_writer.proofs.NamedBits.{zero_bits_of}
use Rattle.der_writer.proofs.named_bits.last_zero_bits.Goals as goal

pub returns-in-Some : goal.returns-in-Some
returns-in-Some c = zero_bits_of c.args.octets.now _ _ c.in-Some.ensures.cases.0
