use Rattle.std.proofs.Common.{rules}
use Rattle.der_values.specs.Kinds.{bit_strings}
use Rattle.x509.proofs.ReaderLaws.{given_back, optional_read}
use Rattle.x509_keys.proofs.key.read_public_key.Goals as goal

pub returns : goal.returns
returns c = given_back (optional_read bit_strings 1 3 c.implicit.ensures.tagged c.optional_bits.ensures) (search rules)
