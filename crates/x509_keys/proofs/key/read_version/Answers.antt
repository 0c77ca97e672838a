use Rattle.std.proofs.Common.{ap, arith}
use Rattle.std.proofs.lemmas.Int.{ints}
use Rattle.der_base.specs.Numbers.{unsigned}
use Rattle.der_values.specs.Kinds.{numbers}
use Rattle.x509.specs.Readers.{fault_of}
use Rattle.x509.proofs.ReaderLaws.{not_so, required_read, required_refused, value_read}
use Rattle.x509_keys.proofs.NameLaws.{passed}
use Rattle.x509_keys.proofs.key.read_version.Goals as goal

pub returns-in_err-version : goal.returns-in_err-version
returns-in_err-version c = passed c.from_residual.ensures.1 (required_refused (value_read (λ r. numbers r (unsigned 32)) 2 c.in_err-version.ensures))

pub returns-then-version-gt1 : goal.returns-then-version-gt1
returns-then-version-gt1 c = not_so (value_read (λ r. numbers r (unsigned 32)) 2 c.in_ok-version.ensures) (λ h. absurd (omega (arith, ints))) (ap (λ x. fault_of x) c.refuse.ensures)

pub returns : goal.returns
returns c = required_read (value_read (λ r. numbers r (unsigned 32)) 2 c.in_ok-version.ensures) (omega (arith, ints))
