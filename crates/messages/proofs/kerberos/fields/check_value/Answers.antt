use Rattle.std.proofs.Common.{arith}
use Rattle.std.proofs.lemmas.Int.{ints}
use Rattle.der_cursor.proofs.FormatLaws.{value_read}
use Rattle.der_cursor.proofs.FieldLaws.{gives, got, refused, refuses, returned_refusal}
use Rattle.messages.proofs.KerberosLaws.Laws.{got_limited, not_limited, refused_limited}
use Rattle.messages.proofs.kerberos.fields.check_value.Goals as goal

pub returns-in_err-read : goal.returns-in_err-read
returns-in_err-read c = returned_refusal _ (refused_limited _ _ (refused (value_read _ c.in_err-read.ensures))) c.from_residual.ensures.1

pub returns-then-read-value : goal.returns-then-read-value
returns-then-read-value c = refuses (not_limited _ _ (λ h. absurd (omega (arith, ints))) (got (value_read _ c.in_ok-read.ensures)))

pub returns : goal.returns
returns c = gives (omega (arith, ints)) (got_limited _ _ (omega (arith, ints)) (got (value_read _ c.in_ok-read.ensures)))
