use Rattle.std.proofs.Common.{arith}
use Rattle.std.proofs.lemmas.Result.{err_from_is_err_and}
use Rattle.der_values.specs.Kinds.{texts}
use Rattle.der_cursor.proofs.FormatLaws.{limited_read, limited_stops, not_limited, value_read}
use Rattle.der_extensions.proofs.organization_identifier.read_text_of.Goals as goal

pub returns-in_err-text : goal.returns-in_err-text
returns-in_err-text c =
    let q = err_from_is_err_and c.from_residual.result c.from_residual.ensures.1 in
    rw (q.1, q.2) (limited_stops _ _ (value_read (λ r. texts 19) c.in_err-text.ensures))

pub returns-then-text-count : goal.returns-then-text-count
returns-then-text-count c = not_limited _ _ (λ h. omega (arith, h)) (value_read (λ r. texts 19) c.in_ok-text.ensures)

pub returns : goal.returns
returns c = limited_read _ _ (omega arith) (value_read (λ r. texts 19) c.in_ok-text.ensures)
