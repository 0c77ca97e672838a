use Rattle.std.proofs.Common.{rules}
use Rattle.std.proofs.lemmas.Result.{err_from_is_err_and}
use Rattle.der_values.specs.Kinds.{integers}
use Rattle.der_cursor.proofs.FormatLaws.{limited_read, limited_stops, not_limited, value_read}
use Rattle.der_extensions.proofs.crl_number.read_natural.Goals as goal

pub returns-in_err-number : goal.returns-in_err-number
returns-in_err-number c =
    let q = err_from_is_err_and c.from_residual.result c.from_residual.ensures.1 in
    rw (q.1, q.2) (limited_stops _ _ (value_read integers c.in_err-number.ensures))

pub returns-then-is_below_zero : goal.returns-then-is_below_zero
returns-then-is_below_zero c = not_limited _ _ (λ h. h (c.is_below_zero.ensures.0 (search rules))) (value_read integers c.in_ok-number.ensures)

pub returns : goal.returns
returns c = limited_read _ _ (λ h. let e = c.is_below_zero.ensures.1 h in cc) (value_read integers c.in_ok-number.ensures)
