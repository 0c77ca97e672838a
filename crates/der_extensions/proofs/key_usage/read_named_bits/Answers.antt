use Rattle.std.proofs.Common.{rules}
use Rattle.std.proofs.lemmas.Result.{err_from_is_err_and}
use Rattle.der_values.specs.Kinds.{bit_strings}
use Rattle.der_cursor.proofs.FormatLaws.{limited_read, limited_stops, not_limited, value_read}
use Rattle.der_extensions.proofs.key_usage.read_named_bits.Goals as goal

pub returns-in_err-bits : goal.returns-in_err-bits
returns-in_err-bits c =
    let q = err_from_is_err_and c.from_residual.result c.from_residual.ensures.1 in
    rw (q.1, q.2) (limited_stops _ _ (value_read bit_strings c.in_err-bits.ensures))

pub returns-then-not-ends_in_one : goal.returns-then-not-ends_in_one
returns-then-not-ends_in_one c = not_limited _ _ (λ h. let e = c.ends_in_one.ensures.1 h in cc) (value_read bit_strings c.in_ok-bits.ensures)

pub returns : goal.returns
returns c = limited_read _ _ (c.ends_in_one.ensures.0 (search rules)) (value_read bit_strings c.in_ok-bits.ensures)
