use Rattle.std.proofs.lemmas.Result.{err_from_is_err_and}
use Rattle.der_cursor.proofs.FormatLaws.{any_read, left_stops, none_left, some_left}
use Rattle.der_extensions.proofs.user_notice.read_optional_text.Goals as goal

pub returns-then-is_empty : goal.returns-then-is_empty
returns-then-is_empty c = none_left _ (c.is_empty.ensures.0 c.if-is_empty.true)

pub returns-in_err-any : goal.returns-in_err-any
returns-in_err-any c =
    let q = err_from_is_err_and c.from_residual.result c.from_residual.ensures.1 in
    rw (q.1, q.2) (left_stops _ (λ e. let h = c.is_empty.ensures.1 e in cc) (any_read c.in_err-any.ensures))

pub returns : goal.returns
returns c = some_left _ (λ e. let h = c.is_empty.ensures.1 e in cc) (any_read c.in_ok-any.ensures)
