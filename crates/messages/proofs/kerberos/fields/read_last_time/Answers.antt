use Rattle.std.proofs.lemmas.Result.{err_from_is_err_and}
use Rattle.der_cursor.proofs.FormatLaws.{value_read}
use Rattle.der_cursor.proofs.Sequences.{only_left, only_read, only_stops}
use Rattle.messages.proofs.kerberos.fields.read_last_time.Goals as goal

pub returns-in_err-time : goal.returns-in_err-time
returns-in_err-time c =
    let q = err_from_is_err_and c.from_residual.result c.from_residual.ensures.1 in
    rw (q.1, q.2) (only_stops (value_read _ c.in_err-time.ensures))

pub returns-in_err-end : goal.returns-in_err-end
returns-in_err-end c =
    let q = err_from_is_err_and c.from_residual-in_err-end.result c.from_residual-in_err-end.ensures.1 in
    rw q.1 (only_left (value_read _ c.in_ok-time.ensures) c.in_err-end.ensures.0)

pub returns : goal.returns
returns c = only_read (value_read _ c.in_ok-time.ensures) c.in_ok-end.ensures
