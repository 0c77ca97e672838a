use Rattle.std.proofs.lemmas.Result.{err_from_is_err_and}
use Rattle.der_cursor.proofs.FormatLaws.{any_read}
use Rattle.messages.proofs.SnmpLaws.MessageLaws.{syntax_stops, syntax_turned}
use Rattle.messages.proofs.snmp.value.read_value.Goals as goal

pub returns-in_err-any : goal.returns-in_err-any
returns-in_err-any c =
    let q = err_from_is_err_and c.from_residual.result c.from_residual.ensures.1 in
    rw (q.1, q.2) (syntax_stops (any_read c.in_err-any.ensures))

pub returns : goal.returns
returns c = syntax_turned _ c.in_ok-any.field-0 c.value_of.result c.map_err.result (any_read c.in_ok-any.ensures) c.value_of.ensures c.map_err.ensures.cases
