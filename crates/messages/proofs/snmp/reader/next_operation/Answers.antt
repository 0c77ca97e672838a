use Rattle.std.proofs.Common.{sym, subst}
use Rattle.std.proofs.lemmas.Result.{err_from_is_err_and}
use Rattle.der_cursor.specs.Formats.{TellsNext}
use Rattle.der_cursor.proofs.ChoiceLaws.{next_stops}
use Rattle.messages.specs.Snmp.Messages.{PduFormat}
use Rattle.messages.proofs.SnmpLaws.FieldLaws.{next_is}
use Rattle.messages.proofs.snmp.reader.next_operation.Goals as goal

pub returns-in_err-any : goal.returns-in_err-any
returns-in_err-any c =
    let q = err_from_is_err_and c.from_residual.result c.from_residual.ensures.1 in
    rw (q.1, q.2) (next_stops PduFormat c.in_err-any.ensures)

pub returns : goal.returns
returns c = subst (λ r. TellsNext PduFormat c.args.fields r) (sym c.ok_or.ensures.value)
    (next_is _ c.in_ok-any.field-0 c.tag-tag.result.0 c.of_tag.result c.in_ok-any.ensures c.tag-tag.ensures c.of_tag.ensures)
