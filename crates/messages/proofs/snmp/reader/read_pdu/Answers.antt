use Rattle.der_cursor.proofs.ChoiceLaws.{next_named, no_choice}
use Rattle.messages.specs.Snmp.Messages.{PduFormat}
use Rattle.messages.proofs.SnmpLaws.FieldLaws.{of_common, of_trap, pdu_read, pdu_stops, pdu_unopened}
use Rattle.messages.proofs.snmp.reader.read_pdu.Goals.{in-Trap+in_ok-content-in-Trap, in_default+in_ok-content-in_default}
use Rattle.messages.proofs.snmp.reader.read_pdu.Goals as goal

pub returns-in_err-operation : goal.returns-in_err-operation
returns-in_err-operation c = no_choice PduFormat _ _ c.next_operation.ensures c.in_err-operation.ensures c.from_residual.ensures.1

pub returns-in_err-inside : goal.returns-in_err-inside
returns-in_err-inside c = pdu_unopened (next_named PduFormat _ c.in_ok-operation.operation c.next_operation.ensures c.in_ok-operation.ensures) c.tag.ensures _ c.open-inside.ensures _ c.in_err-inside.ensures c.from_residual-in_err-inside.ensures.1

pub returns-in_err-content-in-Trap : goal.returns-in_err-content-in-Trap
returns-in_err-content-in-Trap c = pdu_stops (next_named PduFormat _ c.in_ok-operation.operation c.next_operation.ensures c.in_ok-operation.ensures) c.tag.ensures _ c.open-inside.ensures _ c.in_ok-inside.inside c.in_ok-inside.ensures
    (of_trap c.in_ok-inside.inside c.in-Trap.is c.in_err-content-in-Trap.ensures) c.from_residual-in_err-content-in-Trap.ensures.1

pub returns-in_err-content-in_default : goal.returns-in_err-content-in_default
returns-in_err-content-in_default c = pdu_stops (next_named PduFormat _ c.in_ok-operation.operation c.next_operation.ensures c.in_ok-operation.ensures) c.tag.ensures _ c.open-inside.ensures _ c.in_ok-inside.inside c.in_ok-inside.ensures
    (of_common c.in_ok-inside.inside c.in_default.not-Trap c.in_err-content-in_default.ensures) c.from_residual-in_err-content-in_default.ensures.1

pub returns : goal.returns
returns c = elim c.match-operation.branch [
  | in-Trap+in_ok-content-in-Trap w ↦ rw w.content-is (pdu_read (next_named PduFormat _ c.in_ok-operation.operation c.next_operation.ensures c.in_ok-operation.ensures) c.tag.ensures _ c.open-inside.ensures c.in_ok-inside.inside c.in_ok-inside.ensures
      (of_trap c.in_ok-inside.inside w.in-Trap.is w.in_ok-content-in-Trap.ensures))
  | in_default+in_ok-content-in_default w ↦ rw w.content-is (pdu_read (next_named PduFormat _ c.in_ok-operation.operation c.next_operation.ensures c.in_ok-operation.ensures) c.tag.ensures _ c.open-inside.ensures c.in_ok-inside.inside c.in_ok-inside.ensures
      (of_common c.in_ok-inside.inside w.in_default.not-Trap w.in_ok-content-in_default.ensures))
]
