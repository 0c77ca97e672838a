use Rattle.der_cursor.proofs.FrontLaws.{front_opened, front_settled, front_unopened}
use Rattle.messages.specs.Snmp.Messages.{MessageContent}
use Rattle.messages.proofs.snmp.reader.read_message.Goals as goal

pub returns-in_err-fields : goal.returns-in_err-fields
returns-in_err-fields c = front_unopened 16 MessageContent _ _ _ c.by-input.ensures c.open_sequence.ensures _ c.in_err-fields.ensures c.from_residual.ensures.1

pub returns-in-Ok : goal.returns-in-Ok
returns-in-Ok c = front_opened 16 MessageContent _ _ _ c.by-input.ensures c.open_sequence.ensures c.in_ok-fields.fields c.in-Ok.message c.remaining.result c.in_ok-fields.ensures c.in-Ok.ensures c.remaining.ensures

pub returns-in-Err : goal.returns-in-Err
returns-in-Err c = front_settled 16 MessageContent _ _ _ c.by-input.ensures c.open_sequence.ensures c.in_ok-fields.fields c.in-Err.refused c.settled.result c.in_ok-fields.ensures c.in-Err.ensures c.settled.ensures
