use Rattle.std.proofs.Common.{refl}
use Rattle.der_cursor.proofs.ChoiceLaws.{choice_read, choice_stops, next_named, no_choice}
use Rattle.messages.specs.Ldap.Messages.{ProtocolOp}
use Rattle.messages.proofs.ldap.reader.read_operation.Goals as goal

pub returns-in_err-operation : goal.returns-in_err-operation
returns-in_err-operation c = no_choice ProtocolOp _ _ c.next_operation.ensures c.in_err-operation.ensures c.from_residual.ensures.1

pub returns-in_err-content : goal.returns-in_err-content
returns-in_err-content c =
    choice_stops ProtocolOp (next_named ProtocolOp _ c.in_ok-operation.operation c.next_operation.ensures c.in_ok-operation.ensures) _
    c.from_residual-in_err-content.ensures.1 c.in_err-content.ensures

pub returns : goal.returns
returns c = choice_read ProtocolOp (next_named ProtocolOp _ c.in_ok-operation.operation c.next_operation.ensures c.in_ok-operation.ensures) refl c.in_ok-content.ensures
