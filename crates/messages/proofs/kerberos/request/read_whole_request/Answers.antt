use Rattle.der_base.specs.declared.header.Class.TheVariants.{Application}
use Rattle.der_cursor.specs.Formats.{Only, Required}
use Rattle.messages.specs.Kerberos.Requests.{AsReq, RequestFields}
use Rattle.der_cursor.proofs.OpenedLaws.{in_tag, not_within_named, within_named}
use Rattle.der_cursor.proofs.Sequences.{at_start}
use Rattle.messages.proofs.kerberos.request.read_whole_request.Goals as goal

pub returns-in_err-fields : goal.returns-in_err-fields
returns-in_err-fields c = at_start (Only (Required AsReq)) c.new-input.result c.new-input.ensures
    (not_within_named (in_tag Application 10 RequestFields) _ _ c.open_last.ensures c.in_err-fields.ensures c.from_residual.ensures.1)

pub returns : goal.returns
returns c = at_start (Only (Required AsReq)) c.new-input.result c.new-input.ensures
    (within_named (in_tag Application 10 RequestFields) _ _ _ c.open_last.ensures c.in_ok-fields.ensures c.read_message.ensures)
