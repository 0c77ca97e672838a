use Rattle.messages.proofs.SnmpLaws.WriterLaws.Requested.{request_encodes, response_encodes}
use Rattle.messages.proofs.snmp.writer.laws.messages_encode.Goals as goal

pub returns : goal.returns
returns c = record { requests = request_encodes; responses = response_encodes }
