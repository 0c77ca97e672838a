use Rattle.messages.proofs.SnmpLaws.WriterLaws.Requested.{requests_only, responses_only}
use Rattle.messages.proofs.snmp.writer.laws.messages_are_written.Goals as goal

pub returns : goal.returns
returns c = record { requests = requests_only; responses = responses_only }
