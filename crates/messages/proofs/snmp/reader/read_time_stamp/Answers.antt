use Rattle.std.proofs.Common.{rules}
use Rattle.der_cursor.proofs.FormatLaws.{returned, tagged_read}
use Rattle.messages.proofs.snmp.reader.read_time_stamp.Goals as goal

pub returns : goal.returns
returns c = returned (tagged_read _ c.implicit_of.ensures.tagged c.u32.ensures) (search rules)
