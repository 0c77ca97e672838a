use Rattle.std.proofs.Common.{ap, pos, rules}
use Rattle.std.proofs.lemmas.Result.{err_from_is_err_and}
use Rattle.der_cursor.proofs.FormatLaws.{value_read}
use Rattle.messages.specs.declared.snmp.message.Version.TheVariants.{One, TwoC}
use Rattle.messages.proofs.SnmpLaws.MessageLaws.{not_version, version_read, version_stops}
use Rattle.messages.proofs.snmp.reader.read_version.Goals as goal

pub returns-in_err-u32 : goal.returns-in_err-u32
returns-in_err-u32 c =
    let q = err_from_is_err_and c.from_residual.result c.from_residual.ensures.1 in
    rw (q.1, q.2) (version_stops (value_read _ c.in_err-u32.ensures))

pub returns-in-0 : goal.returns-in-0
returns-in-0 c = version_read One c.in_ok-u32.field-0 (ap pos c.in-0.is) (value_read _ c.in_ok-u32.ensures)

pub returns-in-1 : goal.returns-in-1
returns-in-1 c = version_read TwoC c.in_ok-u32.field-0 (ap pos c.in-1.is) (value_read _ c.in_ok-u32.ensures)

pub returns-in_default : goal.returns-in_default
returns-in_default c = not_version c.in_ok-u32.field-0 (search rules) (search rules) (value_read _ c.in_ok-u32.ensures)
