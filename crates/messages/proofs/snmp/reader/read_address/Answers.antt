use Rattle.std.proofs.Common.{rules}
use Rattle.std.proofs.lemmas.Result.{err_from_is_err_and}
use Rattle.der_cursor.proofs.FormatLaws.{returned, tagged_read}
use Rattle.messages.proofs.SnmpLaws.MessageLaws.{address_stops, address_turned}
use Rattle.messages.proofs.snmp.reader.read_address.Goals as goal

pub returns-in_err-octets : goal.returns-in_err-octets
returns-in_err-octets c =
    let q = err_from_is_err_and c.from_residual.result c.from_residual.ensures.1 in
    rw (q.1, q.2) (address_stops (tagged_read _ c.implicit_of.ensures.tagged c.in_err-octets.ensures))

pub returns : goal.returns
returns c = returned (address_turned _ c.in_ok-octets.octets c.address_of.result c.map_err.result (tagged_read _ c.implicit_of.ensures.tagged c.in_ok-octets.ensures) c.address_of.ensures c.map_err.ensures.cases) (search rules)
