use Rattle.std.proofs.lemmas.Int.{to_z-of_z}
use Rattle.der_writer.proofs.Composing.{first_put, then_put, put_element, then_element}
use Rattle.messages.proofs.snmp.writer.put_response.Goals as goal

pub returns : goal.returns
returns c =
    let fits = c.ranges.request_id in
    let binding = then_put _ _ (first_put _ _ c.open_sequence-binding.ensures c.put_oid.ensures) c.put_octets-2.ensures in
    let bindings = put_element c.open_sequence-binding.ensures binding c.close.ensures in
    let numbers = then_put _ _ (then_put _ _ (first_put _ _ c.open_tagged-pdu.ensures c.put_i32-2.ensures) c.put_i32-3.ensures) c.put_i32-4.ensures in
    let pdu = then_element numbers c.open_sequence-bindings.ensures bindings c.close-2.ensures in
    let front = then_put _ _ (first_put _ _ c.open_sequence-message.ensures c.put_i32.ensures) c.put_octets.ensures in
    let message = then_element front c.open_tagged-pdu.ensures pdu c.close-3.ensures in
    simp to_z-of_z at (put_element c.open_sequence-message.ensures message c.close-4.ensures)
