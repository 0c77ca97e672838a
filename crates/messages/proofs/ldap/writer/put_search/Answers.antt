use Rattle.der_writer.proofs.Composing.{first_put, then_put, put_element, then_element, puts_both}
use Rattle.messages.proofs.LdapLaws.WriterLaws.Numbers.{number_put}
use Rattle.messages.proofs.ldap.writer.put_search.Goals as goal

pub returns : goal.returns
returns c =
    let base = first_put _ _ c.open-request.ensures c.put_octets.ensures in
    let scope = then_put 10 _ base (number_put 10 c.number.ensures c.put_enumerated.ensures) in
    let aliases = then_put 10 _ scope (number_put 10 c.number-2.ensures c.put_enumerated-2.ensures) in
    let limits = then_put _ _ (then_put _ _ aliases c.put_u32-2.ensures) c.put_u32-3.ensures in
    let filter = puts_both c.put_filter.ensures (then_put _ _ limits c.put_bool.ensures) in
    let request = then_element filter c.open_sequence-attributes.ensures c.put_texts.ensures c.close.ensures in
    let id = first_put _ _ c.open_sequence-message.ensures c.put_u32.ensures in
    put_element c.open_sequence-message.ensures (then_element id c.open-request.ensures request c.close-2.ensures) c.close-3.ensures
