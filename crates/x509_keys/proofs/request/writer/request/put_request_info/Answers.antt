use Rattle.der_writer.proofs.Composing.{first_put, put_element, puts_both, then_element}
use Rattle.x509_keys.proofs.request.writer.request.put_request_info.Goals as goal

pub returns : goal.returns
returns c =
    let version = first_put _ _ c.open_sequence-sequence.ensures c.put_u32.ensures in
    let key = puts_both c.put_public_key_info.ensures (puts_both c.put_name.ensures version) in
    let all = then_element key c.open_tagged-attributes.ensures c.put_attributes.ensures c.close.ensures in
    put_element c.open_sequence-sequence.ensures all c.close-2.ensures
