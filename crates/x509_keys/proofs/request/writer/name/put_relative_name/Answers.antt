use Rattle.der_writer.proofs.Composing.{first_put, put_element, puts_both}
use Rattle.x509_keys.proofs.request.writer.name.put_relative_name.Goals as goal

pub returns : goal.returns
returns c =
    let identifier = first_put _ _ c.open_sequence-sequence.ensures c.put_oid.ensures in
    let attribute = put_element c.open_sequence-sequence.ensures (puts_both c.put_text.ensures identifier) c.close.ensures in
    put_element c.open_set-set.ensures attribute c.close-2.ensures
