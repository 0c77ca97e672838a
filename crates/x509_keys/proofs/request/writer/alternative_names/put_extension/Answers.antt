use Rattle.der_writer.proofs.Composing.{first_put, put_element, puts_both, puts_within}
use Rattle.x509_keys.proofs.request.writer.alternative_names.put_extension.Goals as goal

pub returns : goal.returns
returns c =
    let identifier = first_put _ _ c.open_sequence-extension.ensures c.put_oid.ensures in
    let value = puts_within c.close.ensures c.put_alternative_names.ensures c.open_octet_string-value.ensures in
    put_element c.open_sequence-extension.ensures (puts_both value identifier) c.close-2.ensures
