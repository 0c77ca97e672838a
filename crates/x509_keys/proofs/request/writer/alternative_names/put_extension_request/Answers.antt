use Rattle.der_writer.proofs.Composing.{first_put, put_element, then_element}
use Rattle.x509_keys.proofs.request.writer.alternative_names.put_extension_request.Goals as goal

pub returns : goal.returns
returns c =
    let identifier = first_put _ _ c.open_sequence-attribute.ensures c.put_oid.ensures in
    let extensions = put_element c.open_sequence-extensions.ensures c.put_extension.ensures c.close.ensures in
    let both = then_element identifier c.open_set-values.ensures extensions c.close-2.ensures in
    put_element c.open_sequence-attribute.ensures both c.close-3.ensures
