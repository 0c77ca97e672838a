use Rattle.der_writer.proofs.Composing.{put_element}
use Rattle.x509_keys.proofs.request.writer.name.put_name.Goals as goal

pub returns : goal.returns
returns c = put_element c.open_sequence-sequence.ensures c.put_relative_names.ensures c.close.ensures
