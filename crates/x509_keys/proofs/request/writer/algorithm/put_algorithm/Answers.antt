use Rattle.der_writer.proofs.Composing.{first_put, put_element, puts_both}
use Rattle.x509_keys.proofs.request.writer.algorithm.put_algorithm.Goals as goal

pub returns : goal.returns
returns c =
    let identifier = first_put _ _ c.open_sequence-sequence.ensures c.put_oid.ensures in
    put_element c.open_sequence-sequence.ensures (puts_both c.put_parameters.ensures identifier) c.close.ensures
