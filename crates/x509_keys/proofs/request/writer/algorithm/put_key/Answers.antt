use Rattle.der_writer.proofs.Composing.{put_element, then_put, puts_same}
use Rattle.x509_keys.proofs.RequestLaws.WriterLaws.Keys.{whole_bits}
use Rattle.x509_keys.proofs.request.writer.algorithm.put_key.Goals as goal

pub returns : goal.returns
returns c =
    let key = puts_same (whole_bits _ c.args.key.now) (then_put _ _ c.put_algorithm.ensures c.put_bits.ensures) in
    put_element c.open_sequence-sequence.ensures key c.close.ensures
