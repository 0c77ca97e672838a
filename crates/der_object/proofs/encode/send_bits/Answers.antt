use Rattle.der_object.proofs.Sending.{wrote_then}
use Rattle.der_object.proofs.encode.send_bits.Goals as goal

pub returns : goal.returns
returns g c = wrote_then c.in_ok-send.ensures c.send-2.ensures
