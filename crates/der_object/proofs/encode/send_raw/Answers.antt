use Rattle.der_object.proofs.Sending.{wrote_then}
use Rattle.der_object.proofs.encode.send_raw.Goals as goal

pub returns : goal.returns
returns g c = wrote_then (rw c.length.ensures at c.in_ok-send_header.ensures) c.send_content.ensures
