use Rattle.der_object.proofs.Sending.{wrote_then, wrote_stop, wrote_exit}
use Rattle.der_object.proofs.text.send_undecoded.Goals as goal

pub returns-in_err-send_octets : goal.returns-in_err-send_octets
returns-in_err-send_octets g c = wrote_exit _ c.from_residual.ensures.1 (wrote_stop _ c.in_err-send_octets.ensures)

pub returns : goal.returns
returns g c = wrote_then c.in_ok-send_octets.ensures c.send_str.ensures
