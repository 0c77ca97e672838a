use Rattle.der_object.proofs.Sending.{wrote_then, wrote_stop, wrote_exit}
use Rattle.der_object.proofs.text.send_shown_header.Goals as goal

pub returns-in_err-send_header : goal.returns-in_err-send_header
returns-in_err-send_header g c = wrote_exit _ c.from_residual.ensures.1 (wrote_stop _ c.in_err-send_header.ensures)

pub returns : goal.returns
returns g c = wrote_then c.in_ok-send_header.ensures c.send_str.ensures
