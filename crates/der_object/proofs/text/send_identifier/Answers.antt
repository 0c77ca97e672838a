use Rattle.der_object.proofs.Sending.{wrote_then, wrote_stop, wrote_exit}
use Rattle.der_object.proofs.text.send_identifier.Goals as goal

pub returns-in_err-send_str : goal.returns-in_err-send_str
returns-in_err-send_str g c = wrote_exit _ c.from_residual.ensures.1 (wrote_stop _ (wrote_stop _ (wrote_stop _ c.in_err-send_str.ensures)))

pub returns-in_err-send_str-2 : goal.returns-in_err-send_str-2
returns-in_err-send_str-2 g c = wrote_exit _ c.from_residual-in_err-send_str-2.ensures.1 (wrote_stop _ (wrote_stop _ (wrote_then c.in_ok-send_str.ensures c.in_err-send_str-2.ensures)))

pub returns-in_err-send_arcs : goal.returns-in_err-send_arcs
returns-in_err-send_arcs g c = wrote_exit _ c.from_residual-in_err-send_arcs.ensures.1
    (wrote_stop _ (wrote_then (wrote_then c.in_ok-send_str.ensures c.in_ok-send_str-2.ensures) c.in_err-send_arcs.ensures))

pub returns : goal.returns
returns g c = wrote_then (wrote_then (wrote_then c.in_ok-send_str.ensures c.in_ok-send_str-2.ensures) c.in_ok-send_arcs.ensures) c.send_str-3.ensures
