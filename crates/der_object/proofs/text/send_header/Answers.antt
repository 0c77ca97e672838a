use Rattle.der_object.proofs.Sending.{wrote_then, wrote_stop, wrote_exit}
use Rattle.der_object.proofs.text.send_header.Goals as goal

pub returns-in_err-send_str : goal.returns-in_err-send_str
returns-in_err-send_str g c = wrote_exit _ c.from_residual.ensures.1 (wrote_stop _ c.in_err-send_str.ensures)

pub returns-in_err-send_tag_name : goal.returns-in_err-send_tag_name
returns-in_err-send_tag_name g c = wrote_exit _ c.from_residual-in_err-send_tag_name.ensures.1
    (wrote_stop _ (wrote_stop _ (wrote_stop _ (wrote_stop _ (wrote_then c.in_ok-send_str.ensures (rw (c.class.ensures, c.tag.ensures) at c.in_err-send_tag_name.ensures))))))

pub returns-in_err-send_str-2 : goal.returns-in_err-send_str-2
returns-in_err-send_str-2 g c = wrote_exit _ c.from_residual-in_err-send_str-2.ensures.1
    (wrote_stop _ (wrote_stop _ (wrote_stop _
    (wrote_then (wrote_then c.in_ok-send_str.ensures (rw (c.class.ensures, c.tag.ensures) at c.in_ok-send_tag_name.ensures)) c.in_err-send_str-2.ensures))))

pub returns-in_err-send_form : goal.returns-in_err-send_form
returns-in_err-send_form g c = wrote_exit _ c.from_residual-in_err-send_form.ensures.1
    (wrote_stop _ (wrote_stop _ (wrote_then (wrote_then (wrote_then c.in_ok-send_str.ensures (rw (c.class.ensures, c.tag.ensures) at c.in_ok-send_tag_name.ensures))
    c.in_ok-send_str-2.ensures) (rw (c.constructed.ensures) at c.in_err-send_form.ensures))))

pub returns-in_err-send_str-3 : goal.returns-in_err-send_str-3
returns-in_err-send_str-3 g c = wrote_exit _ c.from_residual-in_err-send_str-3.ensures.1
    (wrote_stop _ (wrote_then (wrote_then (wrote_then (wrote_then c.in_ok-send_str.ensures (rw (c.class.ensures, c.tag.ensures) at c.in_ok-send_tag_name.ensures))
    c.in_ok-send_str-2.ensures) (rw (c.constructed.ensures) at c.in_ok-send_form.ensures)) c.in_err-send_str-3.ensures))

pub returns : goal.returns
returns g c = wrote_then (wrote_then (wrote_then
    (wrote_then (wrote_then c.in_ok-send_str.ensures (rw (c.class.ensures, c.tag.ensures) at c.in_ok-send_tag_name.ensures)) c.in_ok-send_str-2.ensures)
    (rw (c.constructed.ensures) at c.in_ok-send_form.ensures)) c.in_ok-send_str-3.ensures) (rw (c.length.ensures) at c.send_length.ensures)
