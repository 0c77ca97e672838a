use Rattle.std.proofs.Common.{◌++◌, codes}
use Rattle.std.proofs.lemmas.List.{append-nil}
use Rattle.der_base.specs.Header.{class_of, is_constructed, number_of, length_of}
use Rattle.der_base.specs.Pretty.{header_text, spaces}
use Rattle.der_object.proofs.Sending.{wrote_then, wrote_stop, wrote_exit}
use Rattle.der_object.proofs.TextViews.{not_true, not_false, if_shown, if_hidden}
use Rattle.der_object.proofs.text.send_front.Goals as goal

pub returns-then-not-layout : goal.returns-then-not-layout
returns-then-not-layout g c =
    let h = c.args.header.now in
    let text = header_text (class_of h) (is_constructed h) (number_of h) (length_of h) ++ codes " " in
    rw (if_hidden c.args.layout.headers text (not_true c.args.layout.headers c.if-not-layout.true), append-nil (spaces c.args.indent)) c.send_spaces.ensures

pub returns-in_err-send_spaces : goal.returns-in_err-send_spaces
returns-in_err-send_spaces g c = wrote_exit _ c.from_residual.ensures.1 (wrote_stop _ c.in_err-send_spaces.ensures)

pub returns : goal.returns
returns g c =
    let h = c.args.header.now in
    let text = header_text (class_of h) (is_constructed h) (number_of h) (length_of h) ++ codes " " in
    rw (if_shown c.args.layout.headers text (not_false c.args.layout.headers c.if-not-layout.false)) (wrote_then c.in_ok-send_spaces.ensures c.send_shown_header.ensures)
