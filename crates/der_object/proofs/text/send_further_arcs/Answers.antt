use Rattle.std.proofs.Common.{◌++◌, ap, sym, ◌∙◌, append_assoc, codes, decimal}
use Rattle.der_base.specs.Oids.{arcs_left}
use Rattle.der_base.specs.Pretty.{pointed}
use Rattle.der_object.proofs.Sending.{wrote_then, wrote_stop, wrote_exit}
use Rattle.der_object.proofs.text.send_further_arcs.Goals as goal

pub returns-in_err-send_pointed : goal.returns-in_err-send_pointed
returns-in_err-send_pointed g c =
    let done = c.loop-arc.invariant.done in
    rw (done.1 ∙ ap (λ l. done.0 ++ pointed l) c.in-Some.ensures.steps)
    (wrote_exit _ c.from_residual.ensures.1 (wrote_then done.2 (wrote_stop _ c.in_err-send_pointed.ensures)))

pub loop-arc-preserved : goal.loop-arc-preserved
loop-arc-preserved g c =
    let done = c.loop-arc.invariant.done in
    let text = codes "." ++ decimal c.in-Some.arc in
    let others = pointed (arcs_left c.next.new.self) in
    record {
      done = (
        done.0 ++ text,
        done.1 ∙ ap (λ l. done.0 ++ pointed l) c.in-Some.ensures.steps ∙ sym (append_assoc done.0 text others),
        wrote_then done.2 c.in_ok-send_pointed.ensures,
      );
    }
