use Rattle.std.proofs.Common.{◌≡◌, ◌++◌, refl, ap, sym, ◌∙◌, append_assoc}
use Rattle.std.proofs.lemmas.List.{take-append-drop}
use Rattle.der_base.specs.Pretty.{spaced_hex}
use Rattle.der_base.proofs.HexTexts.{spaced_append}
use Rattle.der_object.proofs.Sending.{wrote_then, wrote_stop, wrote_exit}
use Rattle.der_object.proofs.hex.send_spaced.Goals as goal

pub returns-in_err-send_some : goal.returns-in_err-send_some
returns-in_err-send_some g c =
    let done = c.loop-some.invariant.done in
    let s = c.in-Some.ensures.cases in
    let cut : c.loop-some.rest.now ≡ c.in-Some.some.now ++ c.in-Some.others.now = sym (take-append-drop 64 c.loop-some.rest.now) ∙ rw (s.1, s.2) refl in
    rw (done.1 ∙ ap (λ t. done.0 ++ spaced_hex t) cut ∙ ap (λ t. done.0 ++ t) (spaced_append c.in-Some.some.now c.in-Some.others.now))
    (wrote_exit _ c.from_residual.ensures.1 (wrote_then done.2 (wrote_stop _ c.in_err-send_some.ensures)))

pub loop-some-preserved : goal.loop-some-preserved
loop-some-preserved g c =
    let done = c.loop-some.invariant.done in
    let some = c.in-Some.some.now in
    let others = c.in-Some.others.now in
    let s = c.in-Some.ensures.cases in
    let cut : c.loop-some.rest.now ≡ some ++ others = sym (take-append-drop 64 c.loop-some.rest.now) ∙ rw (s.1, s.2) refl in
    record {
      done = (
        done.0 ++ spaced_hex some,
        done.1 ∙ ap (λ t. done.0 ++ spaced_hex t) cut ∙ ap (λ t. done.0 ++ t) (spaced_append some others) ∙ sym (append_assoc done.0 (spaced_hex some) (spaced_hex others)),
        wrote_then done.2 c.in_ok-send_some.ensures,
      );
    }

pub returns : goal.returns
returns g c =
    let done = c.loop-some.invariant.done in
    rw done.1 (wrote_then done.2 c.send_some-2.ensures)
