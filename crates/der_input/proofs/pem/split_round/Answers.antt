use Rattle.std.proofs.Common.{◌≡◌, ◌++◌, take, drop, length, sym, ap, ◌∙◌, arith, take-append-drop, drop-drop}
use Rattle.memchr.proofs.lemmas.MatchLemmas.{OccursAt-split}
use Rattle.der_input.proofs.pem.split_round.Goals as goal

pub returns : goal.returns
returns c =
    let text = c.args.text.now in
    let needle = c.args.needle.now in
    let place = c.in_ok-place.place in
    let found = c.in_ok-place.ensures in
    let rest : drop place text ≡ needle ++ drop (length needle) (drop place text) =
    OccursAt-split text needle place found.1 ∙ ap (λ w. needle ++ w) (sym (drop-drop (length needle) place text)) in
    record {
      whole = rw (c.split_at-2.ensures.back, c.split_at.ensures.front, c.split_at.ensures.back)
          (sym (take-append-drop place text) ∙ ap (λ w. take place text ++ w) rest);
      first = λ k below. found.0.before k (omega arith) (omega (arith, c.split_at.ensures.front_len));
    }

pub returns-in_err-place : goal.returns-in_err-place
returns-in_err-place c = rw c.from_residual.ensures (λ h. c.in_err-place.ensures h.0 (omega arith) (omega (arith, h.1.fits)) h.1)
