use Rattle.std.proofs.Common.{◌≡◌, ◌+◌, ◌-◌, ◌≤◌, length, take, drop, sym, ap, ◌∙◌, arith, drop-drop}
use Rattle.asn1_modules.proofs.Laid.{lie_more}
use Rattle.asn1_modules.proofs.lexer.tokens_of.Goals as goal

pub loop-first-preserved : goal.loop-first-preserved
loop-first-preserved c =
    let text = c.args.text.now in
    let rest = c.loop-first.rest.now in
    let before = length text - length rest in
    let n = c.in-Ok.piece.length in
    let item = c.split_at.result.0.now in
    let after = c.split_at.result.1.now in
    let few : length rest ≤ length text = c.loop-first.invariant.few in
    let size : length item ≡ n = c.split_at.ensures.front_len in
    let left : length after + n ≡ length rest = c.split_at.ensures.back_len in
    let part : item ≡ take (length item) (drop before text) =
    c.split_at.ensures.front ∙ ap (λ k. take k rest) (sym size) ∙ ap (take (length item)) c.loop-first.invariant.part in
    let laid = c.in_ok-push_item.ensures text c.loop-first.invariant.laid part in
    let reached : before + n ≡ length text - length after = omega (arith, few, left) in
    record {
      few = omega (arith, few, left);
      part = c.split_at.ensures.back ∙ ap (drop n) c.loop-first.invariant.part ∙ drop-drop n before text
          ∙ ap (λ k. drop k text) reached;
      laid = lie_more text 0 _ (before + length item) (length text - length after) laid (omega (arith, size, reached));
    }
