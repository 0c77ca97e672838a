use Rattle.std.proofs.Common.{drop, sym, ap, ◌∙◌, arith}
use Rattle.std.proofs.lemmas.List.{take_rest}
use Rattle.der_base.proofs.Leaves.Decided.{never}
use Rattle.der_base.proofs.Leaves.Texts.{pairs_match, pairs_match_step, pairs_match_not, pairs_match_end, utf16_of_pairs, pairs_of_utf16}
use Rattle.der_base.proofs.text.is_utf16.Goals as goal

pub returns-then-begins_low_surrogate-expects_low : goal.returns-then-begins_low_surrogate-expects_low
returns-then-begins_low_surrogate-expects_low c = (
  (λ k. absurd (never k)),
  (λ h. sym
      (c.loop-rest.invariant
      ∙ pairs_match_not c.loop-rest.expects_low c.begins_low_surrogate.result c.loop-rest.rest.now c.in-len2-up.len_at_least c.begins_low_surrogate.ensures c.if-begins_low_surrogate-expects_low.true)
      ∙ pairs_of_utf16 c.args.content.now (λ k. omega (arith, c.type_inv.content k)) h),
)

pub loop-rest-preserved : goal.loop-rest-preserved
loop-rest-preserved c =
    rw (take_rest c.loop-rest.rest.now 2)
    (c.loop-rest.invariant
    ∙ pairs_match_step c.loop-rest.expects_low c.begins_low_surrogate.result c.loop-rest.rest.now c.in-len2-up.len_at_least c.begins_low_surrogate.ensures c.if-begins_low_surrogate-expects_low.false
    ∙ ap (λ b. pairs_match b (drop 2 c.loop-rest.rest.now)) (sym c.begins_high_surrogate-expects_low.ensures))

pub returns : goal.returns
returns c =
    let e = c.loop-rest.invariant ∙ pairs_match_end c.loop-rest.expects_low c.loop-rest.rest.now c.in_default.len_below in
    ((λ k. utf16_of_pairs c.args.content.now (λ k. omega (arith, c.type_inv.content k)) (e ∙ k)), (λ h. sym e ∙ pairs_of_utf16 c.args.content.now (λ k. omega (arith, c.type_inv.content k)) h))
