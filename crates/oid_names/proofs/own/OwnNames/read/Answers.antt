use Rattle.std.proofs.Common.{◌≡◌, ◌<◌, ◌^◌, ◌∙◌, false, true, length, take, map, ap, sym, subst, refl, arith, lit<, rules, inl, inr, Some}
use Rattle.std.specs.List.{flat_map, list_any}
use Rattle.std.proofs.lemmas.Iterator.Consumers.{YieldsList-end, YieldsList-so_far, YieldsList-turn}
use Rattle.std.proofs.lemmas.Iterator.Splits.{YieldsList-from_str_split}
use Rattle.std.proofs.lemmas.List.Folds.{flat_map-map}
use Rattle.std.proofs.lemmas.List.Splits.{length-slice_split}
use Rattle.std.proofs.lemmas.List.Sums.{count_by-le-length}
use Rattle.std.specs.Prelude.{◌==◌}
use Rattle.oid_names.specs.OwnNames.{is_wrong, lines_in, on_line}
use Rattle.oid_names.proofs.OwnLaws.{any_map, position_is}
use Rattle.oid_names.proofs.own.OwnNames.read.Goals as goal

pub returns-in-Err-Wrong : goal.returns-in-Err-Wrong
returns-in-Err-Wrong c =
    let text = c.args.text.now in
    let lines = lines_in text in
    let seen = c.lines.yielded in
    let turn = YieldsList-turn (YieldsList-from_str_split {s = c.into_iter-line-iterator.result} 10 text (lit< tt) (search rules) (search rules) (search rules))
    c.lines.yielded _ c.lines.yielded_by _ _ c.in-Some.line c.in-Some.is c.next.ensures.steps in
    let so_far = YieldsList-so_far (YieldsList-from_str_split {s = c.into_iter-line-iterator.result} 10 text (lit< tt) (search rules) (search rules) (search rules))
    c.lines.yielded _ c.lines.yielded_by in
    let before : list_any is_wrong (take (length seen) lines) ≡ false = ap (list_any is_wrong) (sym so_far) ∙ any_map is_wrong (λ x. x.now) seen ∙ c.lines.invariant.none_wrong in
    let wrong : is_wrong c.in-Some.line.now ≡ true = elim c.in-Err-Wrong.ensures.err [ inl other ↦ cc | inr same ↦ same.1 ] in
    let at = position_is is_wrong lines (length seen) c.in-Some.line.now turn.0 before (ap is_wrong (sym turn.1) ∙ wrong) in
    let many = length-slice_split (λ b. b == 10) text in
    let few = count_by-le-length (λ b. b == 10) text in
    let fits : length text < 2 ^ 64 = search rules in
    let less : length seen < 2 ^ 64 = omega (arith, turn.0, many, few, fits) in
    at ∙ ap Some (sym (c.lines.invariant.counted less))

pub returns : goal.returns
returns c =
    let all = YieldsList-end (YieldsList-from_str_split {s = c.into_iter-line-iterator.result} 10 c.args.text.now (lit< tt) (search rules) (search rules) (search rules))
    c.lines.yielded _ c.lines.yielded_by _ _ c.in-None.is c.next.ensures.steps in (
      c.lines.invariant.entries ∙ sym (flat_map-map on_line (λ x. x.now) c.lines.yielded) ∙ ap (flat_map on_line) all.0,
      ap (list_any is_wrong) (sym all.0) ∙ any_map is_wrong (λ x. x.now) c.lines.yielded ∙ c.lines.invariant.none_wrong,
    )
