use Rattle.std.proofs.Common.{◌-◌, ◌^◌, ◌≤◌, ◌∙◌, map, length, ap, sym, subst, arith, rules, tests}
use Rattle.std.specs.Prelude.{◌==◌}
use Rattle.std.specs.List.{flat_map}
use Rattle.std.proofs.lemmas.Iterator.Consumers.{YieldsList-at, YieldsList-end}
use Rattle.std.proofs.lemmas.Iterator.Splits.{YieldsList-from_slice_split}
use Rattle.c_values.specs.Texts.{PutsText}
use Rattle.c_values.proofs.Puts.{puts_none, puts_more}
use Rattle.der_base.specs.Octets.{groups}
use Rattle.dumarewhi_c.specs.DottedTexts.{components_left, groups_if_arc}
use Rattle.dumarewhi_c.proofs.Dotted.{one_more}
use Rattle.dumarewhi_c.proofs.identifier.put_others.Goals as goal

pub returns-in_default : goal.returns-in_default
returns-in_default c =
    let octets = c.args.octets.now in
    subst (λ o. PutsText octets c.args.at (flat_map groups_if_arc (components_left o)) octets c.args.at) (sym c.in_default.is)
    (puts_none octets c.args.at c.ranges.at.fits)

pub loop-component-init : goal.loop-component-init
loop-component-init c = puts_none c.args.octets.now c.args.at c.ranges.at.fits

pub loop-component-preserved-in-Some-parse_arc : goal.loop-component-preserved-in-Some-parse_arc
loop-component-preserved-in-Some-parse_arc c =
    let octets = c.args.octets.now in
    let loop = c.loop-component in
    let put = c.put_subidentifier-end in
    let arc = c.in-Some-parse_arc.arc in
    let component = c.in-Some-component.component in
    let short : length octets ≤ 2 ^ 64 - 1 = omega arith in
    let more = puts_more octets loop.octets put.new.octets (flat_map groups_if_arc (map (λ x. x.now) loop.yielded)) (groups arc) c.args.at loop.end put.result short loop.invariant put.ensures in
    subst (λ l. PutsText octets c.args.at l put.new.octets put.result) (one_more (λ x. x.now) loop.yielded component arc c.in-Some-parse_arc.ensures) more

pub returns : goal.returns
returns c =
    let loop = c.loop-component in
    let split = c.split-component-items.ensures in
    let all = YieldsList-end
    (YieldsList-at c.into_iter-component-iterator.ensures.into_iter_gives (YieldsList-from_slice_split _ (λ o. o == 46) c.in-Some.text.now split.rest split.done split.closure (λ x b q k. search (rules, tests))))
    loop.yielded _ loop.yielded_by _ _ c.in-None.is c.next.ensures.steps in
    subst (λ l. PutsText c.args.octets.now c.args.at (flat_map groups_if_arc l) loop.octets loop.end) (all.0 ∙ ap components_left (sym c.in-Some.is)) loop.invariant
