use Rattle.std.proofs.Common.{not, sym, ap, ◌∙◌}
use Rattle.std.specs.List.{list_all}
use Rattle.der_base.specs.Arcs.{subidentifiers}
use Rattle.der_values.specs.ArcNumbers.{fits_u128}
use Rattle.der_values.proofs.SmallArcs.{none_above, one_fits, one_is_greater, some_below, some_open}
use Rattle.der_values.proofs.u128_arcs.fit_u128.Goals as goal

pub returns-then-not-are_ended : goal.returns-then-not-are_ended
returns-then-not-are_ended c = sym (some_open (subidentifiers c.args.octets.now) (sym c.are_ended.ensures ∙ c.if-not-are_ended.true))

pub returns-then-is_none : goal.returns-then-is_none
returns-then-is_none c =
    let big = none_above c.number_of.result _ _ c.number_of.ensures (c.is_none.ensures ∙ ap not c.if-is_none.true) in
    sym (one_is_greater c.loop-groups.left.now c.in-Some.groups.now c.in-Some.rest.now c.in-Some.ensures.0 big) ∙ c.loop-groups.invariant.decides

pub loop-groups-preserved : goal.loop-groups-preserved
loop-groups-preserved c =
    let small = some_below c.number_of.result _ _ c.number_of.ensures (c.is_none.ensures ∙ ap not c.if-is_none.false) in
    record {
      ended = c.in-Some.ensures.1;
      decides = one_fits c.loop-groups.left.now c.in-Some.groups.now c.in-Some.rest.now c.in-Some.ensures.0 c.loop-groups.invariant.ended small ∙ c.loop-groups.invariant.decides;
    }

pub returns : goal.returns
returns c = sym (ap (λ w. list_all fits_u128 (subidentifiers w)) c.in_default.ensures) ∙ c.loop-groups.invariant.decides
