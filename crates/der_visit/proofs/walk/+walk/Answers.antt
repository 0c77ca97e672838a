use Rattle.std.proofs.Common.{◌≡◌, arith, rules}
use Rattle.der_base.specs.Listing.{deeper}
use Rattle.der_visit.specs.Visiting.{through_none}
use Rattle.der_visit.proofs.Visits.{sequence_listing, set_listing, no_listing, through_object, through_more}
use Rattle.der_visit.proofs.walk.+walk.Goals as goal

pub walk_object-returns-in-Sequence : goal.walk_object-returns-in-Sequence
walk_object-returns-in-Sequence g t c =
    let deep : c.saturating_add.result ≡ deeper c.args.depth = search rules in
    let entered = sequence_listing _ c.in-Sequence.items _ _ _ c.in-Sequence.is c.deref.ensures.value deep in
    through_object {R = g.W.Walk.step} c.args.object.now c.visit_object.ensures entered c.walk_items.ensures

pub walk_object-returns-in-Set : goal.walk_object-returns-in-Set
walk_object-returns-in-Set g t c =
    let deep : c.saturating_add-in-Set.result ≡ deeper c.args.depth = search rules in
    let entered = set_listing _ c.in-Set.items _ _ _ c.in-Set.is c.deref-in-Set.ensures.value deep in
    through_object {R = g.W.Walk.step} c.args.object.now c.visit_object.ensures entered c.walk_items-in-Set.ensures

pub walk_object-returns-in_default : goal.walk_object-returns-in_default
walk_object-returns-in_default g t c =
    let none = no_listing _ _ c.in_default.not-Sequence c.in_default.not-Set in
    through_object {R = g.W.Walk.step} c.args.object.now c.visit_object.ensures none through_none

pub walk_items-loop-item-preserved : goal.walk_items-loop-item-preserved
walk_items-loop-item-preserved g t c =
    through_more c.args.items.now c.loop-item.item-index c.item-item.result (omega (arith, c.loop-item-test.true))
    c.item-item.is c.loop-item.invariant c.walk_object.ensures

pub walk_items-loop-item-init : goal.walk_items-loop-item-init
walk_items-loop-item-init g t c = through_none
