use Rattle.std.proofs.Common.{◌≡◌, ◌+◌, ◌<◌, ◌∙◌, sym, ap, arith, rules, refl, length, drop}
use Rattle.std.proofs.lemmas.List.{drop-set-lt, length-set, drop-drop}
use denote.Hole.Carrier
use Rattle.der_base.specs.Listing.{deeper}
use Rattle.der_object.specs.declared.object.BerObjectContent.{out-BerObjectContent, roll-BerObjectContent}
use Rattle.der_object.proofs.Trees.{sequence_tree, set_tree}
use Rattle.der_visit.specs.Changing.{at_sequence, at_set, at_object, at_leaf, at_end}
use Rattle.der_visit.proofs.Changes.{no_items, sequence_lower, set_lower, item_height, item_of_drop, changes_more}
use Rattle.der_visit.proofs.walk_mut.+walk.Goals as goal

pub walk_object-walk_content-requires : goal.walk_object-walk_content-requires
walk_object-walk_content-requires g t c κs within = (omega (arith, c.visit_object_mut.ensures.no_higher, c.decreases), within)

pub walk_object-returns : goal.walk_object-returns
walk_object-returns g t c = at_object c.visit_object_mut.ensures.step c.walk_content.ensures

pub walk_content-walk_items-requires : goal.walk_content-walk_items-requires
walk_content-walk_items-requires g t c κs within =
    (rw c.in-Sequence.items-is (omega (arith, sequence_lower _ _ c.in-Sequence.is, c.decreases)), within)

pub walk_content-walk_items-requires-in-Set : goal.walk_content-walk_items-requires-in-Set
walk_content-walk_items-requires-in-Set g t c κs within =
    (rw c.in-Set.items-is (omega (arith, set_lower _ _ c.in-Set.is, c.decreases)), within)

pub walk_content-returns-in-Sequence : goal.walk_content-returns-in-Sequence
unfolding out-BerObjectContent roll-BerObjectContent Carrier.out Carrier.roll
walk_content-returns-in-Sequence g t c =
    let deep : c.saturating_add.result ≡ deeper c.args.depth = search rules in
    rw (c.in-Sequence.is, sequence_tree, sequence_tree) (at_sequence (rw (c.in-Sequence.items-is, deep) at c.walk_items.ensures))

pub walk_content-returns-in-Set : goal.walk_content-returns-in-Set
unfolding out-BerObjectContent roll-BerObjectContent Carrier.out Carrier.roll
walk_content-returns-in-Set g t c =
    let deep : c.saturating_add-in-Set.result ≡ deeper c.args.depth = search rules in
    rw (c.in-Set.is, set_tree, set_tree) (at_set (rw (c.in-Set.items-is, deep) at c.walk_items-in-Set.ensures))

pub walk_content-returns-in_default : goal.walk_content-returns-in_default
walk_content-returns-in_default g t c = at_leaf (no_items _ c.in_default.not-Sequence c.in_default.not-Set)

pub walk_items-loop-i-init : goal.walk_items-loop-i-init
walk_items-loop-i-init g t c = record { same_length = refl; unvisited = refl; visited = at_end }

pub walk_items-walk_object-requires : goal.walk_items-walk_object-requires
walk_items-walk_object-requires g t c κs within =
    let xs = c.loop-i.items.items in
    let i = c.loop-i.i in
    let room : i < length xs = omega arith in
    let here = sym c.loop-i.invariant.unvisited ∙ item_of_drop xs i c.index_mut.result.now room c.index_mut.ensures.value in
    (omega (arith, item_height c.args.items.now.items i _ _ here, c.decreases), within)

pub walk_items-loop-i-preserved : goal.walk_items-loop-i-preserved
walk_items-loop-i-preserved g t c =
    let inv = c.loop-i.invariant in
    let xs = c.loop-i.items.items in
    let i = c.loop-i.i in
    let y = c.walk_object.new.object in
    let room : i < length xs = omega arith in
    let here = sym inv.unvisited ∙ item_of_drop xs i c.index_mut.result.now room c.index_mut.ensures.value in
    record {
      same_length = length-set xs i y ∙ inv.same_length;
      unvisited = rw (drop-set-lt (i + 1) xs i y (omega arith))
          (sym (drop-drop 1 i xs) ∙ ap (drop 1) inv.unvisited ∙ drop-drop 1 i c.args.items.now.items);
      visited = changes_more c.args.items.now.items xs i c.index_mut.result.now y room here inv.visited c.walk_object.ensures;
    }
