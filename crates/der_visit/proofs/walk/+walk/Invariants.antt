use Rattle.std.proofs.Common.{take}
use Rattle.der_base.specs.Listing.{list_listing}
use Rattle.der_object.specs.View.{trees}
use Rattle.der_visit.specs.Visiting.{TakenThrough}
use Rattle.der_visit.proofs.walk.+walk.Given as goal

-- the items so far are visited
abbrev pub invariant-walk_items-loop-item : goal.invariant-walk_items-loop-item
invariant-walk_items-loop-item g l =
    TakenThrough g.W.Walk.step (list_listing (trees (take l.item-index l.items)) l.depth) l.initial.visitor l.visitor
