use Rattle.std.proofs.Common.{◌≡◌, ◌+◌, ◌*◌, length, take, drop}
use Rattle.der_base.specs.Tree.{height, content_height, list_height}
use Rattle.der_object.specs.View.{tree, content_tree, trees}
use Rattle.der_visit.specs.Changing.{ChangesItems}
use Rattle.der_visit.proofs.walk_mut.+walk.Given as goal

abbrev pub decreases-walk_object : goal.decreases-walk_object
decreases-walk_object g l = 3 * height (tree l.object.now) + 1

abbrev pub decreases-walk_content : goal.decreases-walk_content
decreases-walk_content g l = 3 * content_height (content_tree l.content.now)

abbrev pub decreases-walk_items : goal.decreases-walk_items
decreases-walk_items g l = 3 * list_height (trees l.items.now.items) + 2

-- the items before i are changed, and the others are as they were
abbrev pub invariant-walk_items-loop-i : goal.invariant-walk_items-loop-i
invariant-walk_items-loop-i g l = record {
  same_length : length l.items.items ≡ length l.initial.items.items;
  unvisited : drop l.i l.items.items ≡ drop l.i l.initial.items.items;
  visited : ChangesItems g.W.WalkMut.step l.initial.visitor (trees (take l.i l.initial.items.items)) l.depth
      l.visitor (trees (take l.i l.items.items));
}
