use Rattle.std.proofs.Common.{◌≡◌, length, true}
use Rattle.messages.specs.Ldap.Filters.{in_order, pieces_of}
use Rattle.messages.proofs.ldap.filter_items.are_in_order.Given as goal

-- what is left decides
abbrev pub invariant-loop-left : goal.invariant-loop-left
invariant-loop-left l = in_order true (pieces_of l.fn.pieces) ≡ in_order l.first (pieces_of l.left)

abbrev pub decreases-loop-left : goal.decreases-loop-left
decreases-loop-left l = length l.left
