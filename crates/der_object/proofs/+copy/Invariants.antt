use Rattle.std.proofs.Common.{take}
use Rattle.der_object.specs.Clones.{AreCopiesOf}
use Rattle.der_object.proofs.+copy.Given as goal

-- the items so far are copied
abbrev pub invariant-copies::copy_items-loop-item : goal.invariant-copies::copy_items-loop-item
invariant-copies::copy_items-loop-item l = AreCopiesOf (take l.item-index l.items) l.copies.items
