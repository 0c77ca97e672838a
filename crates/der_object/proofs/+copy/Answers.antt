use Rattle.std.proofs.Common.{arith}
use Rattle.der_object.proofs.ListCopies.{copies_more, copied_sequence, copied_set}
use Rattle.der_object.proofs.+copy.Goals as goal

pub copies::copy_items-loop-item-preserved : goal.copies::copy_items-loop-item-preserved
copies::copy_items-loop-item-preserved t c =
    copies_more c.args.items.now c.loop-item.copies.items _ c.loop-item.item-index c.item-item.result c.in_ok-try_clone.field-0
    (omega (arith, c.loop-item-test.true)) c.item-item.is c.in_ok-push.ensures.items c.loop-item.invariant c.in_ok-try_clone.ensures

pub object::BerObjectContent::try_clone-returns-in_ok-copy_items-in-Sequence : goal.object::BerObjectContent::try_clone-returns-in_ok-copy_items-in-Sequence
object::BerObjectContent::try_clone-returns-in_ok-copy_items-in-Sequence t c =
    copied_sequence c.args.self.now c.in-Sequence.items _ _ c.in-Sequence.is c.deref.ensures.value c.in_ok-copy_items-in-Sequence.ensures

pub object::BerObjectContent::try_clone-returns-in_ok-copy_items-in-Set : goal.object::BerObjectContent::try_clone-returns-in_ok-copy_items-in-Set
object::BerObjectContent::try_clone-returns-in_ok-copy_items-in-Set t c =
    copied_set c.args.self.now c.in-Set.items _ _ c.in-Set.is c.deref-in-Set.ensures.value c.in_ok-copy_items-in-Set.ensures
