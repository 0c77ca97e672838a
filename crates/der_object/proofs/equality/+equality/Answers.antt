use Rattle.std.proofs.Common.{◌∙◌}
use Rattle.der_object.proofs.Trees.{same_sequences, same_sets}
use Rattle.der_object.proofs.equality.+equality.Goals as goal

pub same_content-returns-in-Sequence : goal.same_content-returns-in-Sequence
same_content-returns-in-Sequence t c =
    c.same_items.ensures
    ∙ same_sequences c.args.a.now c.args.b.now c.in-Sequence-default.x c.in-Sequence.y _ _ c.in-Sequence-default.is-0 c.in-Sequence.is c.deref.ensures.value c.deref-in-Sequence.ensures.value

pub same_content-returns-in-Set : goal.same_content-returns-in-Set
same_content-returns-in-Set t c =
    c.same_items-in-Set.ensures
    ∙ same_sets c.args.a.now c.args.b.now c.in-Set-default.x c.in-Set.y _ _ c.in-Set-default.is-0 c.in-Set.is c.deref-in-Set.ensures.value c.deref-in-Set-2.ensures.value
