use Rattle.std.proofs.Common.{refl}
use denote.Hole.Carrier
use Rattle.der_object.specs.declared.object.BerObjectContent.{out-BerObjectContent, roll-BerObjectContent}
use Rattle.der_object.specs.declared.object.BerObjectContent.TheVariants.{Sequence, Set}
use Rattle.der_object.proofs.Trees.{sequence_tree, set_tree}
use Rattle.der_visit.proofs.Changes.{sequence_no_higher, set_no_higher}
use Rattle.der_visit.proofs.handles_mut.handle_content.Goals as goal

pub returns-in-Sequence-clause-step : goal.returns-in-Sequence-clause-step
unfolding out-BerObjectContent roll-BerObjectContent Carrier.out Carrier.roll
returns-in-Sequence-clause-step g c =
    rw (c.in-Sequence.is, sequence_tree, sequence_tree) (rw c.in-Sequence.items-is at c.handle_sequence_mut.ensures.step)

pub returns-in-Sequence-clause-no_higher : goal.returns-in-Sequence-clause-no_higher
unfolding out-BerObjectContent roll-BerObjectContent Carrier.out Carrier.roll
returns-in-Sequence-clause-no_higher g c =
    let low = rw c.in-Sequence.items-is at c.handle_sequence_mut.ensures.no_higher in
    rw c.in-Sequence.is (sequence_no_higher (Sequence c.in-Sequence.items) c.in-Sequence.items _ c.handle_sequence_mut.new.items refl refl low)

pub returns-in-Set-clause-step : goal.returns-in-Set-clause-step
unfolding out-BerObjectContent roll-BerObjectContent Carrier.out Carrier.roll
returns-in-Set-clause-step g c =
    rw (c.in-Set.is, set_tree, set_tree) (rw c.in-Set.items-is at c.handle_set_mut.ensures.step)

pub returns-in-Set-clause-no_higher : goal.returns-in-Set-clause-no_higher
unfolding out-BerObjectContent roll-BerObjectContent Carrier.out Carrier.roll
returns-in-Set-clause-no_higher g c =
    let low = rw c.in-Set.items-is at c.handle_set_mut.ensures.no_higher in
    rw c.in-Set.is (set_no_higher (Set c.in-Set.items) c.in-Set.items _ c.handle_set_mut.new.items refl refl low)
