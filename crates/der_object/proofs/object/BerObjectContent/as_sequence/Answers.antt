use Rattle.der_object.proofs.ItemLists.{sequence_answers}
use Rattle.der_object.proofs.object.BerObjectContent.as_sequence.Goals as goal

pub returns-in-Sequence : goal.returns-in-Sequence
returns-in-Sequence c = sequence_answers c.args.self.now _ c.in-Sequence.is
