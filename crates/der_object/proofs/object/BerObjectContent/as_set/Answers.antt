use Rattle.der_object.proofs.ItemLists.{set_answers}
use Rattle.der_object.proofs.object.BerObjectContent.as_set.Goals as goal

pub returns-in-Set : goal.returns-in-Set
returns-in-Set c = set_answers c.args.self.now _ c.in-Set.is
