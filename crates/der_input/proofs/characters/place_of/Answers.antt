use Rattle.der_input.proofs.Lines.{place_is}
use Rattle.der_input.proofs.characters.place_of.Goals as goal

pub returns-clause-place : goal.returns-clause-place
returns-clause-place c = place_is c.args.text.now c.args.needle.now c.find.result c.requires c.find.ensures
