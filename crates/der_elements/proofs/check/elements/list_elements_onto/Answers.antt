use Rattle.std.proofs.Common.{refl, rules}
use Rattle.der_elements.proofs.CheckLaws.TapeLaws.{elements_from_start}
use Rattle.der_elements.proofs.check.elements.list_elements_onto.Goals as goal

pub returns-then-read_elements-clause-listed : goal.returns-then-read_elements-clause-listed
returns-then-read_elements-clause-listed g c =
    elements_from_start c.args.rules c.args.max_depth c.args.octets.now c.args.tape.now c.read_elements.new.tape c.requires (c.if-read_elements.ensures.listed refl (search rules))
