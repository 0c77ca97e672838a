use Rattle.std.proofs.Common.{refl}
use Rattle.der_elements.proofs.CheckLaws.TapeLaws.{element_from_start}
use Rattle.der_elements.proofs.check.elements.list_element_onto.Goals as goal

pub returns-in-Some-clause-listed : goal.returns-in-Some-clause-listed
returns-in-Some-clause-listed g c =
    element_from_start c.args.rules c.args.max_depth c.args.octets.now c.in-Some.rest.now c.args.tape.now c.read_element.new.tape c.requires (c.in-Some.ensures.listed refl)
