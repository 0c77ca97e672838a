use Rattle.der_uses.proofs.ObjectLaws.{got_elements}
use Rattle.der_uses.proofs.shown.elements_in.Goals as goal

pub returns : goal.returns
returns c = got_elements c.args.input.now c.get.result c.in_ok-count.count c.args.slots.now c.list_elements.new.slots c.in_ok-count.ensures.listed c.get.ensures.lookup.0
