use Rattle.std.proofs.Common.{◌∙◌}
use Rattle.der_uses.proofs.ObjectLaws.{never_empty}
use Rattle.der_uses.proofs.shown.item_count.Goals as goal

pub returns : goal.returns
returns c = λ rest begins. never_empty c.args.input.now _ c.in_ok-_rest.field-0 (c.in-Some._rest, c.in-Some.elements) _ c.in-Some.is c.in_ok-_rest.ensures (c.new-nodes.ensures.elements ∙ c.deref.ensures.value) c.in-None.ensures
