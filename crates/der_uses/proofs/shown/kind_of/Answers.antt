use Rattle.std.proofs.Common.{rules}
use Rattle.der_uses.proofs.ObjectLaws.{list_found}
use Rattle.der_uses.proofs.shown.kind_of.Goals as goal

pub returns-in-Sequence : goal.returns-in-Sequence
returns-in-Sequence c = list_found c.args.object.now c.in-Sequence.items _ c.in-Sequence.is (search rules)
