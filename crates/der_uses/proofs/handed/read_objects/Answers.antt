use Rattle.std.proofs.Common.{rules}
use Rattle.der_uses.proofs.ListLaws.{container, leaf_item, made_whole}
use Rattle.der_uses.proofs.handed.read_objects.Goals as goal

pub returns : goal.returns
returns c =
    container (λ f g content h r s. made_whole (λ f g p r s. leaf_item 2 p.now r (search rules)) content h r s)
    (rw c.parse_der_sequence_of.ensures at c.parse.ensures.run).1
