use Rattle.std.proofs.Common.{rules}
use Rattle.der_parser.specs.Numbers.{signed}
use Rattle.der_uses.proofs.ListLaws.{container, list_whole, number_item, number_takes}
use Rattle.der_uses.proofs.shown.item_numbers.Goals as goal

pub returns : goal.returns
returns c =
    container (λ f g content h r s. list_whole (λ f g p r s. number_item (λ n. n) (signed 32) p.now r (search rules)) (number_takes (signed 32)) content.now r s)
    (rw c.parse_der_sequence_of_v.ensures at c.parse.ensures.run).1
