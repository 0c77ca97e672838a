use Rattle.std.proofs.Common.{pos, rules}
use Rattle.der_parser.specs.Numbers.{unsigned}
use Rattle.der_uses.proofs.ListLaws.{container, list_whole, number_item, number_takes}
use Rattle.der_uses.proofs.handed.read_numbers.Goals as goal

pub returns : goal.returns
returns c =
    container (λ f g content h r s. list_whole (λ f g p r s. number_item pos (unsigned 32) p.now r (search rules)) (number_takes (unsigned 32)) content.now r s)
    (rw c.parse_der_sequence_of_v.ensures at c.parse.ensures.run).1
