use Rattle.std.proofs.Common.{pos, rules}
use Rattle.der_parser.specs.Numbers.{unsigned}
use Rattle.der_uses.proofs.ListLaws.{tagged_read}
use Rattle.der_uses.proofs.shown.tagged_number.Goals as goal

pub returns : goal.returns
returns c = tagged_read pos (unsigned 32) (λ f g p h r s. search rules) (rw c.parse_der_tagged_explicit_g.ensures at c.parse.ensures.run).1
