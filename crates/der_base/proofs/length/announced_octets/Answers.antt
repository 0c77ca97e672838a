use Rattle.std.proofs.Common.{refl, arith}
use Rattle.der_base.specs.LengthOctets.{in_length}
use Rattle.der_base.proofs.length.announced_octets.Goals as goal

pub returns-then-behind-count : goal.returns-then-behind-count
returns-then-behind-count c = in_length c.args.first c.args.behind.now (omega arith) (omega arith) (omega arith) refl
