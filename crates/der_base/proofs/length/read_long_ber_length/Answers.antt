use Rattle.std.proofs.Common.{arith}
use Rattle.der_base.proofs.Octets.LongLengths.{announced_begins}
use Rattle.der_base.proofs.length.read_long_ber_length.Goals as goal

pub returns : goal.returns
returns c = announced_begins c.args.constructed c.in-Some.n c.in_ok-rest.ensures (omega arith) c.in-Some.ensures.0 c.in-Some.ensures.1
