use Rattle.std.proofs.Common.{arith}
use Rattle.der_canon.proofs.Contents.{all_cleared}
use Rattle.der_canon.proofs.content.without_unused.Goals as goal

pub returns-in_default : goal.returns-in_default
returns-in_default c = all_cleared c.args.unused c.args.octet (omega arith) (omega arith)
