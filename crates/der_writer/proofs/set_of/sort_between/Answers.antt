use Rattle.std.proofs.Common.{arith}
use Rattle.der_writer.proofs.Sorting.{sorted_between}
use Rattle.der_writer.proofs.set_of.sort_between.Goals as goal

pub returns-then-end-out : goal.returns-then-end-out
returns-then-end-out c = sorted_between c.args.begin c.args.end c.args.out.now _ (omega arith) (omega arith) c.sort_elements.ensures
