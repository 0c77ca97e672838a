use Rattle.std.proofs.Common.{sym, arith}
use Rattle.der_base.proofs.Octets.Numbers.{groups_count}
use Rattle.der_values.proofs.octets.header.group_count.Goals as goal

pub returns-in-128-to-16383-clause-count : goal.returns-in-128-to-16383-clause-count
returns-in-128-to-16383-clause-count c = sym (groups_count 0 c.args.n (omega arith) (omega arith))

pub returns-in-16384-to-2097151-clause-count : goal.returns-in-16384-to-2097151-clause-count
returns-in-16384-to-2097151-clause-count c = sym (groups_count 1 c.args.n (omega arith) (omega arith))

pub returns-in-2097152-to-268435455-clause-count : goal.returns-in-2097152-to-268435455-clause-count
returns-in-2097152-to-268435455-clause-count c = sym (groups_count 2 c.args.n (omega arith) (omega arith))

pub returns-in_default-clause-count : goal.returns-in_default-clause-count
returns-in_default-clause-count c = sym (groups_count 3 c.args.n (omega arith) (omega arith))
