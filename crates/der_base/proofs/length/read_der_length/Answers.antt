use Rattle.der_base.proofs.Octets.LongLengths.{none_lacks, short_begins}
use Rattle.der_base.proofs.length.read_der_length.Goals as goal

pub returns-in_default : goal.returns-in_default
returns-in_default c = none_lacks c.args.s.now c.in_default.ensures.cases

pub returns-then-first-lt128 : goal.returns-then-first-lt128
returns-then-first-lt128 c = short_begins c.args.s.now c.in-Some.first.now c.in-Some.behind.now c.in-Some.ensures.cases.0 c.if-first-lt128.true
