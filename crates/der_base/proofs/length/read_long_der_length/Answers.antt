use Rattle.std.proofs.Common.{arith}
use Rattle.der_base.proofs.Octets.ShortestLengths.{bytes_from}
use Rattle.der_base.proofs.Octets.LongLengths.{announced_fewest, announced_small, announced_zero, announced_refused}
use Rattle.der_base.proofs.length.read_long_der_length.Goals as goal
use Rattle.der_base.proofs.length.read_long_der_length.Goals.{then-n-lt-LEAST_LONG-via-then-n-lt-LEAST_LONG, then-n-lt-LEAST_LONG-via-else-n-lt-LEAST_LONG+then-octets-eq0}

pub returns-then-n-lt-LEAST_LONG : goal.returns-then-n-lt-LEAST_LONG
returns-then-n-lt-LEAST_LONG c =
    let a = c.in_ok-rest.ensures in
    let n = c.in-Some.ensures in
    announced_refused a (omega arith) n.0 (elim c.then-n-lt-LEAST_LONG.branch [
      | then-n-lt-LEAST_LONG-via-then-n-lt-LEAST_LONG w ↦ announced_small a (omega arith) (omega (arith, n.1, w.if-n-lt-LEAST_LONG.true))
      | then-n-lt-LEAST_LONG-via-else-n-lt-LEAST_LONG+then-octets-eq0 w ↦ announced_zero a (omega (arith, n.1, w.if-n-lt-LEAST_LONG.false)) w.if-octets-eq0.true
    ])

pub returns : goal.returns
returns c =
    let n = c.in-Some.ensures in
    announced_fewest c.in-Some.n c.in_ok-rest.ensures (bytes_from c.args.behind.now (λ k. omega (arith, c.type_inv.behind k)))
    c.if-octets-eq0.false c.if-n-lt-LEAST_LONG.false (omega (arith, n.0, n.1)) n.1
