use Rattle.std.proofs.Common.{◌≡◌, length}
use Rattle.der_values.proofs.OctetsLaws.Digits.{Written}
use Rattle.der_values.proofs.octets.decimal.write_decimal.Given as goal

abbrev pub invariant-loop-rest : goal.invariant-loop-rest
invariant-loop-rest l = record {
  behind : Written l.n l.rest l.fn.out l.out l.end l.begin;
  size : length l.out ≡ length l.fn.out;
}

abbrev pub decreases-loop-rest : goal.decreases-loop-rest
decreases-loop-rest l = l.rest
