use Rattle.std.proofs.Common.{◌≡◌, length}
use Rattle.der_base.specs.Octets.{number}
use Rattle.der_base.proofs.Octets.ShortestLengths.{IsBytes}
use Rattle.text_json.proofs.number.without_leading_zeros.Given as goal

abbrev pub invariant-loop-rest : goal.invariant-loop-rest
invariant-loop-rest l = record {
  same : number l.rest ≡ number l.padded;
  bytes : IsBytes l.rest;
}

abbrev pub decreases-loop-rest : goal.decreases-loop-rest
decreases-loop-rest l = length l.rest
