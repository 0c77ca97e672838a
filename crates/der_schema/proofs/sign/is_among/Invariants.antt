use Rattle.std.proofs.Common.{◌≡◌, length}
use Rattle.std.specs.List.{list_any}
use Rattle.der_base.specs.TreeEquality.{same_octets}
use Rattle.der_schema.proofs.sign.is_among.Given as goal

abbrev pub invariant-loop-one : goal.invariant-loop-one
invariant-loop-one l = list_any (λ one. same_octets one.octets.now l.fn.octets) l.ahead
    ≡ list_any (λ one. same_octets one.octets.now l.fn.octets) l.fn.these

abbrev pub decreases-loop-one : goal.decreases-loop-one
decreases-loop-one l = length l.ahead
