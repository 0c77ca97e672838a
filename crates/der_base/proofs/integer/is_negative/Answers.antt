use Rattle.std.proofs.Common.{◌≤◌, arith}
use Rattle.std.specs.Prelude.{slice_index_or}
use Rattle.std.proofs.lemmas.Bool.Decides.{nat_tests}
use Rattle.der_base.proofs.AllByRecursion.{Each}
use Rattle.der_base.proofs.Octets.Shortest.{IsOctet}
use Rattle.der_base.proofs.Octets.ShortestLengths.{bytes_from}
use Rattle.der_base.proofs.Octets.SignBit.{below_zero}
use Rattle.der_base.proofs.integer.is_negative.Goals as goal

pub returns-in-len1-up-clause-negative : goal.returns-in-len1-up-clause-negative
returns-in-len1-up-clause-negative c = λ h.
    let w = c.args.octets.now in
    let high : 128 ≤ slice_index_or w 0 0 = grind (arith, nat_tests) in
    let are : Each IsOctet w = bytes_from w (λ k. omega (arith, c.type_inv.octets k)) in
    below_zero w are c.in-len1-up.len_at_least high
