-- The length octets of an element.
use Rattle.std.proofs.Common.{◌≡◌, ◌++◌, List, ℕ, arith, drop, length, subst, take}
use Rattle.std.proofs.Math.Seq.{take-append_seam}
use Rattle.der_values.specs.Octets.Room.{PutsBefore}

-- octets that were written before an offset which is their number are the first
pub first_put : (old new w : List ℕ) (count begin : ℕ) → count ≡ length w → PutsBefore old new count w begin → take count new ≡ w
first_put old new w count begin e p =
    let none : begin ≡ 0 = omega (arith, p.begins, e) in
    let whole : new ≡ w ++ drop count old = subst (λ k. drop k new ≡ w ++ drop count old) none p.octets in
    rw (whole, e) (take-append_seam w _)
