use Rattle.std.proofs.Common.{◌≡◌, List, ℕ, length}
use Rattle.arrayvec.specs.ArrayVec.{array_vec_len}
use Rattle.der_canon.specs.Contents.{Completes}
use Rattle.der_canon.specs.Writing.{HasWritten}
use Rattle.der_canon.proofs.writer.Writer.complete.Given as goal

-- what ends from here on ends from the start on
abbrev pub invariant-completing : goal.invariant-completing
invariant-completing l = (length l.out ≡ length l.fn.out) × ((xs : List (List ℕ)) (x : List ℕ) → HasWritten xs x l.fn.self l.fn.out
    → (zs : List (List ℕ)) × (z : List ℕ) × HasWritten zs z l.self l.out
    × ((ys : List (List ℕ)) (y : List ℕ) → Completes l.depth zs z ys y → Completes l.depth xs x ys y))

abbrev pub decreases-completing : goal.decreases-completing
decreases-completing l = array_vec_len l.self.starts
