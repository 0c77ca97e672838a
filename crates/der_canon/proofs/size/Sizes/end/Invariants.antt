use Rattle.std.proofs.Common.{ℕ, ◌≤◌, List}
use Rattle.arrayvec.specs.ArrayVec.{array_vec_len}
use Rattle.der_canon.specs.Sizes.{Ends}
use Rattle.der_canon.specs.Sizing.{most}
use Rattle.der_canon.proofs.size.Sizes.end.Given as goal

-- what ends from here on ends from the start on, and comes to no more
abbrev pub invariant-ending : goal.invariant-ending
invariant-ending l = ((ms : List ℕ) (m : ℕ) → Ends l.depth l.self.around.items l.self.here ms m → Ends l.depth l.fn.self.around.items l.fn.self.here ms m)
    × (most l.self ≤ most l.fn.self)

abbrev pub decreases-ending : goal.decreases-ending
decreases-ending l = array_vec_len l.self.around
