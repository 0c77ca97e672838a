use Rattle.std.proofs.Common.{◌≢◌, ℕ, ◌+◌, ◌<◌, Bor, List, get_or}
use Rattle.x509.proofs.repetition.have_equal_neighbours.Given as goal

-- none of those before the place are the same as the next one
abbrev pub invariant-loop-place : goal.invariant-loop-place
invariant-loop-place l = (k : ℕ) (d : Bor (List ℕ)) → k + 1 < l.place → (get_or l.texts k d).now ≢ (get_or l.texts (k + 1) d).now
