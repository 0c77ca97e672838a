use Rattle.std.proofs.Common.{◌≡◌, [], length}
use Rattle.der_text.specs.Encoded.{all_before, following, state_of}
use Rattle.der_text.proofs.encoder.encode.Given as goal

-- what is left comes before what was put
abbrev pub invariant-loop-item : goal.invariant-loop-item
invariant-loop-item l = all_before l.items (following [] []) ≡ all_before l.rest (state_of l.encoder)

abbrev pub decreases-loop-item : goal.decreases-loop-item
decreases-loop-item l = length l.rest
