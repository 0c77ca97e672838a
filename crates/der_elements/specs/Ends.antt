-- Where contents end.
use Rattle.std.specs.Prelude.{◌≡◌, ℕ, ◌+◌, ◌-◌, ◌<◌, ◌≤◌, min, Bool, true, false, Option, Some, None, IfSome}
use Rattle.std.specs.Prelude.{List, length, take, drop}
use Rattle.der_elements.specs.declared.content.End.{End}
use Rattle.der_elements.specs.declared.content.End.TheVariants.{At, After, Unlimited}
use Rattle.der_elements.specs.declared.walk.Walk.{Walk}

-- the offset where a content ends at the latest, in an input of n octets or after it; None if no length gives it
abbrev pub end_in : ℕ → End → Option ℕ
end_in n (At e) = Some e
end_in n (After m) = Some (n + m)
end_in n Unlimited = None

-- the end is in an input of n octets (At), or after it (After)
abbrev pub IsEndOf : ℕ → End → Type 0
IsEndOf n (At e) = e ≤ n
IsEndOf n (After m) = 0 < m
IsEndOf n Unlimited = Unit {0}

-- an offset isn't after an end
abbrev pub IsWithin : ℕ → Option ℕ → Type 0
IsWithin n e = IfSome e (λ m. n ≤ m)

-- a content with the first end lies in one with the second
abbrev pub EndsWithin : Option ℕ → Option ℕ → Type 0
EndsWithin e (Some n) = (m : ℕ) × (e ≡ Some m) × (m ≤ n)
EndsWithin e None = Unit {0}

-- the offset where the part of a content ends that is in an input of n octets
abbrev pub limit_of : ℕ → Option ℕ → ℕ
limit_of n (Some e) = min e n
limit_of n None = n

-- where a content of this length ends that begins at p; with an indefinite length, where it ends at the latest
abbrev pub end_from : ℕ → Option ℕ → Option ℕ → Option ℕ
end_from p around (Some n) = Some (p + n)
end_from p around None = around

-- whether a content of this length ends at end-of-contents octets
abbrev pub ends_at_marker : Option ℕ → Bool
ends_at_marker (Some n) = false
ends_at_marker None = true

-- how many octets an offset is after an end
abbrev pub overrun : ℕ → Option ℕ → ℕ
overrun n (Some e) = n - e
overrun n None = 0

-- how many octets after the end of the input a content ends
abbrev pub octets_after : End → ℕ
octets_after (At e) = 0
octets_after (After m) = m
octets_after Unlimited = 0

-- the octets of i from an offset up to another
abbrev pub between : List ℕ → ℕ → ℕ → List ℕ
between i a n = take (n - a) (drop a i)

-- where the content of a walk ends at the latest, and its octets in the input from here on
abbrev pub end_of : Walk → Option ℕ
end_of w = end_in (length w.input.now) w.content.end

abbrev pub here_of : Walk → List ℕ
here_of w = between w.input.now w.at (limit_of (length w.input.now) (end_of w))

-- how many octets of the input a walk hasn't passed
abbrev pub octets_ahead : Walk → ℕ
octets_ahead w = length w.input.now - w.at
