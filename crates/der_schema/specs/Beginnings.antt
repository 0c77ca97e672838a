-- The first elements of an input.
use Rattle.std.specs.Prelude.{◌≡◌, ℕ, List, ◌++◌, map, take}
use Rattle.der_base.specs.declared.rules.Rules.{Rules}
use Rattle.der_elements.specs.Visits.{Visited, Visits}
use Rattle.der_elements.specs.Walked.{visited_of}
use Rattle.der_schema.specs.declared.beginning.Beginning.{Beginning}
use Rattle.der_schema.specs.Known.{all_extras}

abbrev pub first_elements : Beginning → List Visited
first_elements b = map visited_of (take b.len b.elements)

-- these are the first elements that a walk through an input visits
abbrev pub BeginsWith : Rules → List ℕ → List Visited → Type 0
BeginsWith r i vs = (us : List Visited) → Visits all_extras r 101 0 0 i us → (ws : List Visited) × (us ≡ vs ++ ws)
