-- How many elements were counted.
use Rattle.std.proofs.Common.{◌≡◌, ℕ, List, [], subst, sym}
use Rattle.der_base.specs.declared.rules.Rules.TheVariants.{Ber}
use Rattle.der_elements.specs.declared.walk.Walk.{Walk}
use Rattle.der_elements.specs.Visits.{Extras, Visited, Visits, none}
use Rattle.der_elements.specs.Walked.{HasVisited, index_in}
use Rattle.type_words.specs.Counts.{values_kept}

-- the outermost of the elements that were visited were counted
pub record HasCounted (w : List ℕ) (walk : Walk) (count : ℕ) : Type 0 where
  pub elements : List Visited
  pub visited : HasVisited values_kept Ber w walk elements
  pub counts : count ≡ index_in 0 elements

-- no octets are no elements
pub none_visited : (x : Extras) (w : List ℕ) → w ≡ [] → Visits x Ber 101 0 0 w []
none_visited x w e = subst (λ v. Visits x Ber 101 0 0 v []) (sym e) none
