-- The words of a type for octets that have it.
use Rattle.std.proofs.Common.{ℕ, Option, Some, None, List}
use Rattle.der_base.specs.declared.rules.Rules.TheVariants.{Ber}
use Rattle.der_elements.specs.declared.error.ElementError.{ElementError}
use Rattle.der_elements.specs.Visits.{Visited, Visits}
use Rattle.der_schema.specs.Known.{IsOfType, all_extras}
use Rattle.der_schema.specs.Meaning.{Root}
use Rattle.type_words.specs.Puts.{EndsWith}

-- a walk of them has no fault
pub all_visited : {sc : Root} {i : List ℕ} (vs : List Visited) (end : Option ElementError) → IsOfType sc Ber i
    → EndsWith all_extras Ber i vs end → Visits all_extras Ber 101 0 0 i vs
all_visited vs None t e = e
all_visited vs (Some fault) t e = absurd (e.0 t.is_tree.visited t.is_tree.visits)
