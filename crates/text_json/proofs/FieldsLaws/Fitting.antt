-- A walk whose elements are named, and how those that it has visited fit a type.
use Rattle.std.proofs.Common.{◌≡◌, ℕ, Option, None, List, [], ◌∷◌, ◌++◌, subst, sym}
use Rattle.der_base.specs.declared.rules.Rules.{Rules}
use Rattle.text_json.specs.Fields.Fields.{left_past}
use Rattle.text_json.proofs.FieldsLaws.FieldLaws.{HasLeft, left_more, left_none}
use Rattle.der_schema.specs.declared.matching.Name.{Name}
use Rattle.der_schema.specs.declared.namer.Namer.{Namer}
use Rattle.der_schema.specs.Known.{all_extras}
use Rattle.der_schema.specs.Meaning.{Root}
use Rattle.der_schema.specs.Named.{HasNamed, NamesNext}
use Rattle.der_schema.specs.Steps.{label_of}
use Rattle.der_elements.specs.declared.walk.Walk.{Walk}
use Rattle.der_elements.specs.Visits.{Visited}
use Rattle.der_elements.specs.Walked.{HasVisited}

-- where the elements that the walk has visited leave the type
pub record HasFitted (sc : Root) (r : Rules) (i : List ℕ) (w : Walk) (n : Namer) (left : Option ℕ) : Type 0 where
  pub elements : List Visited
  pub visited : HasVisited all_extras r i w elements
  pub named : HasNamed sc i elements n
  pub has_left : HasLeft sc r i elements left

pub fitted_none : {sc : Root} {r : Rules} {i : List ℕ} {w : Walk} {n : Namer} → HasVisited all_extras r i w []
    → HasNamed sc i [] n → HasFitted sc r i w n None
fitted_none {sc} {r} {i} v h = record { elements = []; visited = v; named = h; has_left = left_none sc r i }

pub fitted_more : {sc : Root} {r : Rules} {i : List ℕ} {w w' : Walk} {n n' : Namer} {left : Option ℕ} (v : Visited)
    (said : Option Name) (left' : Option ℕ) (p : HasFitted sc r i w n left)
    → HasVisited all_extras r i w' (p.elements ++ v ∷ []) → NamesNext sc i p.elements v n' said
    → left' ≡ left_past left (label_of said) v.offset → HasFitted sc r i w' n' left'
fitted_more {sc} {r} {i} {w' = w'} {left = left} v said left' p visited next is = record {
  elements = p.elements ++ v ∷ [];
  visited = visited;
  named = next.named;
  has_left = subst (HasLeft sc r i (p.elements ++ v ∷ [])) (sym is)
      (left_more sc r i w' p.elements v left (label_of said) next.name visited p.has_left);
}
