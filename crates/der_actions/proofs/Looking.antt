-- The search for the element at a place.
use Rattle.std.proofs.Common.{ℕ, Option, List, [], ◌∷◌, ◌++◌, ◌≡◌, ◌∙◌, sym, take}
use Rattle.der_elements.specs.declared.walk.Walk.{Walk}
use Rattle.der_elements.specs.Visits.{Visited}
use Rattle.der_elements.specs.Walked.{HasVisited, index_in}
use Rattle.der_actions.specs.declared.fields.Fields.{Fields}
use Rattle.der_actions.specs.declared.options.Options.{Options}
use Rattle.der_actions.specs.declared.trail.Trail.{Trail}
use Rattle.der_actions.specs.Outputs.{extras_of}
use Rattle.der_actions.specs.FieldNames.{HasNamedBy}
use Rattle.der_actions.specs.Namings.{IsNamedBy}
use Rattle.der_actions.specs.Paths.{path_of, step_at}
use Rattle.der_actions.specs.Places.{AreNotAsked, IsAsked, none, one_more}
use Rattle.der_schema.specs.declared.schema.Schema.{Schema}
use Rattle.der_actions.proofs.Trails.{path_entered, path_none}

-- no element that the walk has visited is at the place
pub record HasLooked (o : Options) (i : List ℕ) (w : Walk) (t : Trail) (f : Fields) : Type 0 where
  pub elements : List Visited
  pub visited : HasVisited (extras_of o) o.rules i w elements
  pub schema : Option Schema
  pub named_by : IsNamedBy o.naming o.rules i schema
  pub named : HasNamedBy schema i elements f
  pub not_asked : AreNotAsked schema i o.place elements
  pub path : t.steps.items ≡ path_of elements

pub looked_none : {o : Options} {i : List ℕ} {w : Walk} {t : Trail} {f : Fields} (s : Option Schema)
    → HasVisited (extras_of o) o.rules i w [] → t.steps.items ≡ [] → IsNamedBy o.naming o.rules i s → HasNamedBy s i [] f
    → HasLooked o i w t f
looked_none s v empty by n = record {
  elements = [];
  visited = v;
  schema = s;
  named_by = by;
  named = n;
  not_asked = none;
  path = empty ∙ sym path_none;
}

pub looked_more : {o : Options} {i : List ℕ} {w w' : Walk} {t t' : Trail} {f f' : Fields} (v : Visited) (n : ℕ) (p : HasLooked o i w t f)
    → HasVisited (extras_of o) o.rules i w' (p.elements ++ v ∷ []) → n ≡ index_in v.depth p.elements
    → t'.steps.items ≡ take v.depth t.steps.items ++ step_at n v ∷ [] → HasNamedBy p.schema i (p.elements ++ v ∷ []) f'
    → ¬ IsAsked p.schema i o.place p.elements v → HasLooked o i w' t' f'
looked_more {t = t} {t' = t'} v n p visited index entered named not = record {
  elements = p.elements ++ v ∷ [];
  visited = visited;
  schema = p.schema;
  named_by = p.named_by;
  named = named;
  not_asked = one_more v p.not_asked not;
  path = path_entered p.elements v t.steps.items t'.steps.items n p.path index entered;
}
