-- The position of an element in a type: the path of names to it, and the extension that it is in.
use Rattle.std.specs.Prelude.{◌≡◌, ◌≢◌, ◌⊎◌, ℕ, ◌≤◌, false, Option, Some, None}
use Rattle.std.specs.Prelude.{List, [], ◌∷◌, ◌++◌, codes, take}
use Rattle.std.specs.List.{All}
use Rattle.std.specs.Option.{option_map}
use Rattle.der_base.specs.declared.rules.Rules.TheVariants.{Ber}
use Rattle.text_json.specs.Fields.Fields.{label_after, label_text}
use Rattle.der_print.specs.Lines.{content_in}
use Rattle.der_schema.specs.declared.name_path.NameStep.{NameStep}
use Rattle.der_schema.specs.declared.matching.Name.{Name}
use Rattle.der_schema.specs.Known.{all_extras}
use Rattle.der_schema.specs.Meaning.{Root}
use Rattle.der_schema.specs.NamePaths.{name_step}
use Rattle.der_schema.specs.Steps.{label_of}
use Rattle.der_elements.specs.declared.error.ElementError.{ElementError}
use Rattle.der_elements.specs.declared.walk.Walk.{Walk}
use Rattle.der_elements.specs.Visits.{Visited, Visits}
use Rattle.der_elements.specs.Walked.{HasOctets, HasVisited, IsRefused, index_in, visited_of}
use Rattle.der_show.specs.declared.place.Place.{Place}

-- the steps of the path to the last of these elements of an input: one for each element around it, and one for itself
pub data IsNamePath (sc : Root) (i : List ℕ) : List Visited → List NameStep → Type 0 where
  outside : {vs : List Visited} {steps : List NameStep} → vs ≡ [] → steps ≡ [] → IsNamePath sc i vs steps
  further : {vs : List Visited} {steps : List NameStep} (before : List Visited) (v : Visited) (around : List NameStep)
      (name : Option Name) → vs ≡ before ++ v ∷ [] → IsNamePath sc i before around
      → label_of name ≡ label_after sc i before v
      → steps ≡ take v.depth around ++ name_step name (index_in v.depth before) v ∷ [] → IsNamePath sc i vs steps

-- an element is the identifier of the extension that it and the elements after it in the same content are in (RFC 5280
-- 4.1)
abbrev pub IsIdentifier : Root → List ℕ → List Visited → Visited → Type 0
IsIdentifier sc i before v =
    (label_text (label_after sc i before v) ≡ codes "extnID") × (v.constructed ≡ false)

-- the last of these elements is in the extension with this identifier, whose fields have this depth
pub data IsInExtension (sc : Root) (i : List ℕ) : List Visited → ℕ → List ℕ → Type 0 where
  named : {vs : List Visited} {depth : ℕ} {identifier : List ℕ} (before : List Visited) (v : Visited)
      → vs ≡ before ++ v ∷ [] → IsIdentifier sc i before v → depth ≡ v.depth → identifier ≡ content_in i v
      → IsInExtension sc i vs depth identifier
  inside : {vs : List Visited} {depth : ℕ} {identifier : List ℕ} (before : List Visited) (v : Visited)
      → vs ≡ before ++ v ∷ [] → ¬ IsIdentifier sc i before v → IsInExtension sc i before depth identifier
      → depth ≤ v.depth → IsInExtension sc i vs depth identifier

-- the identifier of the extension that the last of these elements is in, if it is in one
abbrev pub IsExtensionOf : Root → List ℕ → List Visited → Option (List ℕ) → Type 0
IsExtensionOf sc i vs (Some w) = (depth : ℕ) × IsInExtension sc i vs depth w
IsExtensionOf sc i vs None = (depth : ℕ) (w : List ℕ) → ¬ IsInExtension sc i vs depth w

-- an element that a walk through an input visits after others, and its position in a type
pub record StandsAt (sc : Root) (i : List ℕ) (offset : ℕ) (p : Place) : Type 0 where
  pub before : List Visited
  pub walk : Walk
  pub visited : HasVisited all_extras Ber i walk (before ++ visited_of p.element ∷ [])
  pub octets : HasOctets i p.element
  pub here : p.element.offset ≡ offset
  pub name : label_of p.name ≡ label_after sc i before (visited_of p.element)
  pub path : IsNamePath sc i (before ++ visited_of p.element ∷ []) p.path.steps.items
  pub extension : IsExtensionOf sc i (before ++ visited_of p.element ∷ []) (option_map (λ w. w.now) p.extension)

-- no element of an input begins at an offset, before its end or its first error
pub record NoneStandsAt (i : List ℕ) (offset : ℕ) : Type 0 where
  pub elements : List Visited
  pub ended : Visits all_extras Ber 101 0 0 i elements
      ⊎ ((w : Walk) × (f : ElementError) × IsRefused all_extras Ber i elements w f)
  pub none : All (λ v. v.offset ≢ offset) elements

-- the position of the element that begins at an offset, if one does
abbrev pub FindsPlace : Root → List ℕ → ℕ → Option Place → Type 0
FindsPlace sc i offset (Some p) = StandsAt sc i offset p
FindsPlace sc i offset None = NoneStandsAt i offset
