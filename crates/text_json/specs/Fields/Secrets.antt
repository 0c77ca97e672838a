-- The elements of an input that a type keeps from being printed.
use Rattle.std.specs.Prelude.{◌≡◌, ℕ, ◌<◌, ◌≤◌, nat_lt, not, Bool, true, false, Option, Some, None, is_some}
use Rattle.std.specs.Prelude.{List, [], ◌∷◌, ◌++◌, codes}
use Rattle.text_json.specs.declared.fields.secrets.Exposure.{Exposure}
use Rattle.text_json.specs.declared.fields.secrets.Exposure.TheVariants.{Full, Outline, Nothing}
use Rattle.text_json.specs.declared.fields.secrets.Secrets.{Secrets}
use Rattle.text_json.specs.Fields.Fields.{label_after}
use Rattle.der_schema.specs.declared.schema.Secrecy.{Secrecy}
use Rattle.der_schema.specs.declared.schema.Secrecy.TheVariants.{Public, Secret, SecretUnread}
use Rattle.der_schema.specs.Meaning.{Label, Root}
use Rattle.der_elements.specs.Visits.{Visited}

-- an element with this mark is secret, whether elements inside it are visited or not
abbrev pub is_secret_by : Secrecy → Bool → Bool
is_secret_by Public entered = false
is_secret_by SecretUnread entered = not entered
is_secret_by Secret entered = true

abbrev pub is_secret : Option Label → Bool → Bool
is_secret (Some l) entered = is_secret_by l.secrecy entered
is_secret None entered = false

-- an element after others of an input is secret: its type marks it as secret
abbrev pub IsSecret : Root → List ℕ → List Visited → Visited → Type 0
IsSecret sc i before v = is_secret (label_after sc i before v) (is_some v.holds) ≡ true

-- After these elements the walk is in one for which P holds, at this depth. It is the last, or it was open before the
-- last, which is inside it.
pub data IsOpen (P : List Visited → Visited → Type 0) : List Visited → ℕ → Type 0 where
  begins : {us : List Visited} {depth : ℕ} (before : List Visited) (v : Visited) → us ≡ before ++ v ∷ [] → P before v
      → depth ≡ v.depth → IsOpen P us depth
  goes_on : {us : List Visited} {depth : ℕ} (before : List Visited) (v : Visited) → us ≡ before ++ v ∷ []
      → IsOpen P before depth → depth < v.depth → IsOpen P us depth

-- an element after others is inside one for which P holds
abbrev pub IsInOne : (List Visited → Visited → Type 0) → List Visited → Visited → Type 0
IsInOne P before v = (depth : ℕ) × IsOpen P before depth × (depth < v.depth)

-- how much of an element after others may be printed: nothing inside a secret one, and no value of a secret one
abbrev pub IsExposure : Root → List ℕ → List Visited → Visited → Exposure → Type 0
IsExposure sc i before v Nothing = IsInOne (IsSecret sc i) before v
IsExposure sc i before v Outline = (¬ IsInOne (IsSecret sc i) before v) × IsSecret sc i before v
IsExposure sc i before v Full = (¬ IsInOne (IsSecret sc i) before v) × (¬ IsSecret sc i before v)

-- the text that is printed instead of the value of a secret element
abbrev pub secret_text : List ℕ
secret_text = codes " (secret)"

-- an element at this depth is inside the one that the walk is in, if it is in one
abbrev pub is_inside : Option ℕ → ℕ → Bool
is_inside None depth = false
is_inside (Some d) depth = nat_lt d depth

-- the outermost one that the walk is in after these elements has this depth; None if it is in none
abbrev pub OpenBy : (List Visited → Visited → Type 0) → List Visited → Option ℕ → Type 0
OpenBy P vs None = (d : ℕ) → ¬ IsOpen P vs d
OpenBy P vs (Some o) = IsOpen P vs o × ((d : ℕ) → IsOpen P vs d → o ≤ d)

-- the secret element that the walk is in after these elements of an input
abbrev pub Follows : Root → List ℕ → List Visited → Secrets → Type 0
Follows sc i vs s = OpenBy (IsSecret sc i) vs s.around
