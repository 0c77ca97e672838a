-- Laws of items.
use Rattle.std.specs.Prelude.{◌≡◌, ◌≢◌, ℕ, Option, Some, None, List}
use Rattle.der_elements.specs.Visits.{Visited}
use Rattle.der_schema.specs.declared.schema.Secrecy.TheVariants.{Public}
use Rattle.der_schema.specs.Meaning.{Label}
use Rattle.type_words.specs.Items.{Place, hidden, step_by}

-- what is inside an element that is marked as secret is hidden, as is the element itself
abbrev pub SecretsAreHidden : Type 0
SecretsAreHidden = (l : Label) (p : Place) (i : List ℕ) (v : Visited) → l.secrecy ≢ Public
    → let s = step_by (Some l) p i v in (s.item ≡ None) × (s.inside ≡ hidden)

-- where elements are hidden, all are
abbrev pub HiddenStaysHidden : Type 0
HiddenStaysHidden = (o : Option Label) (i : List ℕ) (v : Visited)
    → let s = step_by o hidden i v in (s.item ≡ None) × (s.after ≡ hidden) × (s.inside ≡ hidden)
