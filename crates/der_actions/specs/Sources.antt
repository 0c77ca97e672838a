-- The members of a JSON object that don't depend on the content of its element.
use Rattle.std.specs.Prelude.{◌≡◌, ℕ, true, MatchOption, Option, List}
use Rattle.der_actions.specs.declared.options.Options.{Options}
use Rattle.der_actions.specs.Parts.{AreOctetsOf}
use Rattle.der_elements.specs.Visits.{Visited}

-- all octets of an element, if the options ask for them and the input has them
abbrev pub AreAskedOctets : Options → List ℕ → Visited → Option (List ℕ) → Type 0
AreAskedOctets o i v octets = MatchOption octets
    (o.has_octets ≡ true → (w : List ℕ) → ¬ AreOctetsOf i v w)
    (λ w. (o.has_octets ≡ true) × AreOctetsOf i v w)
