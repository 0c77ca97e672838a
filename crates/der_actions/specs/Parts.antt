-- The octets of an element.
use Rattle.std.specs.Prelude.{◌≡◌, ℕ, ◌+◌, ◌-◌, Bool, true, false, MatchOption, Option, Some, None}
use Rattle.std.specs.Prelude.{List, ◌++◌, drop, length, take}
use Rattle.std.specs.Io.KnownBytes.{Appends}
use Rattle.der_base.specs.declared.rules.Rules.TheVariants.{Ber}
use Rattle.der_elements.specs.Check.Elements.{IsElement}
use Rattle.der_actions.specs.declared.options.Options.{Options}
use Rattle.der_elements.specs.Visits.{Visited}

-- the octets of an element in an input: from its offset on, as many as its header and its content have; with an
-- indefinite length, those that are an element of BER (X.690 8.1.3.6)
abbrev pub AreOctetsOf : List ℕ → Visited → List ℕ → Type 0
AreOctetsOf i v w = (rest : List ℕ) × (drop v.offset i ≡ w ++ rest)
    × MatchOption v.length (IsElement Ber 101 w) (λ n. length w ≡ v.header + n)

-- the octets of a content: those of its element without the header and without end-of-contents octets
abbrev pub content_within : Option ℕ → ℕ → List ℕ → List ℕ
content_within (Some n) header w = drop header w
content_within None header w = let c = drop header w in take (length c - 2) c

-- all octets of an element, or those of its content
abbrev pub part_of : Bool → Visited → List ℕ → List ℕ
part_of true v w = content_within v.length v.header w
part_of false v w = w

-- known octets grew by those of an element
pub record AreWrittenOf (o : Options) (i : List ℕ) (v : Visited) (old new : Option (List ℕ)) : Type 0 where
  pub octets : List ℕ
  pub are : AreOctetsOf i v octets
  pub adds : Appends old new (part_of o.is_content v octets)
