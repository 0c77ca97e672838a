-- Which attribute an identifier is of.
use Rattle.std.specs.Prelude.{◌≡◌, ◌≢◌, ℕ, List, Option, MatchOption}
use Rattle.x509_rule_facts.specs.declared.attributes.AttributeKind.{AttributeKind}
use Rattle.x509_rule_facts.specs.Attributes.{kind_octets}

-- the attribute whose identifier has these octets; None if none has
abbrev pub IdentifiesKind : List ℕ → Option AttributeKind → Type 0
IdentifiesKind w r = MatchOption r ((k : AttributeKind) → w ≢ kind_octets k) (λ k. w ≡ kind_octets k)
