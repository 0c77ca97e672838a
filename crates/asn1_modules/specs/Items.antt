-- Where lexical items lie in a text.
use Rattle.std.specs.Prelude.{◌≡◌, ℕ, ◌+◌, ◌≤◌, List, [], ◌∷◌, length, take, drop}
use Rattle.asn1_modules.specs.declared.token.Token.{Token}

-- the octets of an item are those of the text at its offset
abbrev pub IsPartOf : List ℕ → Token → Type 0
IsPartOf text t = t.text.now ≡ take (length t.text.now) (drop t.offset text)

-- The items are parts of the text, in this order: each begins where the one before it ends, or later. The first one
-- begins at `begin` or later, and the last one ends at `end` or earlier.
abbrev pub Lie : List ℕ → ℕ → List Token → ℕ → Type 0
Lie text begin [] end = begin ≤ end
Lie text begin (t ∷ ts) end = (begin ≤ t.offset) × (IsPartOf text t × Lie text (t.offset + length t.text.now) ts end)
