-- What the tests before a content's framing show.
use Rattle.std.specs.Prelude.{◌≡◌, ℕ, ◌≤◌, Bool, true, List, length}
use Rattle.der_base.specs.declared.header.Length.{Length}
use Rattle.der_base.specs.declared.header.Length.TheVariants.{Definite, Indefinite}
use Rattle.der_base.specs.declared.rules.Rules.{Rules}
use Rattle.der_base.specs.declared.rules.Rules.TheVariants.{Ber}
use Rattle.der_base.specs.Spelling.{max_object_size}

-- the tests of length and depth pass, and a definite content is there
abbrev pub MayFollow : Rules → Length → Bool → ℕ → List ℕ → Type 0
MayFollow rules (Definite n) p d i = (1 ≤ d) × (n ≤ max_object_size) × (n ≤ length i)
MayFollow rules Indefinite p d i = (1 ≤ d) × (rules ≡ Ber) × (p ≡ true)
