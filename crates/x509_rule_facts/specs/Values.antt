-- What octets say that are a value.
use Rattle.std.specs.Prelude.{ℕ, List}
use Rattle.der_base.specs.declared.rules.Rules.TheVariants.{Der}
use Rattle.der_cursor.specs.Formats.{Format, Only, Required}

-- the octets are a value of the type, of which P holds
abbrev pub Says : {V : Type 0} → Format V → (V → Type 0) → List ℕ → Type 0
Says {V} F P w = (v : V) × Only (Required F) Der w v × P v
