-- Walks over lists whose octets are kept.
use Rattle.std.specs.Prelude.{ℕ, List}
use Rattle.der_base.specs.declared.rules.Rules.TheVariants.{Der}
use Rattle.der_cursor.specs.Formats.{Field}

-- of the fields that i begins with by DER, one after another, there is one of which P holds
pub data Among {V : Type 0} (F : Field V) (P : V → Type 0) : List ℕ → Type 0 where
  here : {i rest : List ℕ} (v : V) → F Der i v rest → P v → Among F P i
  later : {i rest : List ℕ} (v : V) → F Der i v rest → Among F P rest → Among F P i

-- the same of two of them
pub data Twice {V : Type 0} (F : Field V) (P : V → Type 0) : List ℕ → Type 0 where
  first : {i rest : List ℕ} (v : V) → F Der i v rest → P v → Among F P rest → Twice F P i
  beyond : {i rest : List ℕ} (v : V) → F Der i v rest → Twice F P rest → Twice F P i
