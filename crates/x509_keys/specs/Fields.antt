-- Words for formats of keys, with the names of their fields.
use Rattle.std.specs.Prelude.{ℕ, true, Option, Some, None, List, [], ◌∷◌, map}
use Rattle.der_base.specs.declared.header.Class.TheVariants.{ContextSpecific}
use Rattle.der_cursor.specs.declared.named.FieldError.{FieldError}
use Rattle.der_cursor.specs.Elements.{BeginsWithTag}
use Rattle.der_cursor.specs.Named.{names_of}
use Rattle.x509.specs.Formats.{Fault, Format, ◌>>=◌, done, either, element, end_of_content, inside, named}
use Rattle.x509.specs.Readers.{fault_of}

-- the names of the fields that the refused element is in, the outermost first, and what is wrong with it
abbrev pub KeyFault : Type 0
KeyFault = List (List ℕ) × Fault

abbrev pub key_fault : FieldError → KeyFault
key_fault e = (map (λ n. n.now) (names_of e), fault_of e.refusal)

-- a field of this name
abbrev pub field : {V : Type 0} → List ℕ → Format Fault V → Format KeyFault V
field name f = named (name ∷ []) f

-- a value, or none where the octets aren't so
abbrev pub optional : {E V : Type 0} → (List ℕ → Type 0) → Format E V → Format E (Option V)
optional P f = either P (f >>= λ v. done (Some v)) (done None)

-- a value, and nothing after it
abbrev pub alone : {V : Type 0} → Format Fault V → Format Fault V
alone f = do
  v ← f
  _ ← end_of_content
  done v

-- a value under an explicit tag of this number, if it is next (X.690 8.14.2)
abbrev pub optional_explicit : {V : Type 0} → ℕ → Format Fault V → Format Fault (Option V)
optional_explicit n f = optional (BeginsWithTag n) (element ContextSpecific true n >>= λ w. inside w (alone f))

-- a value of this name, which is the whole input
abbrev pub whole : {V : Type 0} → List ℕ → Format KeyFault V → Format KeyFault V
whole name f = do
  v ← f
  _ ← field name end_of_content
  done v
