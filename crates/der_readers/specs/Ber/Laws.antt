-- The statements of the laws in src/laws.rt.
use Rattle.std.specs.Prelude.{◌≡◌, ℕ, ◌<◌, ◌^◌, List, [], length}
use Rattle.der_base.specs.Encoding.{encoding}
use Rattle.der_base.specs.Spelling.{BerSpells, framing_budget}
use Rattle.der_object.specs.declared.object.BerObject.{BerObject}
use Rattle.der_object.specs.View.{tree}
use Rattle.der_readers.specs.Ber.BerReading.{ReadsBer}

-- what is written of an object that was read, up to 2^64-1 octets, spells its tree, to the same depth
abbrev pub WrittenSpells : Type 0
WrittenSpells = (d : ℕ) (i rest : List ℕ) (o : BerObject) → ReadsBer d i o rest → length (encoding (tree o)) < 2 ^ 64
    → BerSpells (encoding (tree o)) (tree o) d framing_budget

-- and whatever object is read of it, to whatever depth, has that tree, and nothing is left
abbrev pub WrittenIsReadBack : Type 0
WrittenIsReadBack = (d d' : ℕ) (i rest rest' : List ℕ) (o o' : BerObject)
    → ReadsBer d i o rest → length (encoding (tree o)) < 2 ^ 64
    → ReadsBer d' (encoding (tree o)) o' rest' → (tree o' ≡ tree o) × (rest' ≡ [])
