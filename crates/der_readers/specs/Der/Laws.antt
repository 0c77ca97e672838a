-- The statements of the laws in src/laws.rt.
use Rattle.std.specs.Prelude.{◌≡◌, ℕ, List, [], ◌++◌}
use Rattle.der_base.specs.Encoding.{encoding}
use Rattle.der_base.specs.Spelling.{BerSpells, DerSpells, framing_budget}
use Rattle.der_object.specs.declared.object.BerObject.{BerObject}
use Rattle.der_object.specs.View.{tree}
use Rattle.der_readers.specs.Der.DerReading.{ReadsDer}

-- what is written of an object that was read is the octets that it was read from
abbrev pub WrittenIsFront : Type 0
WrittenIsFront = (d : ℕ) (i rest : List ℕ) (o : BerObject) → ReadsDer d i o rest → i ≡ encoding (tree o) ++ rest

-- it spells the object's tree, by DER and by BER, to the same depth
abbrev pub WrittenSpells : Type 0
WrittenSpells = (d : ℕ) (i rest : List ℕ) (o : BerObject) → ReadsDer d i o rest
    → DerSpells (encoding (tree o)) (tree o) d × BerSpells (encoding (tree o)) (tree o) d framing_budget

-- and whatever object is read of it, to whatever depth, has that tree, and nothing is left
abbrev pub WrittenIsReadBack : Type 0
WrittenIsReadBack = (d d' : ℕ) (i rest rest' : List ℕ) (o o' : BerObject) → ReadsDer d i o rest
    → ReadsDer d' (encoding (tree o)) o' rest' → (tree o' ≡ tree o) × (rest' ≡ [])
