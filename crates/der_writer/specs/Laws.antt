-- Statements of the laws in `src/laws.rt`.
use Rattle.std.specs.Prelude.{◌≡◌, ◌≢◌, ℕ, suc, ◌^◌, ◌<◌, ◌≤◌, ℤ, true, false, List, [], ◌∷◌, ◌++◌, length, All}
use Rattle.std.specs.List.{concat}
use Rattle.der_base.specs.declared.header.Class.{Class}
use Rattle.der_base.specs.declared.header.Class.TheVariants.{Universal}
use Rattle.der_base.specs.Encoding.{content_octets}
use Rattle.der_base.specs.Headers.{BeginsWithDerHeader}
use Rattle.der_base.specs.Leaf.{IsDerLeaf, IsMinimalInteger, HasZeroUnusedBits}
use Rattle.der_base.specs.Octets.{integer_value}
use Rattle.der_base.specs.Spelling.{DerSpells, max_object_size}
use Rattle.der_base.specs.Tree.{Node, node, Content, sequence, set, unknown, nodes_of}
use Rattle.der_writer.specs.Fields.{primitive, constructed, Sequence, Set}
use Rattle.der_writer.specs.Octets.{bit_octets, signed_integer}
use Rattle.der_writer.specs.SetsOf.{IsInOrder}
use Rattle.der_writer.specs.Spelled.{AreSpelled, SpellsOne}

-- a primitive element of a universal type is the DER spelling of its content
abbrev pub LeavesSpell : Type 0
LeavesSpell = (t : ℕ) (x : Content) (d : ℕ) → t < 2 ^ 32 → IsDerLeaf t x → length (content_octets x) ≤ max_object_size
    → DerSpells (primitive Universal t (content_octets x)) (node Universal false t x) (suc d)

-- the octets that are written for a number are the fewest with its value
abbrev pub NumbersSpell : Type 0
NumbersSpell = (n : ℤ) → IsMinimalInteger (signed_integer n) × (integer_value (signed_integer n) ≡ n)

-- the octets that are written for bits have unused bits as DER asks
abbrev pub BitsSpell : Type 0
BitsSpell = (u : ℕ) (w : List ℕ)
    → (k : ℕ) × (v : List ℕ) × (bit_octets u w ≡ k ∷ v) × HasZeroUnusedBits k v

-- fields that are spellings, closed under SEQUENCE or SET, are one of the tree with those items
abbrev pub SequencesSpell : Type 0
SequencesSpell = (w : List ℕ) (os : List Node) (d : ℕ) → AreSpelled w os d → length w ≤ max_object_size
    → DerSpells (Sequence w) (node Universal true 16 (sequence (nodes_of os))) (suc d)

abbrev pub SetsSpell : Type 0
SetsSpell = (w : List ℕ) (os : List Node) (d : ℕ) → AreSpelled w os d → length w ≤ max_object_size
    → DerSpells (Set w) (node Universal true 17 (set (nodes_of os))) (suc d)

-- a SET OF spellings in order is one of the tree with those items
abbrev pub SetsOfSpell : Type 0
SetsOfSpell = (ss ts : List (List ℕ)) (d : ℕ) → All (SpellsOne d) ss → IsInOrder ss ts
    → length (concat ts) ≤ max_object_size
    → (os : List Node) × DerSpells (Set (concat ts)) (node Universal true 17 (set (nodes_of os))) (suc d)

-- any octets under a tag of another class are a spelling of the element that keeps them
abbrev pub TaggedSpell : Type 0
TaggedSpell = (c : Class) (t : ℕ) (w : List ℕ) (d : ℕ) → c ≢ Universal → t < 2 ^ 32 → length w ≤ max_object_size
    → DerSpells (constructed c t w) (node c true t (unknown c true t w)) (suc d)

-- spellings one after another
abbrev pub FieldsSpell : Type 0
FieldsSpell = (b w : List ℕ) (o : Node) (os : List Node) (d : ℕ) → AreSpelled w os d → DerSpells b o d
    → AreSpelled (w ++ b) (os ++ o ∷ []) d

-- an element begins with a header by DER, which `SpellsElement` of der_cursor is
abbrev pub ElementsBegin : Type 0
ElementsBegin = (c : Class) (t : ℕ) (w rest : List ℕ) → t < 2 ^ 32 → length w ≤ max_object_size
    → BeginsWithDerHeader (primitive c t w ++ rest) c false t (length w) (w ++ rest)
    × BeginsWithDerHeader (constructed c t w ++ rest) c true t (length w) (w ++ rest)
