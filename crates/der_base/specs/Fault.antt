-- What a front of the input shows to be wrong, by its one name.
use Rattle.std.specs.Prelude.{◌≡◌, ◌≢◌, ℕ, zero, suc, ◌+◌, ◌-◌, ◌%◌, ◌^◌, ◌<◌, ◌≤◌, ◌⊎◌, Bool, true, false, IsTrue}
use Rattle.std.specs.Prelude.{List, [], ◌∷◌, ◌++◌, length, All}
use Rattle.der_base.specs.declared.header.Class.{Class}
use Rattle.der_base.specs.declared.header.Class.TheVariants.{Universal}
use Rattle.der_base.specs.declared.error.DerConstraint.TheVariants.{IndefiniteLength, LengthNotMinimal}
use Rattle.der_base.specs.declared.error.Needed.TheVariants.{Size}
use Rattle.der_base.specs.Octets.{identifier, number, groups_value, SpellsLength, shortest_length}
use Rattle.der_base.specs.Tree.{Nodes}
use Rattle.der_base.specs.Leaf.{is_list, is_mapped}
use Rattle.der_base.specs.LeafRefusal.{BerLeafRefuses, DerLeafRefuses}
use Rattle.der_base.specs.Refusal.{Refusal, max_depth, invalid_length, invalid_tag, construct_expected, der_constraint}
use Rattle.der_base.specs.Refusal.{incomplete}
use Rattle.der_base.specs.Spelling.{IsRawList, BeginsWithElement, Forms, Joins, DerSpells, framing_budget}
use Rattle.der_base.specs.Spelling.{max_object_size}
use Rattle.der_base.specs.Encoding.{element}
use Rattle.der_base.specs.Tree.{no_nodes, nodes}
use Rattle.der_base.specs.Cut.{IsCut, Lacks, DerLacks}

-- The octet b shows that there is no identifier: the long form begins with a group of zeros, spells a number below
-- 31, or passes 2^32-1 (8.1.2.4).
abbrev pub HasBadTag : List ℕ → Type 0
HasBadTag i = (a b : ℕ) × (bs r : List ℕ) × (i ≡ a ∷ bs ++ b ∷ r) × (a % 32 ≡ 31) × All (λ g. 128 ≤ g) bs
    × (((bs ≡ []) × (b ≡ 128)) ⊎ ((bs ≡ []) × (b < 31)) ⊎ (2 ^ 32 ≤ groups_value 0 (bs ++ b ∷ [])))

-- an identifier with a number that fits, and what follows it
abbrev pub HasIdentifier : List ℕ → Bool → List ℕ → Type 0
HasIdentifier i p rest = (c : Class) × (t : ℕ) × (t < 2 ^ 32) × (i ≡ identifier c p t ++ rest)

-- length octets that are whole, with a number that does not fit
abbrev pub HasLargeLength : List ℕ → Type 0
HasLargeLength s = (b : ℕ) × (bs r : List ℕ) × (s ≡ b ∷ bs ++ r) × (128 < b) × (b < 255) × (128 + length bs ≡ b)
    × (2 ^ 64 ≤ number bs)

-- the refusals of length octets by BER, after an identifier that is constructed or not (8.1.3)
abbrev pub BerLengthRefuses : Bool → List ℕ → Refusal → Type 0
BerLengthRefuses p s e = (((r : List ℕ) × (s ≡ 255 ∷ r)) × (e ≡ invalid_length))
    ⊎ (HasLargeLength s × (e ≡ invalid_length))
    ⊎ (((r : List ℕ) × (s ≡ 128 ∷ r)) × (p ≡ false) × (e ≡ construct_expected))

-- by DER: the form is definite, and the octets are the fewest (10.1)
abbrev pub DerLengthRefuses : List ℕ → Refusal → Type 0
DerLengthRefuses s e = (((r : List ℕ) × (s ≡ 255 ∷ r)) × (e ≡ invalid_length))
    ⊎ (HasLargeLength s × (e ≡ invalid_length))
    ⊎ (((r : List ℕ) × (s ≡ 128 ∷ r)) × (e ≡ der_constraint IndefiniteLength))
    ⊎ (((l r : List ℕ) × (n : ℕ) × (s ≡ l ++ r) × SpellsLength l n × (l ≢ shortest_length n))
    × (e ≡ der_constraint LengthNotMinimal))

-- the refusals of a header
abbrev pub BerHeaderRefuses : List ℕ → Refusal → Type 0
BerHeaderRefuses i e = (HasBadTag i × (e ≡ invalid_tag))
    ⊎ ((p : Bool) × (s : List ℕ) × HasIdentifier i p s × BerLengthRefuses p s e)

abbrev pub DerHeaderRefuses : List ℕ → Refusal → Type 0
DerHeaderRefuses i e = (HasBadTag i × (e ≡ invalid_tag))
    ⊎ ((p : Bool) × (s : List ℕ) × HasIdentifier i p s × DerLengthRefuses s e)

-- a whole BER header, definite or not
abbrev pub HasHeader : List ℕ → Type 0
HasHeader i = (p : Bool) × (s : List ℕ) × HasIdentifier i p s
    × (((l r : List ℕ) × (n : ℕ) × (s ≡ l ++ r) × SpellsLength l n) ⊎ ((p ≡ true) × (r : List ℕ) × (s ≡ 128 ∷ r)))

-- the inside of an indefinite length shows the refusal, with this budget
pub data InsideRefuses : List ℕ → ℕ → Refusal → Type 0 where
  at_header : {v : List ℕ} {k : ℕ} {e : Refusal} (u rest : List ℕ) → 1 ≤ k → v ≡ u ++ rest → IsRawList u (k - 1)
      → BerHeaderRefuses rest e → InsideRefuses v k e
  too_deep : {v : List ℕ} {k : ℕ} → k ≡ 1 → HasHeader v → InsideRefuses v k max_depth
  further_in : {v : List ℕ} {k : ℕ} {e : Refusal} (u : List ℕ) (c : Class) (t : ℕ) (rest : List ℕ) → 2 ≤ k → t < 2 ^ 32
      → v ≡ u ++ identifier c true t ++ 128 ∷ rest → IsRawList u (k - 1)
      → InsideRefuses rest (k - 1) e → InsideRefuses v k e

-- What shows in the octets that are left of a list where an item should begin: a fault of the item, or that the end of
-- the list cuts it. Where none are left the list has ended.
abbrev pub ItemRefuses : (List ℕ → Refusal → Type 0) → (List ℕ → ℕ → Type 0) → List ℕ → Refusal → Type 0
ItemRefuses faults lacks r e = (r ≢ [])
    × (faults r e ⊎ ((n : ℕ) × IsCut r × lacks r n × ((x : Refusal) → ¬ faults r x) × (e ≡ incomplete (Size n))))

-- The content octets w of a mapped universal type show the refusal, in themselves or in an item. Items are read to
-- depth d, and faults are those of an item.
abbrev pub ShowsWithin : (List ℕ → Refusal → Type 0) → ℕ → Bool → ℕ → List ℕ → Refusal → Type 0
ShowsWithin faults d p t w e = BerLeafRefuses p t w e
    ⊎ (IsTrue (is_list t) × (p ≡ true) × (l : Nodes) × (fs : Forms) × (u r : List ℕ) × (w ≡ u ++ r)
    × Joins u l fs d framing_budget × ItemRefuses faults Lacks r e)

-- A front of i shows the refusal, to depth d (the depth comes first: the definition recurses on it).
abbrev pub ShowsFault : ℕ → List ℕ → Refusal → Type 0
ShowsFault zero i e = e ≡ max_depth
ShowsFault (suc d) i e =
    -- in the header
    BerHeaderRefuses i e
    -- in the framing of an indefinite length
    ⊎ ((c : Class) × (t : ℕ) × (v : List ℕ) × (t < 2 ^ 32) × (i ≡ identifier c true t ++ 128 ∷ v)
    × InsideRefuses v framing_budget e)
    -- in the content
    ⊎ ((p : Bool) × (t : ℕ) × (w rest : List ℕ) × BeginsWithElement i framing_budget Universal p t w rest
    × IsTrue (is_mapped t) × ShowsWithin (ShowsFault d) d p t w e)

abbrev pub ShowsInside : ℕ → Bool → ℕ → List ℕ → Refusal → Type 0
ShowsInside d p t w e = ShowsWithin (ShowsFault d) d p t w e

-- u joins the DER spellings of the items
abbrev pub DerJoins : List ℕ → Nodes → ℕ → Type 0
DerJoins u no_nodes d = u ≡ []
DerJoins u (nodes o l) d = (b rest : List ℕ) × (u ≡ b ++ rest) × DerSpells b o d × DerJoins rest l d

-- The same for DER.
abbrev pub DerShowsWithin : (List ℕ → Refusal → Type 0) → ℕ → Bool → ℕ → List ℕ → Refusal → Type 0
DerShowsWithin faults d p t w e = DerLeafRefuses p t w e
    ⊎ (IsTrue (is_list t) × (p ≡ true) × (l : Nodes) × (u r : List ℕ) × (w ≡ u ++ r) × DerJoins u l d
    × ItemRefuses faults DerLacks r e)

abbrev pub DerShowsFault : ℕ → List ℕ → Refusal → Type 0
DerShowsFault zero i e = e ≡ max_depth
DerShowsFault (suc d) i e =
    DerHeaderRefuses i e
    -- in the size
    ⊎ ((c : Class) × (p : Bool) × (t n : ℕ) × (r : List ℕ) × (t < 2 ^ 32)
    × (i ≡ identifier c p t ++ shortest_length n ++ r) × (n < 2 ^ 64) × (max_object_size < n)
    × (e ≡ invalid_length))
    ⊎ ((p : Bool) × (t : ℕ) × (w rest : List ℕ) × (t < 2 ^ 32) × (i ≡ element Universal p t w ++ rest)
    × (length w ≤ max_object_size) × IsTrue (is_mapped t) × DerShowsWithin (DerShowsFault d) d p t w e)

abbrev pub DerShowsInside : ℕ → Bool → ℕ → List ℕ → Refusal → Type 0
DerShowsInside d p t w e = DerShowsWithin (DerShowsFault d) d p t w e
