-- Extensions, sorted by which they are.
use Rattle.std.specs.Prelude.{◌≡◌, ◌≢◌, ℕ, ◌↔◌, Bool, List, length, slice_index_or}
use Rattle.x509_value_rules.specs.declared.facts.Fact.{Fact}
use Rattle.der_extensions.specs.declared.known.KnownExtension.{KnownExtension}
use Rattle.x509_value_rules.specs.declared.sorted.Slot.{Slot}
use Rattle.x509_value_rules.specs.declared.sorted.Slot.TheVariants.{Absent, Once, Unsorted}
use Rattle.x509_value_rules.specs.declared.sorted.SortedExtensions.{SortedExtensions}
use Rattle.x509_value_rules.specs.Facts.{Holds, Shows}
use Rattle.der_extensions.specs.Known.{known_count, known_number}
use Rattle.x509_value_rules.specs.Readings.{IsReadingOf}

-- What the slot of an extension says is so, among extensions with these octets: none is this one; or one is, and
-- nothing else shows what it shows.
abbrev pub IsSlotOf : List ℕ → KnownExtension → Slot → Type 0
IsSlotOf i k Absent = (f : Fact) → ¬ Shows k f i
IsSlotOf i k (Once c v s) = ((f : Fact) → Shows k f i ↔ Holds f c v.now) × IsReadingOf s v.now
IsSlotOf i k Unsorted = Unit {0}

abbrev pub slot_of : List Slot → KnownExtension → Slot
slot_of slots k = slice_index_or slots (known_number k) Unsorted

-- there is a slot for each, and what it says is so
pub record AreSlotsOf (i : List ℕ) (slots : List Slot) : Type 0 where
  pub all : length slots ≡ known_count
  pub each : (k : KnownExtension) → IsSlotOf i k (slot_of slots k)

abbrev pub IsSorted : SortedExtensions → Type 0
IsSorted s = AreSlotsOf s.extensions.octets.now s.slots

-- the slot of one extension
abbrev pub IsOnce : Bool → List ℕ → Slot → Type 0
IsOnce c w Absent = ⊥
IsOnce c w (Once d v s) = (d ≡ c) × (v.now ≡ w) × IsReadingOf s w
IsOnce c w Unsorted = ⊥

-- a slot with one extension more: the first is kept, and of more none
abbrev pub IsAfter : Slot → Bool → List ℕ → Slot → Type 0
IsAfter Absent c w s = IsOnce c w s
IsAfter (Once _ _ _) c w s = s ≡ Unsorted
IsAfter Unsorted c w s = s ≡ Unsorted

-- an extension is put into its slot, and no other slot changes
pub record Puts (k : KnownExtension) (c : Bool) (w : List ℕ) (old new : List Slot) : Type 0 where
  pub all : length new ≡ known_count
  pub same : IsAfter (slot_of old k) c w (slot_of new k)
  pub others : (j : KnownExtension) → j ≢ k → slot_of new j ≡ slot_of old j
