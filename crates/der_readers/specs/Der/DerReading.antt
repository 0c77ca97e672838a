-- What the full reader of DER answers: an object, a refusal, or how many octets are lacking.
use Rattle.std.specs.Prelude.{◌≡◌, ◌≢◌, ℕ, ◌-◌, ◌≤◌, Bool, true, IsTrue, List, [], ◌++◌, length}
use Rattle.der_base.specs.declared.header.Class.{Class}
use Rattle.der_base.specs.declared.header.Class.TheVariants.{Universal}
use Rattle.der_base.specs.Exactly.{AnswersExactly}
use Rattle.der_base.specs.Fault.{DerShowsFault, DerShowsInside}
use Rattle.der_base.specs.Headers.{BeginsWithDerHeader}
use Rattle.der_base.specs.Leaf.{is_list, is_mapped}
use Rattle.der_base.specs.Refusal.{Refusal}
use Rattle.der_base.specs.Spelling.{BeginsWithDer, DerSpells}
use Rattle.der_base.specs.Stable.{DerIsCut, AnswerStays}
pub use Rattle.der_values.specs.Contents.{IsDerContentOf}
use Rattle.der_object.specs.declared.object.BerObject.{BerObject}
use Rattle.der_object.specs.HeaderFacts.{EachHasDerHeader}
use Rattle.der_object.specs.Readings.{Answer, value_of}
use Rattle.der_object.specs.View.{tree}

-- i begins with the DER spelling of the object to depth d, and rest follows
pub record ReadsDer (d : ℕ) (i : List ℕ) (o : BerObject) (rest : List ℕ) : Type 0 where
  pub spelling : List ℕ
  pub octets : i ≡ spelling ++ rest
  pub spells : DerSpells spelling (tree o) d
  -- each header in it has the length and the identifier octets that are there
  pub headers : EachHasDerHeader o

-- i begins with a whole list that has items
abbrev pub BeginsWithItems : List ℕ → Type 0
BeginsWithItems i = (t : ℕ) × (w rest : List ℕ) × IsTrue (is_list t) × (w ≢ [])
    × BeginsWithDerHeader i Universal true t (length w) (w ++ rest)

-- where the reader may want memory, to depth d
abbrev pub NeedsMemory : ℕ → List ℕ → Type 0
NeedsMemory d i = (2 ≤ d) × BeginsWithItems i

-- content octets behind a header of this class, bit and number show the refusal, to a depth of at least 1
abbrev pub ContentRefuses : Class → Bool → ℕ → List ℕ → ℕ → Refusal → Type 0
ContentRefuses c p t w d e = (c ≡ Universal) × IsTrue (is_mapped t) × DerShowsInside (d - 1) p t w e

-- the full reader answers exactly what i shows to depth d
abbrev pub AnswersDer : ℕ → List ℕ → Answer → Type 0
AnswersDer d i result = AnswersExactly result value_of (λ x. ReadsDer d i x.1 x.0.now)
    (λ v. BeginsWithDer d i v.0 v.1) (DerShowsFault d i) (DerIsCut d i) (NeedsMemory d i) ⊥

-- What was answered stays, whatever octets follow: an Error, and an Ok but for its rest. Each proper front of what was
-- read is cut short.
abbrev pub IsStableDer : ℕ → List ℕ → Answer → Type 0
IsStableDer d i result = AnswerStays result value_of BeginsWithDer DerShowsFault DerIsCut d i
