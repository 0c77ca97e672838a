-- What the full reader of BER answers: an object, a refusal, or how many octets are lacking.
use Rattle.std.specs.Prelude.{◌≡◌, ◌≢◌, ℕ, ◌-◌, ◌≤◌, ◌⊎◌, Bool, true, Some, IsTrue, List, [], ◌++◌}
use Rattle.der_base.specs.declared.header.Class.{Class}
use Rattle.der_base.specs.declared.header.Class.TheVariants.{Universal}
use Rattle.der_base.specs.declared.header.Length.TheVariants.{Indefinite}
use Rattle.der_base.specs.Exactly.{AnswersExactly}
use Rattle.der_base.specs.Fault.{ShowsFault, ShowsInside}
use Rattle.der_base.specs.Header.{number_of}
use Rattle.der_base.specs.Headers.{BeginsWithHeader}
use Rattle.der_base.specs.Leaf.{is_list, is_mapped}
use Rattle.der_base.specs.Refusal.{Refusal, unexpected_tag}
use Rattle.der_base.specs.Spelling.{BeginsWithBer, BeginsWithElement, BerSpellsAs, framing_budget}
use Rattle.der_base.specs.Stable.{AnswerStays, BerIsCut}
use Rattle.der_base.specs.Tree.{Node, node}
use Rattle.der_object.specs.declared.object.BerObject.{BerObject}
use Rattle.der_object.specs.HeaderFacts.{form_of, EachHasRawTagAndHeader}
use Rattle.der_object.specs.Readings.{Answer, value_of}
use Rattle.der_object.specs.View.{tree}

-- i begins with a BER spelling of the object to depth d, and rest follows
pub record ReadsBer (d : ℕ) (i : List ℕ) (o : BerObject) (rest : List ℕ) : Type 0 where
  pub spelling : List ℕ
  pub octets : i ≡ spelling ++ rest
  -- each header in it has the length that is there
  pub spells : BerSpellsAs spelling (tree o) (form_of o) d framing_budget
  -- and the identifier octets
  pub headers : EachHasRawTagAndHeader o

-- i begins with an element of this number, which is another than n
abbrev pub IsOther : ℕ → List ℕ → ℕ → Type 0
IsOther n i t = (t ≢ n) × (c : Class) × (p : Bool) × (w rest : List ℕ)
    × BeginsWithElement i framing_budget c p t w rest

-- The refusals of a reader that wants the number n: another number is told behind header and framing, and before the
-- content.
abbrev pub TagNumberRefuses : ℕ → ℕ → List ℕ → Refusal → Type 0
TagNumberRefuses n d i e = ((1 ≤ d) × (t : ℕ) × IsOther n i t × (e ≡ unexpected_tag (Some n) t))
    ⊎ (((d ≡ 0) ⊎ ((t : ℕ) → ¬ IsOther n i t)) × ShowsFault d i e)

-- i begins with a whole list of the number t that has items
abbrev pub BeginsWithItemsOf : ℕ → List ℕ → Type 0
BeginsWithItemsOf t i = (w rest : List ℕ) × IsTrue (is_list t) × (w ≢ [])
    × BeginsWithElement i framing_budget Universal true t w rest

-- of any number
abbrev pub BeginsWithItems : List ℕ → Type 0
BeginsWithItems i = (t : ℕ) × BeginsWithItemsOf t i

-- i begins with a header of indefinite length
abbrev pub BeginsOpen : List ℕ → Type 0
BeginsOpen i = (c : Class) × (t : ℕ) × (behind : List ℕ) × BeginsWithHeader i c true t Indefinite behind

-- where the reader may want memory for the elements of an indefinite length, which it keeps while it frames them
abbrev pub FramingNeedsMemory : ℕ → List ℕ → Type 0
FramingNeedsMemory d i = (1 ≤ d) × BeginsOpen i

-- where the reader may want memory, to depth d
abbrev pub NeedsMemory : ℕ → List ℕ → Type 0
NeedsMemory d i = ((2 ≤ d) × BeginsWithItems i) ⊎ FramingNeedsMemory d i

-- the same of a reader that wants the number n: framing comes before the comparison, and the content behind it
abbrev pub TagNumberNeedsMemory : ℕ → ℕ → List ℕ → Type 0
TagNumberNeedsMemory n d i = ((2 ≤ d) × BeginsWithItemsOf n i) ⊎ FramingNeedsMemory d i

-- content octets behind a header of this class, bit and number show the refusal, to a depth of at least 1
abbrev pub ContentRefuses : Class → Bool → ℕ → List ℕ → ℕ → Refusal → Type 0
ContentRefuses c p t w d e = (c ≡ Universal) × IsTrue (is_mapped t) × ShowsInside (d - 1) p t w e

-- the full reader answers exactly what i shows to depth d
abbrev pub AnswersBer : ℕ → List ℕ → Answer → Type 0
AnswersBer d i result = AnswersExactly result value_of (λ x. ReadsBer d i x.1 x.0.now)
    (λ v. BeginsWithBer d i v.0 v.1) (ShowsFault d i) (BerIsCut d i) (NeedsMemory d i) (FramingNeedsMemory d i)

-- What was answered stays, whatever octets follow: an Error, and an Ok but for its rest. Each proper front of what was
-- read is cut short.
abbrev pub IsStableBer : ℕ → List ℕ → Answer → Type 0
IsStableBer d i result = AnswerStays result value_of BeginsWithBer ShowsFault BerIsCut d i

-- the tag number of a tree
abbrev pub number : Node → ℕ
number (node c p t x) = t

-- the reader that wants the number n answers exactly what i shows to depth d
abbrev pub AnswersTagNumber : ℕ → ℕ → List ℕ → Answer → Type 0
AnswersTagNumber n d i result = AnswersExactly result value_of
    (λ x. ReadsBer d i x.1 x.0.now × (number_of x.1.header ≡ n)) (λ v. BeginsWithBer d i v.0 v.1 × (number v.0 ≡ n))
    (TagNumberRefuses n d i) (BerIsCut d i) (TagNumberNeedsMemory n d i) (FramingNeedsMemory d i)
