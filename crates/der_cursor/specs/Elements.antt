-- Elements that are asked for: of one class, constructed bit and number, by the rules that are given.
use Rattle.std.specs.Borrow.{Bor}
use Rattle.std.specs.Prelude.{◌≡◌, ◌≢◌, ℕ, ◌+◌, ◌<◌, ◌⊎◌, Bool, true, false, Option, Some, List, ◌∷◌, ◌++◌, length}
use Rattle.std.specs.Prelude.{Result}
use Rattle.der_base.specs.declared.any.Any.{Any}
use Rattle.der_base.specs.declared.error.Err.{Err as Refused}
use Rattle.der_base.specs.declared.error.Error.{Error as BerError}
use Rattle.der_base.specs.declared.header.Class.{Class}
use Rattle.der_base.specs.declared.header.Class.TheVariants.{ContextSpecific}
use Rattle.der_base.specs.declared.header.Length.{Length}
use Rattle.der_base.specs.declared.header.Length.TheVariants.{Definite, Indefinite}
use Rattle.der_base.specs.declared.rules.Rules.{Rules}
use Rattle.der_base.specs.declared.rules.Rules.TheVariants.{Ber, Der}
use Rattle.der_base.specs.Any.{AnyRefuses, AnyLacks, DerAnyLacks, LeadingElement}
use Rattle.der_base.specs.Exactly.{AnswersExactly}
use Rattle.der_base.specs.Fault.{DerHeaderRefuses}
use Rattle.der_base.specs.Header.{class_of, is_constructed, number_of, length_of, raw_tag_of}
use Rattle.der_base.specs.Headers.{BeginsWithDerHeader, BeginsWithHeader, LeadingHeader}
use Rattle.der_base.specs.Short.{IsShort}
use Rattle.der_base.specs.Octets.{identifier, leading_bits}
use Rattle.der_base.specs.Refusal.{Refusal, unexpected_class, unexpected_tag, construct_expected, construct_unexpected}
use Rattle.der_base.specs.Rules.{SpellsHeaderBy}
use Rattle.der_base.specs.Spelling.{BeginsWithElement, framing_budget}

-- i begins with an element of this class, constructed bit and number (X.690 8.1), by DER with the shortest header
-- (10.1), whose content octets are v.0, and v.1 follows
abbrev pub SpellsElement : Rules → Class → Bool → ℕ → List ℕ → List ℕ × List ℕ → Type 0
SpellsElement Ber c p t i v = BeginsWithElement i framing_budget c p t v.0 v.1
SpellsElement Der c p t i v = BeginsWithDerHeader i c p t (length v.0) (v.0 ++ v.1)

-- i begins with an element of this class, constructed bit and number whose header has two octets (8.1.2.2, 8.1.3.4)
abbrev pub IsShortElement : Class → Bool → ℕ → List ℕ → List ℕ → List ℕ → Type 0
IsShortElement c p t i w rest =
    (t < 31) × IsShort i (leading_bits c p + t) w rest

-- the parts of an element, and what follows it
abbrev pub leading : Class → Bool → ℕ → List ℕ × List ℕ → LeadingElement
leading c p t v = record { class = c; constructed = p; number = t; content = v.0; rest = v.1 }

abbrev pub SpellsLeading : Rules → List ℕ → LeadingElement → Type 0
SpellsLeading r i e = SpellsElement r e.class e.constructed e.number i (e.content, e.rest)

-- a front of i shows the refusal, in its header or by BER in the framing of an indefinite length
abbrev pub NoElement : Rules → List ℕ → Refusal → Type 0
NoElement Ber i e = AnyRefuses i e
NoElement Der i e = DerHeaderRefuses i e

-- i ends within an element, and lacks n octets
abbrev pub ElementLacks : Rules → List ℕ → ℕ → Type 0
ElementLacks Ber i n = AnyLacks i n
ElementLacks Der i n = DerAnyLacks i n

-- the refusal of an element that has not this constructed bit
abbrev pub wrong_form : Bool → Refusal
wrong_form true = construct_expected
wrong_form false = construct_unexpected

-- What is reported of an element of the class k, the bit q and the number n, where another is asked for: the first of
-- the three that differs.
pub data IsOther (c : Class) (p : Bool) (t : ℕ) (k : Class) (q : Bool) (n : ℕ) : Refusal → Type 0 where
  other_class : k ≢ c → IsOther c p t k q n (unexpected_class (Some c) k)
  other_number : k ≡ c → n ≢ t → IsOther c p t k q n (unexpected_tag (Some t) n)
  other_form : k ≡ c → n ≡ t → q ≢ p → IsOther c p t k q n (wrong_form p)

-- the header shows the refusal, or an element begins i and is another
abbrev pub ElementRefuses : Rules → Class → Bool → ℕ → List ℕ → Refusal → Type 0
ElementRefuses r c p t i e = NoElement r i e
    ⊎ ((k : Class) × (q : Bool) × (n : ℕ) × (v : List ℕ × List ℕ) × SpellsElement r k q n i v × IsOther c p t k q n e)

-- any element: its class, whether it is constructed, its number and its content octets, and the length and the
-- identifier octets that its header has
abbrev pub Element : Type 0
Element = Class × Bool × ℕ × List ℕ × Length × Option (List ℕ)

abbrev pub element_of : Any → Element
element_of a = let h = a.header in
    (class_of h, is_constructed h, number_of h, a.bytes.now, length_of h, raw_tag_of h)

-- the header that i begins with has this length (8.1.3); by DER that is the number of content octets (10.1)
abbrev pub HasLength : Rules → List ℕ → Element → Type 0
HasLength Ber i e = (behind : List ℕ) × BeginsWithHeader i e.0 e.1 e.2 e.4 behind
HasLength Der i e = e.4 ≡ Definite (length e.3)

-- and these identifier octets (8.1.2)
abbrev pub HasHeader : Rules → List ℕ → Element → Type 0
HasHeader r i e = HasLength r i e × (e.5 ≡ Some (identifier e.0 e.1 e.2))

-- i begins with the element, and rest follows
abbrev pub SpellsAny : Rules → List ℕ → Element → List ℕ → Type 0
SpellsAny r i e rest = SpellsElement r e.0 e.1 e.2 i (e.3, rest) × HasHeader r i e

-- the element that was read begins i
abbrev pub ReadsAnyBy : Rules → List ℕ → Bor (List ℕ) × Any → Type 0
ReadsAnyBy r i x = SpellsAny r i (element_of x.1) x.0.now

-- an element that was read: its content octets, and what follows it
abbrev pub content_and_rest : Bor (List ℕ) × Any → List ℕ × List ℕ
content_and_rest x = (x.1.bytes.now, x.0.now)

-- a reader of elements returns exactly the one that is asked for, and takes no memory
abbrev pub AnswersElement : Rules → Class → Bool → ℕ → List ℕ → Result (Bor (List ℕ) × Any) (Refused BerError) → Type 0
AnswersElement r c p t i result = AnswersExactly result content_and_rest
    (λ x. SpellsElement r c p t i (content_and_rest x)) (SpellsElement r c p t i) (ElementRefuses r c p t i)
    (ElementLacks r i) ⊥ ⊥

-- i begins with the identifier octets of an explicit tag of this number, of class context-specific (8.1.2, 8.14.2)
abbrev pub BeginsWithTag : ℕ → List ℕ → Type 0
BeginsWithTag n i = (rest : List ℕ) × (i ≡ identifier ContextSpecific true n ++ rest)

-- with those of an element of this class and number, constructed or not
abbrev pub IsNext : Class → ℕ → List ℕ → Type 0
IsNext c n i = (p : Bool) × (rest : List ℕ) × (i ≡ identifier c p n ++ rest)

-- how many octets of an end marker follow the content: two after an indefinite length (8.1.3.6)
abbrev pub marker_size : Length → ℕ
marker_size (Definite n) = 0
marker_size Indefinite = 2

abbrev pub MarkerFollows : Rules → List ℕ → ℕ → Type 0
MarkerFollows r i m = (h : LeadingHeader) × SpellsHeaderBy r i h × (m ≡ marker_size h.length)
