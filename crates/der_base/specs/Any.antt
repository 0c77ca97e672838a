-- Elements whose content is not read, and contents after a header.
use Rattle.std.specs.Borrow.{Bor}
use Rattle.std.specs.Prelude.{◌≡◌, ℕ, ◌+◌, ◌^◌, ◌<◌, ◌≤◌, ◌⊎◌, Bool, true, Some, List, ◌∷◌, ◌++◌, length, Result}
use Rattle.der_base.specs.declared.any.Any.{Any}
use Rattle.der_base.specs.declared.error.Err.{Err as Refused}
use Rattle.der_base.specs.declared.error.Error.{Error as BerError}
use Rattle.der_base.specs.declared.header.Class.{Class}
use Rattle.der_base.specs.declared.header.Length.{Length}
use Rattle.der_base.specs.declared.header.Length.TheVariants.{Definite}
use Rattle.der_base.specs.Content.{BeginsWithContent, ContentRefuses, ContentLacks}
use Rattle.der_base.specs.Cut.{IsCut, Lacks}
use Rattle.der_base.specs.Exactly.{AnswersExactly}
use Rattle.der_base.specs.Fault.{BerHeaderRefuses, DerHeaderRefuses, InsideRefuses}
use Rattle.der_base.specs.Header.{class_of, is_constructed, number_of, length_of, raw_tag_of}
use Rattle.der_base.specs.Headers.{BeginsWithDerHeader, DerHeaderLacks, ReadsHeader}
use Rattle.der_base.specs.Octets.{identifier}
use Rattle.der_base.specs.Refusal.{Refusal}
use Rattle.der_base.specs.Spelling.{BeginsWithElement, framing_budget}

-- i begins with the element, whose header is as DER writes it, and rest follows
pub record ReadsDerAny (i : List ℕ) (a : Any) (rest : List ℕ) : Type 0 where
  pub begins : BeginsWithDerHeader i (class_of a.header) (is_constructed a.header) (number_of a.header)
      (length a.bytes.now) (a.bytes.now ++ rest)
  pub length : length_of a.header ≡ Definite (length a.bytes.now)
  pub raw_tag : raw_tag_of a.header
      ≡ Some (identifier (class_of a.header) (is_constructed a.header) (number_of a.header))

-- i ends within a header that shows no refusal, or within the content after one, and lacks n octets
abbrev pub DerAnyLacks : List ℕ → ℕ → Type 0
DerAnyLacks i n = DerHeaderLacks i n
    ⊎ ((c : Class) × (p : Bool) × (t m : ℕ) × (rest : List ℕ) × BeginsWithDerHeader i c p t m rest
    × (1 ≤ n) × (length rest + n ≡ m))

-- i begins with the element, of a definite or an indefinite length, or with an end marker, and rest follows
pub record ReadsAny (i : List ℕ) (a : Any) (rest : List ℕ) : Type 0 where
  pub element : BeginsWithElement i framing_budget (class_of a.header) (is_constructed a.header) (number_of a.header)
      a.bytes.now rest
  pub behind : List ℕ
  pub header : ReadsHeader i a.header behind

-- a front of i shows the refusal, in its header or in the framing of an indefinite length
abbrev pub AnyRefuses : List ℕ → Refusal → Type 0
AnyRefuses i e = BerHeaderRefuses i e
    ⊎ ((c : Class) × (t : ℕ) × (v : List ℕ) × (t < 2 ^ 32) × (i ≡ identifier c true t ++ 128 ∷ v)
    × InsideRefuses v framing_budget e)

-- i is a proper front of an element, lacks n octets, and shows no such refusal
abbrev pub AnyLacks : List ℕ → ℕ → Type 0
AnyLacks i n = IsCut i × Lacks i n × ((e : Refusal) → ¬ AnyRefuses i e)

-- the parts of an element in front of an input, and what follows it
pub record LeadingElement : Type 0 where
  pub class : Class
  pub constructed : Bool
  pub number : ℕ
  pub content : List ℕ
  pub rest : List ℕ

-- i begins with one, by BER
abbrev pub SpellsAny : List ℕ → LeadingElement → Type 0
SpellsAny i v = BeginsWithElement i framing_budget v.class v.constructed v.number v.content v.rest

-- and by DER
abbrev pub SpellsDerAny : List ℕ → LeadingElement → Type 0
SpellsDerAny i v = BeginsWithDerHeader i v.class v.constructed v.number (length v.content) (v.content ++ v.rest)

-- the result of a reader of elements
abbrev pub AnyAnswer : Type 0
AnyAnswer = Result (Bor (List ℕ) × Any) (Refused BerError)

-- what was read, and what is left of the input
abbrev pub leading_element : Bor (List ℕ) × Any → LeadingElement
leading_element x = record {
  class = class_of x.1.header;
  constructed = is_constructed x.1.header;
  number = number_of x.1.header;
  content = x.1.bytes.now;
  rest = x.0.now;
}

-- the reader of elements returns exactly what i shows by BER, and does not allocate
abbrev pub AnswersAny : List ℕ → AnyAnswer → Type 0
AnswersAny i result = AnswersExactly result leading_element (λ x. ReadsAny i x.1 x.0.now) (SpellsAny i)
    (AnyRefuses i) (AnyLacks i) ⊥ ⊥

-- the same by DER
abbrev pub AnswersDerAny : List ℕ → AnyAnswer → Type 0
AnswersDerAny i result = AnswersExactly result leading_element (λ x. ReadsDerAny i x.1 x.0.now) (SpellsDerAny i)
    (DerHeaderRefuses i) (DerAnyLacks i) ⊥ ⊥

-- the content octets that were read, and what is left of the input
abbrev pub leading_content : Bor (List ℕ) × Bor (List ℕ) → List ℕ × List ℕ
leading_content x = (x.1.now, x.0.now)

-- The reader of contents returns exactly what i shows after a header of this length, where indefinite lengths are
-- nested below the budget k. It takes no memory.
abbrev pub AnswersContent : Length → ℕ → List ℕ → Result (Bor (List ℕ) × Bor (List ℕ)) (Refused BerError) → Type 0
AnswersContent l k i result = AnswersExactly result leading_content (λ x. BeginsWithContent i l k x.1.now x.0.now)
    (λ v. BeginsWithContent i l k v.0 v.1) (ContentRefuses i l k) (ContentLacks i l k) ⊥ ⊥
