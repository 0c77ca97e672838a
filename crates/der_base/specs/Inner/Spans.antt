-- The elements inside an indefinite length as they are recorded: in the order of their headers, each with how many of
-- those after it lie inside it (X.690 8.1.3.6).
use Rattle.std.specs.Prelude.{◌≡◌, ◌≢◌, ℕ, ◌+◌, ◌-◌, Some, List, [], ◌∷◌, ◌++◌, length}
use Rattle.der_base.specs.declared.header.Header.{Header}
use Rattle.der_base.specs.declared.header.Length.{Length}
use Rattle.der_base.specs.declared.header.Length.TheVariants.{Definite, Indefinite}
use Rattle.der_base.specs.declared.spans.Span.{Span}
use Rattle.der_base.specs.Content.{BeginsWithContent}
use Rattle.der_base.specs.Inner.Framed.{IsElement}
use Rattle.der_base.specs.Header.{class_of, is_constructed, number_of, length_of, raw_tag_of}
use Rattle.der_base.specs.Octets.{identifier}
use Rattle.der_base.specs.Spelling.{end_marker}

-- s is the element of the octets b, which is no end marker, where indefinite lengths are nested below the budget
pub record IsSpan (s : Span) (b : List ℕ) (k : ℕ) : Type 0 where
  pub element : let h = s.element.header in
      IsElement b (length_of h) (class_of h) (is_constructed h) (number_of h) s.element.bytes.now k
  pub raw_tag : let h = s.element.header in
      raw_tag_of h ≡ Some (identifier (class_of h) (is_constructed h) (number_of h))
  pub other : b ≢ end_marker

-- The octets w are the elements that the spans are of, one after the other. After the span of an indefinite length
-- come those inside it; after that of a definite one none, since it is not looked into.
pub data AreSpans : (ss : List Span) (w : List ℕ) (k : ℕ) → Type 0 where
  no_spans : {k : ℕ} → AreSpans [] [] k
  closed_span : {ss : List Span} {w : List ℕ} {k : ℕ} (s : Span) (n : ℕ) (after : List Span) (b rest : List ℕ)
      → IsSpan s b k → length_of s.element.header ≡ Definite n → s.inside ≡ 0 → AreSpans after rest k
      → ss ≡ s ∷ after → w ≡ b ++ rest → AreSpans ss w k
  open_span : {ss : List Span} {w : List ℕ} {k : ℕ} (s : Span) (inside after : List Span) (b rest : List ℕ)
      → IsSpan s b k → length_of s.element.header ≡ Indefinite
      → s.inside ≡ length inside → AreSpans inside s.element.bytes.now (k - 1) → AreSpans after rest k
      → ss ≡ s ∷ inside ++ after → w ≡ b ++ rest → AreSpans ss w k

-- the spans are those inside a content of this length: none of a definite one
abbrev pub AreInside : Length → List Span → List ℕ → ℕ → Type 0
AreInside (Definite n) ss w k = ss ≡ []
AreInside Indefinite ss w k = AreSpans ss w k

-- v begins with the content w of this length, and rest follows; after the old spans come those inside it
abbrev pub RecordsContent : (v : List ℕ) → Length → (k : ℕ) (w rest : List ℕ) (old new : List Span) → Type 0
RecordsContent v l k w rest old new =
    BeginsWithContent v l k w rest × (ss : List Span) × (new ≡ old ++ ss) × AreInside l ss w (k - 1)

-- the content follows the header, and then rest; the spans are that of the element and those inside it
pub record RecordsElement (h : Header) (behind : List ℕ) (k : ℕ) (ss : List Span) (rest : List ℕ) : Type 0 where
  pub span : Span
  pub inside : List Span
  pub spans : ss ≡ span ∷ inside
  pub header : span.element.header ≡ h
  pub number : span.inside ≡ length inside
  pub content : BeginsWithContent behind (length_of h) k span.element.bytes.now rest
  pub recorded : AreInside (length_of h) inside span.element.bytes.now (k - 1)

-- the octets that may still hold headers which nothing has read: the contents of definite lengths
abbrev pub open_octets : Length → List ℕ → ℕ
open_octets (Definite n) w = length w
open_octets Indefinite w = 0

abbrev pub span_octets : List Span → ℕ
span_octets [] = 0
span_octets (s ∷ ss) = open_octets (length_of s.element.header) s.element.bytes.now + span_octets ss

-- the same of a content of this length, and of the spans inside it
abbrev pub content_octets_left : Length → List ℕ → List Span → ℕ
content_octets_left l w ss = open_octets l w + span_octets ss
