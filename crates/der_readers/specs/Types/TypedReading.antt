-- What the readers of a content return, of which the header or its parts are given, and what the readers of one tag
-- number return, of an element of any class. By BER or by DER: the rules are given.
use Rattle.std.specs.Borrow.{Bor}
use Rattle.std.specs.Prelude.{◌≡◌, ◌≢◌, ℕ, ◌+◌, ◌-◌, ◌<◌, ◌≤◌, ◌⊎◌, Bool, true, false, None, Some, IsTrue}
use Rattle.std.specs.Prelude.{List, [], length, min, Result}
use Rattle.der_base.specs.declared.any.Any.{Any}
use Rattle.der_base.specs.declared.error.DerConstraint.TheVariants.{IndefiniteLength}
use Rattle.der_base.specs.declared.error.Err.{Err as Refused}
use Rattle.der_base.specs.declared.error.Error.{Error as BerError}
use Rattle.der_base.specs.declared.header.Class.{Class}
use Rattle.der_base.specs.declared.header.Class.TheVariants.{Universal}
use Rattle.der_base.specs.declared.header.Header.{Header}
use Rattle.der_base.specs.declared.header.Length.{Length}
use Rattle.der_base.specs.declared.header.Length.TheVariants.{Definite, Indefinite}
use Rattle.der_base.specs.declared.rules.Rules.{Rules}
use Rattle.der_base.specs.declared.rules.Rules.TheVariants.{Ber, Der}
use Rattle.der_base.specs.Content.{BeginsWithContent, InsideLacks}
use Rattle.der_base.specs.Exactly.{AnswersExactly}
use Rattle.der_base.specs.Fault.{BerHeaderRefuses, DerHeaderRefuses, InsideRefuses}
use Rattle.der_base.specs.Header.{class_of, is_constructed, number_of, length_of, IsHeader}
use Rattle.der_base.specs.Headers.{ReadsHeader, ReadsDerHeader, BerHeaderLacks, DerHeaderLacks}
use Rattle.der_base.specs.Leaf.{is_list}
use Rattle.der_base.specs.Refusal.{Refusal, construct_expected, der_constraint, invalid_length, max_depth}
use Rattle.der_base.specs.Refusal.{unexpected_tag}
use Rattle.der_base.specs.Rules.{SpellsHeaderBy}
use Rattle.der_base.specs.Spelling.{Forms, IsContent, IsOpenContent, framing_budget, max_object_size}
use Rattle.der_base.specs.Tree.{Node, node, Content}
use Rattle.der_object.specs.declared.object.BerObject.{BerObject}
use Rattle.der_object.specs.declared.object.BerObjectContent.{BerObjectContent}
use Rattle.der_object.specs.declared.object.BerObjectContent.TheVariants.{Unknown}
use Rattle.der_object.specs.HeaderFacts.{inner_forms, EachInside, KeepsHeader, HasRawTagAndHeader, HasDerHeader}
use Rattle.der_object.specs.Readings.{Answer, value_of, ContentAnswer, content_value_of}
use Rattle.der_object.specs.View.{tree, content_tree}
use Rattle.der_readers.specs.Ber.BerReading.{ContentRefuses as BerContentRefuses}
use Rattle.der_readers.specs.Der.DerReading.{ContentRefuses as DerContentRefuses}
use Rattle.der_values.specs.Contents.{IsDerContentOf}

-- content octets

-- a definite length is one that an object may have; an indefinite one is of a constructed element, by BER (8.1.3.2)
abbrev pub LengthPasses : Rules → Length → Bool → Type 0
LengthPasses rules (Definite n) p = n ≤ max_object_size
LengthPasses rules Indefinite p = (rules ≡ Ber) × (p ≡ true)

-- the tests of length and depth pass, i begins with the content octets w, and rest follows; indefinite lengths are
-- nested below the depth and below 50
pub record FramesContent (rules : Rules) (l : Length) (p : Bool) (d : ℕ) (i w rest : List ℕ) : Type 0 where
  pub deep : 1 ≤ d
  pub passes : LengthPasses rules l p
  pub begins : BeginsWithContent i l (min d framing_budget) w rest

-- a test of length or depth, or the framing of an indefinite length, shows the refusal
abbrev pub FrameRefuses : Rules → Length → Bool → ℕ → List ℕ → Refusal → Type 0
FrameRefuses rules (Definite n) p d i e = ((max_object_size < n) × (e ≡ invalid_length))
    ⊎ ((n ≤ max_object_size) × (n ≤ length i) × (d ≡ 0) × (e ≡ max_depth))
FrameRefuses Ber Indefinite p d i e = ((d ≡ 0) × (e ≡ max_depth))
    ⊎ ((1 ≤ d) × (p ≡ false) × (e ≡ construct_expected))
    ⊎ ((1 ≤ d) × (p ≡ true) × InsideRefuses i (min d framing_budget) e)
FrameRefuses Der Indefinite p d i e = e ≡ der_constraint IndefiniteLength

-- i ends within the content octets. n is the whole definite length for class Universal, and what is missing of it for
-- others, or what the elements of an indefinite length lack.
abbrev pub FrameLacks : Rules → Class → Length → Bool → ℕ → List ℕ → ℕ → Type 0
FrameLacks rules c (Definite m) p d i n = (m ≤ max_object_size) × (length i < m) × (c ≡ Universal → n ≡ m)
    × (c ≢ Universal → length i + n ≡ m)
FrameLacks rules c Indefinite p d i n = (rules ≡ Ber) × (1 ≤ d) × (p ≡ true) × InsideLacks i (min d framing_budget) n

-- contents, after a header of this class, number, length and constructed bit

-- the octets w are the content; by BER the headers inside have the lengths fs
abbrev pub IsContentBy : Rules → Class → ℕ → Length → Bool → ℕ → List ℕ → Content → Forms → Type 0
IsContentBy Ber c t (Definite n) p d w x fs = IsContent w c p t x fs d framing_budget
IsContentBy Ber c t Indefinite p d w x fs = IsOpenContent w c t x fs d (min d framing_budget - 1)
IsContentBy Der c t l p d w x fs = IsDerContentOf w c p t x d

-- the header of an item has the identifier octets that are there, and the length
abbrev pub HasHeaderBy : Rules → Header → BerObjectContent → Type 0
HasHeaderBy Ber = HasRawTagAndHeader
HasHeaderBy Der = HasDerHeader

-- the octets w show the refusal
abbrev pub ContentRefusesBy : Rules → Class → Bool → ℕ → List ℕ → ℕ → Refusal → Type 0
ContentRefusesBy Ber = BerContentRefuses
ContentRefusesBy Der = DerContentRefuses

-- i begins with the octets of the content, and rest follows
pub record ReadsContent (rules : Rules) (c : Class) (t : ℕ) (l : Length) (p : Bool) (d : ℕ) (i : List ℕ)
    (x : BerObjectContent) (rest : List ℕ) : Type 0 where
  pub octets : List ℕ
  pub framed : FramesContent rules l p d i octets rest
  pub content : IsContentBy rules c t l p d octets (content_tree x) (inner_forms x)
  pub headers : EachInside (HasHeaderBy rules) x

-- the same, of a content of which there is no object yet
abbrev pub SpellsContent : Rules → Class → ℕ → Length → Bool → ℕ → List ℕ → Content × List ℕ → Type 0
SpellsContent rules c t l p d i (x, rest) = (w : List ℕ) × (fs : Forms) × FramesContent rules l p d i w rest
    × IsContentBy rules c t l p d w x fs

-- the octets show the refusal, in a test, in framing or in the content
abbrev pub ReadingRefuses : Rules → Class → ℕ → Length → Bool → ℕ → List ℕ → Refusal → Type 0
ReadingRefuses rules c t l p d i e = FrameRefuses rules l p d i e
    ⊎ ((w rest : List ℕ) × FramesContent rules l p d i w rest × ContentRefusesBy rules c p t w d e)

-- the octets are elements up to an end marker, by BER
abbrev pub FramingNeedsMemory : Rules → Length → Bool → ℕ → Type 0
FramingNeedsMemory rules l p d = (rules ≡ Ber) × (1 ≤ d) × (p ≡ true) × (l ≡ Indefinite)

-- or a list that has items
abbrev pub ReadingNeedsMemory : Rules → Class → ℕ → Length → Bool → ℕ → List ℕ → Type 0
ReadingNeedsMemory rules c t l p d i = ((2 ≤ d) × (c ≡ Universal) × IsTrue (is_list t) × (p ≡ true)
    × (w rest : List ℕ) × (w ≢ []) × FramesContent rules l p d i w rest)
    ⊎ FramingNeedsMemory rules l p d

-- contents of the universal type of number t, whose header the reader makes

-- an unknown content has a header of class Universal with these parts
abbrev pub HasOwnHeader : ℕ → Length → Bool → BerObjectContent → Type 0
HasOwnHeader t l p (Unknown a) = IsHeader a.header Universal p t l None
HasOwnHeader t l p _ = Unit {0}

pub record ReadsContentAs (rules : Rules) (t : ℕ) (l : Length) (p : Bool) (d : ℕ) (i : List ℕ) (x : BerObjectContent)
    (rest : List ℕ) : Type 0 where
  pub read : ReadsContent rules Universal t l p d i x rest
  pub own : HasOwnHeader t l p x

-- a reader of contents returns exactly what i shows, after a length of this form
abbrev pub AnswersContentAs : Rules → ℕ → Length → Bool → ℕ → List ℕ → ContentAnswer → Type 0
AnswersContentAs rules t l p d i result = AnswersExactly result content_value_of
    (λ x. ReadsContentAs rules t l p d i x.1 x.0.now) (SpellsContent rules Universal t l p d i)
    (ReadingRefuses rules Universal t l p d i) (FrameLacks rules Universal l p d i)
    (ReadingNeedsMemory rules Universal t l p d i) (FramingNeedsMemory rules l p d)

-- contents of objects whose header h is given

pub record ReadsContentOf (rules : Rules) (h : Header) (d : ℕ) (i : List ℕ) (o : BerObject) (rest : List ℕ)
    : Type 0 where
  pub header : o.header ≡ h
  pub read : ReadsContent rules (class_of h) (number_of h) (length_of h) (is_constructed h) d i o.content rest
  pub kept : KeepsHeader h o.content

-- the content of an object that was read, and what is left of the input
abbrev pub inner_value_of : Bor (List ℕ) × BerObject → Content × List ℕ
inner_value_of x = (content_tree x.1.content, x.0.now)

-- a reader of the object returns exactly what i shows after the header
abbrev pub AnswersContentOf : Rules → Header → ℕ → List ℕ → Answer → Type 0
AnswersContentOf rules h d i result = AnswersExactly result inner_value_of
    (λ x. ReadsContentOf rules h d i x.1 x.0.now)
    (SpellsContent rules (class_of h) (number_of h) (length_of h) (is_constructed h) d i)
    (ReadingRefuses rules (class_of h) (number_of h) (length_of h) (is_constructed h) d i)
    (FrameLacks rules (class_of h) (length_of h) (is_constructed h) d i)
    (ReadingNeedsMemory rules (class_of h) (number_of h) (length_of h) (is_constructed h) d i)
    (FramingNeedsMemory rules (length_of h) (is_constructed h) d)

-- elements that were read before, whose octets are a content as a whole, by BER

-- the length that the octets of the element have, whatever its header says
abbrev pub length_of_octets : Any → Length
length_of_octets a = Definite (length a.bytes.now)

-- the octets of the element are the content of the object, as that of the universal type of its number, and its header
-- is the object's
pub record ReadsObjectOf (a : Any) (o : BerObject) : Type 0 where
  pub header : o.header ≡ a.header
  pub content : ReadsContentAs Ber (number_of a.header) (length_of_octets a) (is_constructed a.header) 50
      a.bytes.now o.content []

-- the tree has the header's class, bit and number, and the octets of the element spell its content
abbrev pub SpellsObjectOf : Any → Node → Type 0
SpellsObjectOf a (node c p t x) = (c ≡ class_of a.header) × (p ≡ is_constructed a.header) × (t ≡ number_of a.header)
    × SpellsContent Ber Universal (number_of a.header) (length_of_octets a) (is_constructed a.header) 50 a.bytes.now
    (x, [])

abbrev pub ObjectOfRefuses : Any → Refusal → Type 0
ObjectOfRefuses a = ReadingRefuses Ber Universal (number_of a.header) (length_of_octets a) (is_constructed a.header) 50
    a.bytes.now

abbrev pub ObjectOfNeedsMemory : Any → Type 0
ObjectOfNeedsMemory a = ReadingNeedsMemory Ber Universal (number_of a.header) (length_of_octets a)
    (is_constructed a.header) 50 a.bytes.now

-- the reader of such an element returns exactly what its octets show; they never lack any
abbrev pub AnswersObjectOf : Any → Result BerObject (Refused BerError) → Type 0
AnswersObjectOf a result = AnswersExactly result tree (ReadsObjectOf a) (SpellsObjectOf a) (ObjectOfRefuses a) (λ _. ⊥)
    (ObjectOfNeedsMemory a) ⊥

-- headers

-- i begins with a header of these parts, and rest follows
abbrev pub BeginsWithHeaderBy : Rules → List ℕ → Class → Bool → ℕ → Length → List ℕ → Type 0
BeginsWithHeaderBy rules i c p t l rest =
    SpellsHeaderBy rules i (record { class = c; constructed = p; number = t; length = l; rest = rest })

-- i begins with the header h, and rest follows
abbrev pub ReadsHeaderBy : Rules → List ℕ → Header → List ℕ → Type 0
ReadsHeaderBy Ber = ReadsHeader
ReadsHeaderBy Der = ReadsDerHeader

abbrev pub HeaderRefusesBy : Rules → List ℕ → Refusal → Type 0
HeaderRefusesBy Ber = BerHeaderRefuses
HeaderRefusesBy Der = DerHeaderRefuses

abbrev pub HeaderLacksBy : Rules → List ℕ → ℕ → Type 0
HeaderLacksBy Ber = BerHeaderLacks
HeaderLacksBy Der = DerHeaderLacks

-- i begins with a header of the number t, and what follows it is so, by the length and the constructed bit
abbrev pub BehindHeaderBy : Rules → ℕ → List ℕ → (Length → Bool → List ℕ → Type 0) → Type 0
BehindHeaderBy rules t i P = (c : Class) × (p : Bool) × (l : Length) × (behind : List ℕ)
    × BeginsWithHeaderBy rules i c p t l behind × P l p behind

-- the header is refused, or has another number
abbrev pub HeaderOfRefuses : Rules → ℕ → List ℕ → Refusal → Type 0
HeaderOfRefuses rules t i e = HeaderRefusesBy rules i e
    ⊎ ((c : Class) × (p : Bool) × (n : ℕ) × (l : Length) × (behind : List ℕ)
    × BeginsWithHeaderBy rules i c p n l behind × (n ≢ t) × (e ≡ unexpected_tag (Some t) n))

-- objects

-- i begins with a header of this number, and with octets of such a content, and rest follows
pub record ReadsTyped (rules : Rules) (t : ℕ) (i : List ℕ) (o : BerObject) (rest : List ℕ) : Type 0 where
  pub behind : List ℕ
  pub header : ReadsHeaderBy rules i o.header behind
  pub number : number_of o.header ≡ t
  pub content : ReadsContentAs rules t (length_of o.header) (is_constructed o.header) 50 behind o.content rest

-- i begins with an element of the number t that has this tree, and rest follows
abbrev pub SpellsTyped : Rules → ℕ → List ℕ → Node × List ℕ → Type 0
SpellsTyped rules t i (node c p n x, rest) = (n ≡ t) × (l : Length) × (behind : List ℕ)
    × BeginsWithHeaderBy rules i c p t l behind × SpellsContent rules Universal t l p 50 behind (x, rest)

-- the header is refused, or the content
abbrev pub TypedRefuses : Rules → ℕ → List ℕ → Refusal → Type 0
TypedRefuses rules t i e = HeaderOfRefuses rules t i e
    ⊎ BehindHeaderBy rules t i (λ l p v. ReadingRefuses rules Universal t l p 50 v e)

-- i ends within the header, or within the content octets after one of this number
abbrev pub TypedLacks : Rules → ℕ → List ℕ → ℕ → Type 0
TypedLacks rules t i n = HeaderLacksBy rules i n
    ⊎ BehindHeaderBy rules t i (λ l p v. FrameLacks rules Universal l p 50 v n)

abbrev pub TypedNeedsMemory : Rules → ℕ → List ℕ → Type 0
TypedNeedsMemory rules t i = BehindHeaderBy rules t i (λ l p v. ReadingNeedsMemory rules Universal t l p 50 v)

-- A reader of the type of number t returns exactly what i shows. It may run out of memory only where M holds, and C of
-- a cut input.
abbrev pub AnswersTypedOr : Type 0 → Type 0 → Rules → ℕ → List ℕ → Answer → Type 0
AnswersTypedOr M C rules t i result = AnswersExactly result value_of (λ x. ReadsTyped rules t i x.1 x.0.now)
    (SpellsTyped rules t i) (TypedRefuses rules t i) (TypedLacks rules t i) M C

-- the same of a reader that may run out of it for a list that has items, and by BER for an indefinite length
abbrev pub AnswersTyped : Rules → ℕ → List ℕ → Answer → Type 0
AnswersTyped rules t i = AnswersTypedOr (TypedNeedsMemory rules t i)
    (BehindHeaderBy rules t i (λ l p v. FramingNeedsMemory rules l p 50)) rules t i

-- the same of a reader that takes no memory
abbrev pub AnswersLeaf : Rules → ℕ → List ℕ → Answer → Type 0
AnswersLeaf rules t i = AnswersTypedOr ⊥ ⊥ rules t i
