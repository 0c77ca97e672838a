-- An object of one tag number, a refusal of the reader that wants it, and its end within the octets: one of them holds at most, and each in one way.
use Rattle.std.proofs.Common.{◌≡◌, ℕ, ◌^◌, ◌<◌, Bool, List, sym, ap, subst, ◌∙◌}
use Rattle.der_base.specs.declared.header.Class.{Class}
use Rattle.der_base.specs.declared.header.Class.TheVariants.{Universal}
use Rattle.der_base.specs.declared.header.Header.{Header}
use Rattle.der_base.specs.declared.header.Length.{Length}
use Rattle.der_base.specs.declared.header.Length.TheVariants.{Definite}
use Rattle.der_base.specs.declared.rules.Rules.{Rules}
use Rattle.der_base.specs.declared.rules.Rules.TheVariants.{Ber, Der}
use Rattle.der_base.specs.Answer.{MatchAnswer}
use Rattle.der_base.specs.Header.{class_of, is_constructed, number_of, length_of}
use Rattle.der_base.specs.Headers.{HeaderAnswer}
use Rattle.der_base.specs.Rules.{AnswersHeader}
use Rattle.der_base.specs.Tree.{Node, node}
use Rattle.der_base.proofs.Answers.Exactness.{ShowsOne}
use Rattle.der_base.proofs.Headers.BerHeaders.{ber_header_same, ber_header_not_refused, ber_header_not_lacking, ber_header_refusal_same}
use Rattle.der_base.proofs.Headers.DerHeaders.{der_header_same, der_header_not_refused, der_header_not_lacking, der_header_refusal_same}
use Rattle.der_base.proofs.Headers.HeaderLaws.{SameHeader, header_lacks_same}
use Rattle.der_object.specs.declared.object.BerObject.{BerObject}
use Rattle.der_object.specs.declared.object.BerObjectContent.{BerObjectContent}
use Rattle.der_object.specs.HeaderFacts.{inner_forms}
use Rattle.der_object.specs.Readings.{value_of}
use Rattle.der_object.specs.View.{tree}
use Rattle.der_object.proofs.TypedLaws.{OneHeader, shows_read}
use Rattle.der_object.proofs.TypedLaws as typed
use Rattle.der_readers.specs.Types.TypedReading.{BeginsWithHeaderBy, BehindHeaderBy, ReadsHeaderBy, HeaderRefusesBy, HeaderLacksBy, FrameLacks, FramingNeedsMemory, ReadingNeedsMemory, ReadsContentAs}
use Rattle.der_readers.specs.Types.TypedReading.{ReadsTyped, SpellsTyped, TypedRefuses, TypedLacks, TypedNeedsMemory}
use Rattle.der_readers.proofs.TypesLaws.ContentLaws.{content_one, cut_content_needs}

-- headers

der_same : (i v v' : List ℕ) (c c' : Class) (p p' : Bool) (t t' : ℕ) (l l' : Length) → BeginsWithHeaderBy Der i c p t l v → BeginsWithHeaderBy Der i c' p' t' l' v' → SameHeader c c' p p' t t' l l' v v'
der_same i v v' c c' p p' t t' l l' (n, e, b) (n', e', b') =
    let s = der_header_same i v v' c c' p p' t t' n n' b b' in
    record { class = s.class; constructed = s.constructed; number = s.number; length = e ∙ ap Definite s.length ∙ sym e'; rest = s.rest }

headers : (rules : Rules) → OneHeader (BeginsWithHeaderBy rules) (HeaderRefusesBy rules) (HeaderLacksBy rules)
headers Ber = record {
  same = ber_header_same;
  one_refusal = ber_header_refusal_same;
  one_end = λ i n n' h h'. header_lacks_same i n n' h.1 h'.1;
  not_refused = ber_header_not_refused;
  not_ended = λ i v c p t l n b h. ber_header_not_lacking i v c p t l n b h.1;
  not_both = λ i e n r h. h.2 e r;
}
headers Der = record {
  same = der_same;
  one_refusal = der_header_refusal_same;
  one_end = λ i n n' h h'. header_lacks_same i n n' h.1 h'.1;
  not_refused = λ i v c p t l e b r. der_header_not_refused i v c p t b.0 e b.2 r;
  not_ended = λ i v c p t l n b h. der_header_not_lacking i v c p t b.0 n b.2 h.1;
  not_both = λ i e n r h. h.2 e r;
}

-- what the reader of headers returns
pub header_found : (rules : Rules) (i : List ℕ) (r : HeaderAnswer) → AnswersHeader rules i r → MatchAnswer r (λ x. ReadsHeaderBy rules i x.1 x.0.now) (HeaderRefusesBy rules i) (HeaderLacksBy rules i) ⊥
header_found Ber i r a = a.found
header_found Der i r a = a.found

begins : (rules : Rules) (i v : List ℕ) (h : Header) → ReadsHeaderBy rules i h v → BeginsWithHeaderBy rules i (class_of h) (is_constructed h) (number_of h) (length_of h) v
begins Ber i v h r = r.begins
begins Der i v h r = (r.size, r.length, r.begins)

pub header_begins : (rules : Rules) (t : ℕ) (i v : List ℕ) (h : Header) → ReadsHeaderBy rules i h v → number_of h ≡ t → BeginsWithHeaderBy rules i (class_of h) (is_constructed h) t (length_of h) v
header_begins rules t i v h r e = subst (λ n. BeginsWithHeaderBy rules i (class_of h) (is_constructed h) n (length_of h) v) e (begins rules i v h r)

-- what is read

pub typed_read : (rules : Rules) (t : ℕ) (i v rest : List ℕ) (h : Header) (x : BerObjectContent) → ReadsHeaderBy rules i h v → number_of h ≡ t
    → ReadsContentAs rules t (length_of h) (is_constructed h) 50 v x rest → ReadsTyped rules t i (record { header = h; content = x }) rest
typed_read rules t i v rest h x r e k = record { behind = v; header = r; number = e; content = k }

typed_spelled : (rules : Rules) (t : ℕ) (i : List ℕ) (o : BerObject) (rest : List ℕ) → ReadsTyped rules t i o rest → SpellsTyped rules t i (tree o, rest)
typed_spelled rules t i o rest r =
    let k = r.content.read in
    (r.number, length_of o.header, r.behind, header_begins rules t i r.behind o.header r.header r.number, (k.octets, inner_forms o.content, k.framed, k.content))

-- of an object of one number, a refusal and a lack, an input shows one at most
pub typed_shows_one : (rules : Rules) (t : ℕ) (i : List ℕ) → t < 2 ^ 32
    → ShowsOne value_of (λ x. ReadsTyped rules t i x.1 x.0.now) (SpellsTyped rules t i) (TypedRefuses rules t i) (TypedLacks rules t i)
typed_shows_one rules t i fits = shows_read (typed.shows_one (headers rules) t i (λ l p v. content_one rules Universal t l p 50 v fits)) spelled (λ x r. typed_spelled rules t i x.1 x.0.now r)
  where
    spelled : (v : Node × List ℕ) → SpellsTyped rules t i v → typed.SpellsTyped (headers rules) t i (λ l p v. content_one rules Universal t l p 50 v fits) v
    spelled (node c p n x, rest) s = s

-- an input that is cut short is no whole list
pub cut_typed_needs : (rules : Rules) (t : ℕ) (i : List ℕ) (n : ℕ) → TypedLacks rules t i n → TypedNeedsMemory rules t i → BehindHeaderBy rules t i (λ l p v. FramingNeedsMemory rules l p 50)
cut_typed_needs rules t i n h m =
    typed.cut_needs (headers rules) t i (λ l p v n. FrameLacks rules Universal l p 50 v n) (λ l p v. ReadingNeedsMemory rules Universal t l p 50 v) (λ l p v. FramingNeedsMemory rules l p 50)
    (λ l p v n k m. cut_content_needs rules Universal t l p 50 v n k m) n h m
