-- An element or a content that begins the input, a refusal, and an input that is cut short: one of them holds at most, and each in one way.
use Rattle.std.proofs.Common.{◌≡◌, ℕ, Bool, List, ◌++◌, length, refl, ap, arith, length-append, inl, inr}
use Rattle.der_base.specs.declared.header.Class.{Class}
use Rattle.der_base.specs.declared.header.Length.{Length}
use Rattle.der_base.specs.Any.{ReadsAny, AnyRefuses, AnyLacks, SpellsAny, ReadsDerAny, DerAnyLacks, SpellsDerAny, leading_element, leading_content}
use Rattle.der_base.specs.Content.{BeginsWithContent, ContentRefuses, ContentLacks}
use Rattle.der_base.specs.Fault.{DerHeaderRefuses}
use Rattle.der_base.specs.Header.{class_of, is_constructed, number_of}
use Rattle.der_base.specs.Headers.{BeginsWithDerHeader}
use Rattle.der_base.specs.Refusal.{Refusal}
use Rattle.der_base.specs.Spelling.{framing_budget}
use Rattle.der_base.proofs.Answers.Exactness.{ShowsOne}
use Rattle.der_base.proofs.Framing.ContentLaws.{content_same, content_not_refused, content_not_lacking, content_refusal_same, content_refused_not_lacking, content_lacks_same}
use Rattle.der_base.proofs.Framing.Cuts.{lacks_same}
use Rattle.der_base.proofs.Framing.FramingLaws.{begins_not_refused, begins_not_cut, any_refusal_same}
use Rattle.der_base.proofs.Framing.UniqueSpelling.{begins_same}
use Rattle.der_base.proofs.Headers.DerHeaders.{der_header_same, der_header_not_refused, der_header_not_lacking, der_header_refusal_same}
use Rattle.der_base.proofs.Headers.HeaderLaws.{header_lacks_same}
use Rattle.der_base.proofs.Octets.Identifiers.{fronts_same}

-- by DER
der_any_not_lacking : (i w rest : List ℕ) (c : Class) (p : Bool) (t n : ℕ) → BeginsWithDerHeader i c p t (length w) (w ++ rest) → DerAnyLacks i n → ⊥
der_any_not_lacking i w rest c p t n b (inl l) = der_header_not_lacking i (w ++ rest) c p t (length w) n b l.1
der_any_not_lacking i w rest c p t n b (inr (c', p', t', m, r, b', some, e)) =
    let s = der_header_same i (w ++ rest) r c c' p p' t t' (length w) m b b' in
    omega (arith, some, e, s.length, ap length s.rest, length-append w rest)

der_lacking_not_refused : (i : List ℕ) (n : ℕ) (e : Refusal) → DerAnyLacks i n → DerHeaderRefuses i e → ⊥
der_lacking_not_refused i n e (inl l) r = l.2 e r
der_lacking_not_refused i n e (inr (c, p, t, m, rest, b, some, q)) r = der_header_not_refused i rest c p t m e b r

der_any_lacks_same : (i : List ℕ) (n n' : ℕ) → DerAnyLacks i n → DerAnyLacks i n' → n ≡ n'
der_any_lacks_same i n n' (inl l) (inl l') = header_lacks_same i n n' l.1 l'.1
der_any_lacks_same i n n' (inl l) (inr (c, p, t, m, rest, b, some, q)) = absurd (der_header_not_lacking i rest c p t m n b l.1)
der_any_lacks_same i n n' (inr (c, p, t, m, rest, b, some, q)) (inl l) = absurd (der_header_not_lacking i rest c p t m n' b l.1)
der_any_lacks_same i n n' (inr (c, p, t, m, rest, b, some, q)) (inr (c', p', t', m', rest', b', some', q')) =
    let s = der_header_same i rest rest' c c' p p' t t' m m' b b' in
    omega (arith, q, q', s.length, ap length s.rest)

pub der_any_shows_one : (i : List ℕ) → ShowsOne leading_element (λ x. ReadsDerAny i x.1 x.0.now) (SpellsDerAny i) (DerHeaderRefuses i) (DerAnyLacks i)
der_any_shows_one i = record {
  spelled = λ x r. r.begins;
  one_value =
      λ x v r s. (let h = x.1.header in let w = x.1.bytes.now in let z = der_header_same i (w ++ x.0.now) (v.content ++ v.rest) (class_of h) v.class (is_constructed h) v.constructed
      (number_of h) v.number (length w) (length v.content) r.begins s in let y = fronts_same w v.content x.0.now v.rest z.length z.rest in rw (z.class, z.constructed, z.number, y.0, y.1) refl);
  one_refusal = λ e e' r r'. der_header_refusal_same i e e' r r';
  one_lack = λ n n' l l'. der_any_lacks_same i n n' l l';
  not_refused = λ v e s r. der_header_not_refused i (v.content ++ v.rest) v.class v.constructed v.number (length v.content) e s r;
  not_lacking = λ v n s l. der_any_not_lacking i v.content v.rest v.class v.constructed v.number n s l;
  not_both = λ e n r l. der_lacking_not_refused i n e l r;
}

-- by BER
pub any_shows_one : (i : List ℕ) → ShowsOne leading_element (λ x. ReadsAny i x.1 x.0.now) (SpellsAny i) (AnyRefuses i) (AnyLacks i)
any_shows_one i = record {
  spelled = λ x r. r.element;
  one_value =
      λ x v r s. (let h = x.1.header in let z = begins_same i framing_budget framing_budget (class_of h) v.class (is_constructed h) v.constructed
      (number_of h) v.number x.1.bytes.now v.content x.0.now v.rest r.element s in rw (z.0, z.1, z.2, z.3, z.4) refl);
  one_refusal = λ e e' r r'. any_refusal_same i e e' r r';
  one_lack = λ n n' l l'. lacks_same l.1 l'.1 refl;
  not_refused = λ v e s r. begins_not_refused i v.class v.constructed v.number v.content v.rest e s r;
  not_lacking = λ v n s l. begins_not_cut i framing_budget v.class v.constructed v.number v.content v.rest s l.0;
  not_both = λ e n r l. l.2 e r;
}

-- a content behind a header of this length
pub content_shows_one : (l : Length) (k : ℕ) (i : List ℕ) → ShowsOne leading_content (λ x. BeginsWithContent i l k x.1.now x.0.now) (λ v. BeginsWithContent i l k v.0 v.1) (ContentRefuses i l k)
    (ContentLacks i l k)
content_shows_one l k i = record {
  spelled = λ x r. r;
  one_value = λ x v r s. (let z = content_same i x.1.now v.0 x.0.now v.1 l k r s in rw (z.0, z.1) refl);
  one_refusal = λ e e' r r'. content_refusal_same i l k e e' r r';
  one_lack = λ n n' h h'. content_lacks_same i l k n n' h h';
  not_refused = λ v e s r. content_not_refused i v.0 v.1 l k e s r;
  not_lacking = λ v n s h. content_not_lacking i v.0 v.1 l k n s h;
  not_both = λ e n r h. content_refused_not_lacking i l k n e r h;
}
