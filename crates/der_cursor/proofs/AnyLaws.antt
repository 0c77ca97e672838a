-- Any element is read, a refusal is shown, or the input is cut short: one of them holds at most, and each in one way.
use Rattle.std.proofs.Common.{◌≡◌, ℕ, Bool, List, ◌∷◌, ◌++◌, length, Option, Some, Ok, Err, refl, sym, ap, ◌∙◌, append_assoc, inl, inr}
use Rattle.der_base.specs.declared.header.Class.{Class}
use Rattle.der_base.specs.declared.header.Length.{Length}
use Rattle.der_base.specs.declared.header.Length.TheVariants.{Definite, Indefinite}
use Rattle.der_base.specs.declared.rules.Rules.{Rules}
use Rattle.der_base.specs.declared.rules.Rules.TheVariants.{Ber, Der}
use Rattle.der_base.specs.Answer.{MatchAnswer}
use Rattle.der_base.specs.Any.{AnyAnswer, AnyLacks, AnyRefuses, DerAnyLacks, LeadingElement, ReadsAny, ReadsDerAny}
use Rattle.der_base.specs.Fault.{DerHeaderRefuses}
use Rattle.der_base.specs.Octets.{identifier}
use Rattle.der_base.specs.Spelling.{end_marker}
use Rattle.der_base.proofs.Answers.Answering.{passed_on}
use Rattle.der_base.proofs.Answers.Exactness.{ShowsOne}
use Rattle.der_base.proofs.Headers.BerHeaders.{ber_header_same}
use Rattle.der_cursor.specs.Elements.{Element, ElementLacks, HasHeader, HasLength, NoElement, ReadsAnyBy, SpellsAny, SpellsElement, SpellsLeading}
use Rattle.der_cursor.proofs.ElementLaws.{element_same, no_element_same, no_element_not, not_lacking, one_lack, no_element_no_lack}

leading_same : (r : Rules) (i : List ℕ) (x v : LeadingElement) → SpellsLeading r i x → SpellsLeading r i v → x ≡ v
leading_same r i x v a b =
    let z = element_same r i x.class v.class x.constructed v.constructed x.number v.number (x.content, x.rest) (v.content, v.rest) a b in
    let e : x.content ≡ v.content = ap (λ y. y.0) z.3 in
    let f : x.rest ≡ v.rest = ap (λ y. y.1) z.3 in
    rw (z.0, z.1, z.2, e, f) refl

pub any_shows_one : (r : Rules) (i : List ℕ) {T : Type 0} (view : T → LeadingElement) → ShowsOne view (λ x. SpellsLeading r i (view x)) (SpellsLeading r i) (NoElement r i) (ElementLacks r i)
any_shows_one r i view = record {
  spelled = λ x h. h;
  one_value = λ x v h s. leading_same r i (view x) v h s;
  one_refusal = no_element_same r i;
  one_lack = one_lack r i;
  not_refused = λ v e s a. no_element_not r i v.class v.constructed v.number (v.content, v.rest) e s a;
  not_lacking = λ v n s l. not_lacking r i v.class v.constructed v.number (v.content, v.rest) n s l;
  not_both = no_element_no_lack r i;
}

-- an element that was read by BER and by DER
pub ber_read : (i : List ℕ) (r : AnyAnswer) → MatchAnswer r (λ x. ReadsAny i x.1 x.0.now) (AnyRefuses i) (AnyLacks i) ⊥ → MatchAnswer r (ReadsAnyBy Ber i) (NoElement Ber i) (ElementLacks Ber i) ⊥
ber_read i (Ok x) h = (h.element, ((h.behind, h.header.begins), h.header.raw_tag))
ber_read i (Err e) h = passed_on _ _ e h (λ x a. a) (λ n a. a) (λ m. m)

pub der_read : (i : List ℕ) (r : AnyAnswer) → MatchAnswer r (λ x. ReadsDerAny i x.1 x.0.now) (DerHeaderRefuses i) (DerAnyLacks i) ⊥ → MatchAnswer r (ReadsAnyBy Der i) (NoElement Der i) (ElementLacks Der i) ⊥
der_read i (Ok x) h = (h.begins, (h.length, h.raw_tag))
der_read i (Err e) h = passed_on _ _ e h (λ x a. a) (λ n a. a) (λ m. m)

-- Headers. The parts of an element tell its header.
parts_same : (c k : Class) (p q : Bool) (t n : ℕ) (w u : List ℕ) (l m : Length) (x y : Option (List ℕ)) → c ≡ k → p ≡ q → t ≡ n → w ≡ u → l ≡ m → x ≡ y → ◌≡◌ {A = Element} (c, p, t, w, l, x) (k, q, n, u, m, y)
parts_same c k p q t n w u l m x y a b d e f g = rw (a, b, d, e, f, g) refl

identifier_told : (c k : Class) (p q : Bool) (t n : ℕ) → c ≡ k → p ≡ q → t ≡ n → Some (identifier c p t) ≡ Some (identifier k q n)
identifier_told c k p q t n a b d = rw (a, b, d) refl

length_told : (r : Rules) (i : List ℕ) (e v : Element) → e.3 ≡ v.3 → HasLength r i e → HasLength r i v → e.4 ≡ v.4
length_told Ber i e v q a b = (ber_header_same i a.0 b.0 e.0 v.0 e.1 v.1 e.2 v.2 e.4 v.4 a.1 b.1).length
length_told Der i e v q a b = a ∙ ap (λ w. Definite (length w)) q ∙ sym b

pub header_told : (r : Rules) (i : List ℕ) (e v : Element) → e.0 ≡ v.0 → e.1 ≡ v.1 → e.2 ≡ v.2 → e.3 ≡ v.3 → HasHeader r i e → HasHeader r i v → e ≡ v
header_told r i e v a b d q h g =
    parts_same e.0 v.0 e.1 v.1 e.2 v.2 e.3 v.3 e.4 v.4 e.5 v.5 a b d q (length_told r i e v q h.0 g.0) (h.1 ∙ identifier_told e.0 v.0 e.1 v.1 e.2 v.2 a b d ∙ sym g.1)

-- an element has a header
pub spelled_any : (r : Rules) (c : Class) (p : Bool) (t : ℕ) (i : List ℕ) (v : List ℕ × List ℕ) → SpellsElement r c p t i v → (l : Length) × SpellsAny r i (c, p, t, v.0, l, Some (identifier c p t)) v.1
spelled_any Der c p t i v s = (Definite (length v.0), (s, (refl, refl)))
spelled_any Ber c p t i v (ht, hk, inl (s, hs, d)) = (
  Definite (length v.0),
  (
    (ht, hk, inl (s, hs, d)),
    (
      (
        v.0 ++ v.1,
        record {
          following = s ++ (v.0 ++ v.1);
          octets = d ∙ append_assoc (identifier c p t ++ s) v.0 v.1 ∙ append_assoc (identifier c p t) s (v.0 ++ v.1);
          number = ht;
          length = (s, hs, refl);
        },
      ),
      refl,
    ),
  ),
)
spelled_any Ber c p t i v (ht, hk, inr (ep, h2, hw, d)) = (
  Indefinite,
  (
    (ht, hk, inr (ep, h2, hw, d)),
    (
      (
        v.0 ++ (end_marker ++ v.1),
        record {
          following = 128 ∷ v.0 ++ (end_marker ++ v.1);
          octets = d ∙ append_assoc (identifier c p t ++ 128 ∷ v.0) end_marker v.1 ∙ append_assoc (identifier c p t) (128 ∷ v.0) (end_marker ++ v.1);
          number = ht;
          length = (ep, refl);
        },
      ),
      refl,
    ),
  ),
)
