-- An element of one class, constructed bit and number, a refusal, and an input that is cut short: one of them holds at most, and each in one way.
use Rattle.std.proofs.Common.{◌≡◌, ℕ, Bool, true, false, List, ◌++◌, length, Bor, refl, sym, ap, ◌∙◌, inl, inr}
use Rattle.der_base.specs.declared.any.Any.{Any}
use Rattle.der_base.specs.declared.header.Class.{Class}
use Rattle.der_base.specs.declared.rules.Rules.{Rules}
use Rattle.der_base.specs.declared.rules.Rules.TheVariants.{Ber, Der}
use Rattle.der_base.specs.Header.{class_of, is_constructed, number_of}
use Rattle.der_base.specs.Refusal.{Refusal}
use Rattle.der_base.specs.Spelling.{framing_budget}
use Rattle.der_base.proofs.Answers.Exactness.{ShowsOne}
use Rattle.der_base.proofs.Framing.AnyLaws.{any_shows_one, der_any_shows_one}
use Rattle.der_base.proofs.Framing.UniqueSpelling.{begins_same}
use Rattle.der_base.proofs.Headers.DerHeaders.{der_header_same}
use Rattle.der_base.proofs.Octets.Identifiers.{fronts_same}
use Rattle.der_cursor.specs.Elements.{SpellsElement, leading, NoElement, ElementLacks, ElementRefuses, ReadsAnyBy, IsOther, other_class, other_number, other_form}

pub apart : false ≡ true → ⊥
apart e = cc

-- an input begins with one element
pub element_same : (r : Rules) (i : List ℕ) (c k : Class) (p q : Bool) (t n : ℕ) (v u : List ℕ × List ℕ) → SpellsElement r c p t i v → SpellsElement r k q n i u
    → (c ≡ k) × (p ≡ q) × (t ≡ n) × (v ≡ u)
element_same Ber i c k p q t n v u a b =
    let z = begins_same i framing_budget framing_budget c k p q t n v.0 u.0 v.1 u.1 a b in
    (z.0, z.1, z.2, ap (λ x. (x, v.1)) z.3 ∙ ap (λ y. (u.0, y)) z.4)
element_same Der i c k p q t n v u a b =
    let s = der_header_same i (v.0 ++ v.1) (u.0 ++ u.1) c k p q t n (length v.0) (length u.0) a b in
    let f = fronts_same v.0 u.0 v.1 u.1 s.length s.rest in
    (s.class, s.constructed, s.number, ap (λ x. (x, v.1)) f.0 ∙ ap (λ y. (u.0, y)) f.1)

-- one thing is told of another element
other_same : (c k : Class) (p q : Bool) (t n : ℕ) (e e' : Refusal) → IsOther c p t k q n e → IsOther c p t k q n e' → e ≡ e'
other_same c k p q t n e e' (other_class a) (other_class b) = refl
other_same c k p q t n e e' (other_class a) (other_number b y) = absurd (a b)
other_same c k p q t n e e' (other_class a) (other_form b y z) = absurd (a b)
other_same c k p q t n e e' (other_number a x) (other_class b) = absurd (b a)
other_same c k p q t n e e' (other_number a x) (other_number b y) = refl
other_same c k p q t n e e' (other_number a x) (other_form b y z) = absurd (x y)
other_same c k p q t n e e' (other_form a x w) (other_class b) = absurd (b a)
other_same c k p q t n e e' (other_form a x w) (other_number b y) = absurd (y x)
other_same c k p q t n e e' (other_form a x w) (other_form b y z) = refl

-- and nothing of the one that is asked for
not_other : (c k : Class) (p q : Bool) (t n : ℕ) (e : Refusal) → c ≡ k → p ≡ q → t ≡ n → IsOther c p t k q n e → ⊥
not_other c k p q t n e x y z (other_class a) = a (sym x)
not_other c k p q t n e x y z (other_number a b) = b (sym z)
not_other c k p q t n e x y z (other_form a b d) = d (sym y)

-- by the rules
pub no_element_same : (r : Rules) (i : List ℕ) (e e' : Refusal) → NoElement r i e → NoElement r i e' → e ≡ e'
no_element_same Ber i e e' a b = (any_shows_one i).one_refusal e e' a b
no_element_same Der i e e' a b = (der_any_shows_one i).one_refusal e e' a b

pub no_element_not : (r : Rules) (i : List ℕ) (c : Class) (p : Bool) (t : ℕ) (v : List ℕ × List ℕ) (e : Refusal) → SpellsElement r c p t i v → NoElement r i e → ⊥
no_element_not Ber i c p t v e s a = (any_shows_one i).not_refused (leading c p t v) e s a
no_element_not Der i c p t v e s a = (der_any_shows_one i).not_refused (leading c p t v) e s a

pub not_lacking : (r : Rules) (i : List ℕ) (c : Class) (p : Bool) (t : ℕ) (v : List ℕ × List ℕ) (n : ℕ) → SpellsElement r c p t i v → ElementLacks r i n → ⊥
not_lacking Ber i c p t v n s l = (any_shows_one i).not_lacking (leading c p t v) n s l
not_lacking Der i c p t v n s l = (der_any_shows_one i).not_lacking (leading c p t v) n s l

pub one_lack : (r : Rules) (i : List ℕ) (n n' : ℕ) → ElementLacks r i n → ElementLacks r i n' → n ≡ n'
one_lack Ber i = (any_shows_one i).one_lack
one_lack Der i = (der_any_shows_one i).one_lack

pub no_element_no_lack : (r : Rules) (i : List ℕ) (e : Refusal) (n : ℕ) → NoElement r i e → ElementLacks r i n → ⊥
no_element_no_lack Ber i = (any_shows_one i).not_both
no_element_no_lack Der i = (der_any_shows_one i).not_both

module _ (r : Rules) (c : Class) (p : Bool) (t : ℕ) (i : List ℕ) where
  refusal_same : (e e' : Refusal) → ElementRefuses r c p t i e → ElementRefuses r c p t i e' → e ≡ e'
  refusal_same e e' (inl a) (inl b) = no_element_same r i e e' a b
  refusal_same e e' (inl a) (inr (k, q, n, v, s, o)) = absurd (no_element_not r i k q n v e s a)
  refusal_same e e' (inr (k, q, n, v, s, o)) (inl b) = absurd (no_element_not r i k q n v e' s b)
  refusal_same e e' (inr (k, q, n, v, s, o)) (inr (k', q', n', v', s', o')) =
      let z = element_same r i k k' q q' n n' v v' s s' in
      other_same c k p q t n e e' o (rw (z.0, z.1, z.2) o')

  not_refused : (v : List ℕ × List ℕ) (e : Refusal) → SpellsElement r c p t i v → ElementRefuses r c p t i e → ⊥
  not_refused v e s (inl a) = no_element_not r i c p t v e s a
  not_refused v e s (inr (k, q, n, u, s', o)) =
      let z = element_same r i c k p q t n v u s s' in
      not_other c k p q t n e z.0 z.1 z.2 o

  not_both : (e : Refusal) (n : ℕ) → ElementRefuses r c p t i e → ElementLacks r i n → ⊥
  not_both e n (inl a) l = no_element_no_lack r i e n a l
  not_both e n (inr (k, q, m, v, s, o)) l = not_lacking r i k q m v n s l

  pub element_shows_one : {T : Type 0} (view : T → List ℕ × List ℕ) → ShowsOne view (λ x. SpellsElement r c p t i (view x)) (SpellsElement r c p t i) (ElementRefuses r c p t i) (ElementLacks r i)
  element_shows_one view = record {
    spelled = λ x h. h;
    one_value = λ x v h s. (element_same r i c c p p t t (view x) v h s).3;
    one_refusal = refusal_same;
    one_lack = one_lack r i;
    not_refused = not_refused;
    not_lacking = λ v n s l. not_lacking r i c p t v n s l;
    not_both = not_both;
  }

  -- an element that was read is told as another
  pub refused_as : (x : Bor (List ℕ) × Any) (e : Refusal) → ReadsAnyBy r i x → IsOther c p t (class_of x.1.header) (is_constructed x.1.header) (number_of x.1.header) e
      → ElementRefuses r c p t i e
  refused_as x e h o = inr (class_of x.1.header, is_constructed x.1.header, number_of x.1.header, (x.1.bytes.now, x.0.now), h.0, o)
