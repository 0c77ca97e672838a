-- A reader that wants one tag number: an object of it, a refusal, and an input that is cut short exclude each other.
use Rattle.std.proofs.Common.{◌≡◌, ◌≢◌, ℕ, ◌≤◌, Bool, true, IsTrue, List, [], ◌++◌, Some, sym, ap, subst, ◌∙◌, arith, inl, inr}
use Rattle.der_base.specs.declared.header.Class.{Class}
use Rattle.der_base.specs.declared.header.Class.TheVariants.{Universal}
use Rattle.der_base.specs.declared.header.Header.{Header}
use Rattle.der_base.specs.declared.header.Length.{Length}
use Rattle.der_base.specs.declared.header.Length.TheVariants.{Definite, Indefinite}
use Rattle.der_base.specs.Any.{AnyRefuses}
use Rattle.der_base.specs.Cut.{IsCut}
use Rattle.der_base.specs.Refusal.{Refusal, unexpected_tag}
use Rattle.der_base.specs.Spelling.{BeginsWithBer, BeginsWithElement, BerSpells, framing_budget}
use Rattle.der_base.specs.Header.{class_of, is_constructed, number_of, length_of}
use Rattle.der_base.specs.Headers.{BeginsWithHeader, ReadsHeader}
use Rattle.der_base.specs.Leaf.{is_list}
use Rattle.der_base.specs.Tree.{Node, node, Content}
use Rattle.der_values.proofs.LawsLaws.Spellings.BerFaults.{spelled_begins, spelled_shows_nothing, shows_one}
use Rattle.der_base.proofs.Framing.UniqueSpelling.{begins_same}
use Rattle.der_base.proofs.Framing.FramingLaws.{begins_not_cut, begins_not_refused}
use Rattle.der_base.proofs.Answers.Exactness.{ShowsOne}
use Rattle.der_object.specs.Readings.{value_of}
use Rattle.der_base.specs.Stable.{BerIsCut}
use Rattle.der_readers.specs.Ber.BerReading.{FramingNeedsMemory, IsOther, TagNumberNeedsMemory, TagNumberRefuses, ReadsBer, number}
use Rattle.der_readers.proofs.BerLaws.ReadingLaws.{ber_shows_one}

-- an element of the number is no other
pub not_other : (n : ℕ) (i w rest : List ℕ) (c : Class) (p : Bool) (t m : ℕ) → BeginsWithElement i framing_budget c p t w rest → t ≡ n → ¬ IsOther n i m
not_other n i w rest c p t m b e (o, c', p', w', rest', b') = o (sym (begins_same i framing_budget framing_budget c c' p p' t m w w' rest rest' b b').2 ∙ e)

pub refused_not_other : (n : ℕ) (i : List ℕ) (e : Refusal) (m : ℕ) → AnyRefuses i e → ¬ IsOther n i m
refused_not_other n i e m r (o, c, p, w, rest, b) = begins_not_refused i c p m w rest e b r

cut_not_other : (n : ℕ) (i : List ℕ) (m : ℕ) → IsCut i → ¬ IsOther n i m
cut_not_other n i m k (o, c, p, w, rest, b) = begins_not_cut i framing_budget c p m w rest b k

pub spelled_not_number_refused : (n d : ℕ) (i b rest : List ℕ) (c : Class) (p : Bool) (t : ℕ) (x : Content) (e : Refusal) → t ≡ n → i ≡ b ++ rest → BerSpells b (node c p t x) d framing_budget
    → TagNumberRefuses n d i e → ⊥
spelled_not_number_refused n d i b rest c p t x e q o s (inl (deep, m, h, z)) = let g = spelled_begins i b rest c p t x d o s in not_other n i g.0 rest c p t m g.1 q h
spelled_not_number_refused n d i b rest c p t x e q o s (inr (h, r)) = spelled_shows_nothing d i b rest (node c p t x) e o s r

pub number_refusal_same : (n d : ℕ) (i : List ℕ) (e e' : Refusal) → TagNumberRefuses n d i e → TagNumberRefuses n d i e' → e ≡ e'
number_refusal_same n d i e e' (inl (deep, t, (o, c, p, w, rest, b), q)) (inl (deep', t', (o', c', p', w', rest', b'), q')) =
    q ∙ ap (unexpected_tag (Some n)) (begins_same i framing_budget framing_budget c c' p p' t t' w w' rest rest' b b').2 ∙ sym q'
number_refusal_same n d i e e' (inl (deep, t, o, q)) (inr (inl z, r)) = absurd (omega (arith, deep, z))
number_refusal_same n d i e e' (inl (deep, t, o, q)) (inr (inr f, r)) = absurd (f t o)
number_refusal_same n d i e e' (inr (inl z, r)) (inl (deep, t, o, q)) = absurd (omega (arith, deep, z))
number_refusal_same n d i e e' (inr (inr f, r)) (inl (deep, t, o, q)) = absurd (f t o)
number_refusal_same n d i e e' (inr (h, r)) (inr (h', r')) = shows_one d i e e' r r'

pub cut_not_number_refused : (n d : ℕ) (i : List ℕ) (m : ℕ) (e : Refusal) → BerIsCut d i m → TagNumberRefuses n d i e → ⊥
cut_not_number_refused n d i m e k (inl (deep, t, o, q)) = cut_not_other n i t k.0 o
cut_not_number_refused n d i m e k (inr (h, r)) = k.2 e r

spelled_wanted : (n d : ℕ) (i b rest : List ℕ) (o : Node) (e : Refusal) → i ≡ b ++ rest → BerSpells b o d framing_budget → number o ≡ n → TagNumberRefuses n d i e → ⊥
spelled_wanted n d i b rest (node c p t x) e q s z r = spelled_not_number_refused n d i b rest c p t x e z q s r

-- memory

open_needs : (d : ℕ) (i behind : List ℕ) (h : Header) (l : Length) → 1 ≤ d → l ≡ Indefinite → BeginsWithHeader i (class_of h) (is_constructed h) (number_of h) l behind → FramingNeedsMemory d i
open_needs d i behind h (Definite n) deep e b = absurd (cc)
open_needs d i behind h Indefinite deep e b =
    (deep, (class_of h, number_of h, behind, subst (λ p. BeginsWithHeader i (class_of h) p (number_of h) Indefinite behind) b.length.0 b))

pub framing_needs : (n d : ℕ) (i behind : List ℕ) (h : Header) → 1 ≤ d → ReadsHeader i h behind → length_of h ≡ Indefinite → TagNumberNeedsMemory n d i
framing_needs n d i behind h deep q e = inr (open_needs d i behind h (length_of h) deep e q.begins)

pub content_needs : (n d : ℕ) (i rest w : List ℕ) (c : Class) (p : Bool) (t : ℕ) → t ≡ n → BeginsWithElement i framing_budget c p t w rest
    → (2 ≤ d) × (c ≡ Universal) × (p ≡ true) × IsTrue (is_list t) × (w ≢ []) → TagNumberNeedsMemory n d i
content_needs n d i rest w c p t e b (deep, u, q, k, some) =
    let listed = subst (λ k. BeginsWithElement i framing_budget Universal k t w rest) q (subst (λ k. BeginsWithElement i framing_budget k p t w rest) u b) in
    inl (deep, (w, rest, subst (λ m. IsTrue (is_list m)) e k, some, subst (λ m. BeginsWithElement i framing_budget Universal true m w rest) e listed))

-- a cut input is no whole list
pub cut_number_needs : (n d : ℕ) (i : List ℕ) (m : ℕ) → BerIsCut d i m → TagNumberNeedsMemory n d i → FramingNeedsMemory d i
cut_number_needs n d i m k (inl (two, (w, rest, list, some, b))) = absurd (begins_not_cut i framing_budget Universal true n w rest b k.0)
cut_number_needs n d i m k (inr h) = h

-- of an object of the number, a refusal and a cut, an input shows one at most
pub number_shows_one : (n d : ℕ) (i : List ℕ)
    → ShowsOne value_of (λ x. ReadsBer d i x.1 x.0.now × (number_of x.1.header ≡ n)) (λ v. BeginsWithBer d i v.0 v.1 × (number v.0 ≡ n)) (TagNumberRefuses n d i) (BerIsCut d i)
number_shows_one n d i = let s = ber_shows_one d i in record {
  spelled = λ x r. (s.spelled x r.0, r.1);
  one_value = λ x v r q. s.one_value x v r.0 q.0;
  one_refusal = λ e e' r r'. number_refusal_same n d i e e' r r';
  one_lack = s.one_lack;
  not_refused = λ v e q r. spelled_wanted n d i q.0.0 v.1 v.0 e q.0.1 q.0.2 q.1 r;
  not_lacking = λ v m q h. s.not_lacking v m q.0 h;
  not_both = λ e m r h. cut_not_number_refused n d i m e h r;
}
