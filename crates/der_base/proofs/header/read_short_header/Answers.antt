use Rattle.std.proofs.Common.{◌≡◌, ℕ, ◌+◌, ◌<◌, Bool, Some, List, [], ◌∷◌, ◌++◌, take, refl, sym, ap, ◌∙◌, append_assoc, inl, arith}
use Rattle.der_base.specs.declared.header.Class.{Class}
use Rattle.der_base.specs.declared.header.Header.{Header}
use Rattle.der_base.specs.declared.header.Length.TheVariants.{Definite}
use Rattle.der_base.specs.Header.{IsHeader, class_of, is_constructed, number_of, raw_tag_of}
use Rattle.der_base.specs.Headers.{BeginsWithHeader, BeginsWithDerHeader, ReadsHeader, ReadsDerHeader}
use Rattle.der_base.specs.Octets.{identifier, leading_bits}
use Rattle.der_base.proofs.Octets.Identifiers.{identifier_short}
use Rattle.der_base.proofs.Octets.ShortestLengths.{shortest_short}
use Rattle.der_base.proofs.header.read_short_header.Goals as goal

-- i is the octet of an identifier, the octet of the length n, and r
record IsShort (i r : List ℕ) (c : Class) (p : Bool) (t n : ℕ) : Type 0 where
  first : ℕ
  octets : i ≡ first ∷ n ∷ r
  leading : first ≡ leading_bits c p + t
  number : t < 31
  length : n < 128

tag : (i r : List ℕ) (c : Class) (p : Bool) (t n : ℕ) → IsShort i r c p t n → take 1 i ≡ identifier c p t
tag i r c p t n s = ap (λ l. take 1 l) s.octets ∙ ap (λ x. x ∷ []) s.leading ∙ sym (identifier_short c p t s.number)

begins : (i r : List ℕ) (c : Class) (p : Bool) (t n : ℕ) → IsShort i r c p t n → i ≡ identifier c p t ++ n ∷ r
begins i r c p t n s = s.octets ∙ ap (λ x. x ∷ n ∷ r) s.leading ∙ ap (λ l. l ++ n ∷ r) (sym (identifier_short c p t s.number))

named : (i : List ℕ) (h : Header) (c : Class) (p : Bool) (t n : ℕ) → IsHeader h c p t (Definite n) (Some (take 1 i)) → take 1 i ≡ identifier c p t
    → raw_tag_of h ≡ Some (identifier (class_of h) (is_constructed h) (number_of h))
named i h c p t n k e = rw (k.class, k.constructed, k.number) (k.raw_tag ∙ ap Some e)

by_ber : (i r : List ℕ) (h : Header) (c : Class) (p : Bool) (t n : ℕ) → IsShort i r c p t n → IsHeader h c p t (Definite n) (Some (take 1 i)) → ReadsHeader i h r
by_ber i r h c p t n s k =
    let b : BeginsWithHeader i c p t (Definite n) r = record {
      following = n ∷ r;
      octets = begins i r c p t n s;
      number = omega (arith, s.number);
      length = (n ∷ [], (omega (arith, s.length), inl (s.length, refl, refl)), refl);
    } in
    record { begins = rw (k.class, k.constructed, k.number, k.length) b; raw_tag = named i h c p t n k (tag i r c p t n s) }

by_der : (i r : List ℕ) (h : Header) (c : Class) (p : Bool) (t n : ℕ) → IsShort i r c p t n → IsHeader h c p t (Definite n) (Some (take 1 i)) → ReadsDerHeader i h r
by_der i r h c p t n s k =
    let b : BeginsWithDerHeader i c p t n r = record {
      octets = begins i r c p t n s ∙ sym (append_assoc (identifier c p t) (n ∷ []) r) ∙ ap (λ l. identifier c p t ++ l ++ r) (sym (shortest_short n s.length));
      number = omega (arith, s.number);
      length = omega (arith, s.length);
    } in
    record { size = n; begins = rw (k.class, k.constructed, k.number) b; length = k.length; raw_tag = named i h c p t n k (tag i r c p t n s) }

short : (c : goal.After-header_of) → IsShort c.args.i.now c.in_ok-length.rest.now c.first_octet-class.result.0 c.first_octet-class.result.1 c.from.result c.from-2.result
short c =
    let f = c.in_ok-first.following.now in
    let r = c.in_ok-length.rest.now in
    record {
      first = c.in_ok-first.first.now;
      octets = c.in_ok-first.ensures.cases.0 ∙ ap (λ l. c.in_ok-first.first.now ∷ l) (c.in_ok-length.ensures.cases.0 ∙ ap (λ x. x ∷ r) (sym c.from-2.ensures));
      leading = omega (arith, c.first_octet-class.ensures.octet, c.from.ensures);
      number = omega (arith, c.first_octet-class.ensures.low, c.from.ensures);
      length = omega (arith, c.from-2.ensures);
    }

pub returns-clause-ber : goal.returns-clause-ber
returns-clause-ber c = by_ber c.args.i.now c.in_ok-length.rest.now c.header_of.result _ _ _ _ (short c) c.header_of.ensures

pub returns-clause-der : goal.returns-clause-der
returns-clause-der c = by_der c.args.i.now c.in_ok-length.rest.now c.header_of.result _ _ _ _ (short c) c.header_of.ensures
