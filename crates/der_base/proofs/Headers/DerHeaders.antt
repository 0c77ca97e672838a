-- The laws of headers, for headers as DER writes them.
use Rattle.std.proofs.Common.{◌≡◌, ℕ, Bool, Some, List, ◌++◌, refl, sym, ap, ◌∙◌, append_assoc}
use Rattle.der_base.specs.declared.header.Class.{Class}
use Rattle.der_base.specs.declared.header.Header.{Header}
use Rattle.der_base.specs.declared.header.Length.TheVariants.{Definite}
use Rattle.der_base.specs.Fault.{DerLengthRefuses, DerHeaderRefuses}
use Rattle.der_base.specs.Header.{IsHeader, class_of, is_constructed, number_of, length_of}
use Rattle.der_base.specs.Headers.{BeginsWithDerHeader, ReadsDerHeader, HeaderLacks, DerHeaderLacks, SpellsDerHeader, leading_header}
use Rattle.der_base.specs.LengthOctets.{BeginsWithDerLength}
use Rattle.der_base.specs.Octets.{identifier, shortest_length}
use Rattle.der_base.specs.Refusal.{Refusal}
use Rattle.der_base.proofs.Answers.Exactness.{ShowsOne}
use Rattle.der_base.proofs.Headers.HeaderLaws.{LengthLaws, SameHeader, Reads, read_header, header_same, header_not_refused, header_not_lacking, header_lacks_same, refusal_same}
use Rattle.der_base.proofs.Octets.LengthOctets.{der_length_same, der_length_not_refused, der_length_not_lacking, der_refused_not_lacking, der_refusal_same}

abbrev Begins : Bool → List ℕ → ℕ → List ℕ → Type 0
Begins p s n rest = BeginsWithDerLength s n rest

abbrev Refuses : Bool → List ℕ → Refusal → Type 0
Refuses p s e = DerLengthRefuses s e

pub laws : LengthLaws Begins Refuses
laws = record {
  same = λ p s n n' r r' h h'. der_length_same s n n' r r' h h';
  not_refused = λ p s n r e h q. der_length_not_refused s n r e h q;
  not_lacking = λ p s n r m h l. der_length_not_lacking s n r m h l;
  refused_not_lacking = λ p s e m q l. der_refused_not_lacking s e m q l;
  refusal_same = λ p s e e' q q'. der_refusal_same s e e' q q';
}

reads : (i rest : List ℕ) (c : Class) (p : Bool) (t n : ℕ) → BeginsWithDerHeader i c p t n rest → Reads Begins i c p t n rest
reads i rest c p t n h = record {
  number = h.number;
  following = shortest_length n ++ rest;
  octets = h.octets ∙ append_assoc (identifier c p t) (shortest_length n) rest;
  length = record { octets = refl; length = h.length };
}

pub der_header_same : (i rest rest' : List ℕ) (c c' : Class) (p p' : Bool) (t t' n n' : ℕ) → BeginsWithDerHeader i c p t n rest → BeginsWithDerHeader i c' p' t' n' rest'
    → SameHeader c c' p p' t t' n n' rest rest'
der_header_same i rest rest' c c' p p' t t' n n' h k = header_same laws i rest rest' c c' p p' t t' n n' (reads i rest c p t n h) (reads i rest' c' p' t' n' k)

pub der_header_not_refused : (i rest : List ℕ) (c : Class) (p : Bool) (t n : ℕ) (e : Refusal) → BeginsWithDerHeader i c p t n rest → DerHeaderRefuses i e → ⊥
der_header_not_refused i rest c p t n e h r = header_not_refused laws i rest c p t n e (reads i rest c p t n h) r

pub der_header_not_lacking : (i rest : List ℕ) (c : Class) (p : Bool) (t n m : ℕ) → BeginsWithDerHeader i c p t n rest → HeaderLacks i m → ⊥
der_header_not_lacking i rest c p t n m h k = header_not_lacking laws i rest c p t n m (reads i rest c p t n h) k

pub der_header_refusal_same : (i : List ℕ) (e e' : Refusal) → DerHeaderRefuses i e → DerHeaderRefuses i e' → e ≡ e'
der_header_refusal_same i e e' h h' = refusal_same laws i e e' h h'

-- the header that is read is the one that begins the input
pub der_header_only : (i rest rest' : List ℕ) (c : Class) (p : Bool) (t n : ℕ) (h : Header) → BeginsWithDerHeader i c p t n rest → ReadsDerHeader i h rest'
    → IsHeader h c p t (Definite n) (Some (identifier c p t)) × (rest' ≡ rest)
der_header_only i rest rest' c p t n h b r =
    let s = der_header_same i rest' rest (class_of h) c (is_constructed h) p (number_of h) t r.size n r.begins b in
    (read_header h (class_of h) c (is_constructed h) p (number_of h) t (Definite r.size) (Definite n) s.class s.constructed s.number (ap Definite s.length) refl refl refl r.length r.raw_tag, s.rest)

-- of a header, a refusal and a cut, an input shows one at most
pub der_header_shows_one : (i : List ℕ) → ShowsOne leading_header (λ x. ReadsDerHeader i x.1 x.0.now) (SpellsDerHeader i) (DerHeaderRefuses i) (DerHeaderLacks i)
der_header_shows_one i = record {
  spelled = λ x r. (r.size, r.length, r.begins);
  one_value =
      λ x v r s. (let h = x.1 in let z = der_header_same i x.0.now v.rest (class_of h) v.class (is_constructed h) v.constructed (number_of h) v.number r.size s.0 r.begins s.2 in
      let l : length_of h ≡ v.length = r.length ∙ ap Definite z.length ∙ sym s.1 in rw (z.class, z.constructed, z.number, l, z.rest) refl);
  one_refusal = λ e e' r r'. der_header_refusal_same i e e' r r';
  one_lack = λ n n' l l'. header_lacks_same i n n' l.1 l'.1;
  not_refused = λ v e s r. der_header_not_refused i v.rest v.class v.constructed v.number s.0 e s.2 r;
  not_lacking = λ v n s l. der_header_not_lacking i v.rest v.class v.constructed v.number s.0 n s.2 l.1;
  not_both = λ e n r l. l.2 e r;
}
