-- The laws of headers, for headers as BER allows them.
use Rattle.std.proofs.Common.{◌≡◌, ℕ, Bool, Some, List, Err, refl}
use Rattle.der_base.specs.declared.error.Err.{Err as Refused}
use Rattle.der_base.specs.declared.error.Err.TheVariants.{Incomplete, Error, Failure, OutOfMemory}
use Rattle.der_base.specs.declared.error.Error.{Error as BerError}
use Rattle.der_base.specs.declared.error.Needed.TheVariants.{Unknown, Size}
use Rattle.der_base.specs.declared.header.Class.{Class}
use Rattle.der_base.specs.declared.header.Header.{Header}
use Rattle.der_base.specs.declared.header.Length.{Length}
use Rattle.der_base.specs.Fault.{BerLengthRefuses, BerHeaderRefuses}
use Rattle.der_base.specs.Header.{IsHeader, class_of, is_constructed, number_of, length_of}
use Rattle.der_base.specs.Headers.{BeginsWithHeader, ReadsHeader, HeaderLacks, BerHeaderLacks, AnswersBerHeader, SpellsHeader, LeadingHeader, leading_header}
use Rattle.der_base.specs.LengthOctets.{BeginsWithLength}
use Rattle.der_base.specs.Octets.{identifier}
use Rattle.der_base.specs.Refusal.{Refusal}
use Rattle.der_base.proofs.Answers.Exactness.{ShowsOne}
use Rattle.der_base.proofs.Headers.HeaderLaws.{LengthLaws, SameHeader, Reads, read_header, header_same, header_not_refused, header_not_lacking, header_lacks_same, refusal_same}
use Rattle.der_base.proofs.Octets.LengthOctets.{ber_length_same, ber_length_not_refused, ber_length_not_lacking, ber_refused_not_lacking, ber_refusal_same}

abbrev Begins : Bool → List ℕ → Length → List ℕ → Type 0
Begins p s l rest = BeginsWithLength s p l rest

pub laws : LengthLaws Begins BerLengthRefuses
laws = record {
  same = λ p s l l' r r' h h'. ber_length_same s p l l' r r' h h';
  not_refused = λ p s l r e h q. ber_length_not_refused s p l r e h q;
  not_lacking = λ p s l r m h k. ber_length_not_lacking s p l r m h k;
  refused_not_lacking = λ p s e m q k. ber_refused_not_lacking s p e m q k;
  refusal_same = λ p s e e' q q'. ber_refusal_same s p e e' q q';
}

reads : (i rest : List ℕ) (c : Class) (p : Bool) (t : ℕ) (l : Length) → BeginsWithHeader i c p t l rest → Reads Begins i c p t l rest
reads i rest c p t l h = record { number = h.number; following = h.following; octets = h.octets; length = h.length }

pub ber_header_same : (i rest rest' : List ℕ) (c c' : Class) (p p' : Bool) (t t' : ℕ) (l l' : Length) → BeginsWithHeader i c p t l rest → BeginsWithHeader i c' p' t' l' rest'
    → SameHeader c c' p p' t t' l l' rest rest'
ber_header_same i rest rest' c c' p p' t t' l l' h k = header_same laws i rest rest' c c' p p' t t' l l' (reads i rest c p t l h) (reads i rest' c' p' t' l' k)

pub ber_header_not_refused : (i rest : List ℕ) (c : Class) (p : Bool) (t : ℕ) (l : Length) (e : Refusal) → BeginsWithHeader i c p t l rest → BerHeaderRefuses i e → ⊥
ber_header_not_refused i rest c p t l e h r = header_not_refused laws i rest c p t l e (reads i rest c p t l h) r

pub ber_header_not_lacking : (i rest : List ℕ) (c : Class) (p : Bool) (t : ℕ) (l : Length) (m : ℕ) → BeginsWithHeader i c p t l rest → HeaderLacks i m → ⊥
ber_header_not_lacking i rest c p t l m h k = header_not_lacking laws i rest c p t l m (reads i rest c p t l h) k

pub ber_header_refusal_same : (i : List ℕ) (e e' : Refusal) → BerHeaderRefuses i e → BerHeaderRefuses i e' → e ≡ e'
ber_header_refusal_same i e e' h h' = refusal_same laws i e e' h h'

-- the header that is read is the one that begins the input
pub ber_header_only : (i rest rest' : List ℕ) (c : Class) (p : Bool) (t : ℕ) (l : Length) (h : Header) → BeginsWithHeader i c p t l rest → ReadsHeader i h rest'
    → IsHeader h c p t l (Some (identifier c p t)) × (rest' ≡ rest)
ber_header_only i rest rest' c p t l h b r =
    let s = ber_header_same i rest' rest (class_of h) c (is_constructed h) p (number_of h) t (length_of h) l r.begins b in
    (read_header h (class_of h) c (is_constructed h) p (number_of h) t (length_of h) l s.class s.constructed s.number s.length refl refl refl refl r.raw_tag, s.rest)

-- of a header, a refusal and a cut, an input shows one at most
pub ber_header_shows_one : (i : List ℕ) → ShowsOne leading_header (λ x. ReadsHeader i x.1 x.0.now) (SpellsHeader i) (BerHeaderRefuses i) (BerHeaderLacks i)
ber_header_shows_one i = record {
  spelled = λ x r. r.begins;
  one_value =
      λ x v r s. (let h = x.1 in let z = ber_header_same i x.0.now v.rest (class_of h) v.class (is_constructed h) v.constructed (number_of h) v.number (length_of h) v.length r.begins s in
      rw (z.class, z.constructed, z.number, z.length, z.rest) refl);
  one_refusal = λ e e' r r'. ber_header_refusal_same i e e' r r';
  one_lack = λ n n' l l'. header_lacks_same i n n' l.1 l'.1;
  not_refused = λ v e s r. ber_header_not_refused i v.rest v.class v.constructed v.number v.length e s r;
  not_lacking = λ v n s l. ber_header_not_lacking i v.rest v.class v.constructed v.number v.length n s l.1;
  not_both = λ e n r l. l.2 e r;
}

-- a header in front of the input is read
pub ber_header_read : (i : List ℕ) (e : Refused BerError) (v : LeadingHeader) → AnswersBerHeader i (Err e) → SpellsHeader i v → ⊥
ber_header_read i (Error x) v a s = a.only v s
ber_header_read i (Incomplete (Size n)) v a s = a.only v s
ber_header_read i (Incomplete Unknown) v a s = a.only v s
ber_header_read i (Failure x) v a s = a.only v s
ber_header_read i OutOfMemory v a s = a.only v s
