-- What octets that follow change of a header: they lengthen the rest. Where a header is refused none begins the input, whatever follows, and each proper front of one is cut short.
use Rattle.std.proofs.Common.{◌≡◌, ◌≢◌, ℕ, Bool, List, [], ◌∷◌, ◌++◌, sym, ap, subst, ◌∙◌, ◌⊎◌, inl, inr, append-nil}
use Rattle.der_base.specs.declared.header.Class.{Class}
use Rattle.der_base.specs.declared.header.Length.{Length}
use Rattle.der_base.specs.declared.header.Length.TheVariants.{Definite, Indefinite}
use Rattle.der_base.specs.Fault.{BerHeaderRefuses, DerHeaderRefuses}
use Rattle.der_base.specs.Headers.{BeginsWithHeader, BeginsWithDerHeader, IsHeaderShape, IsHeaderCut, BerHeaderLacks, DerHeaderLacks}
use Rattle.der_base.specs.LengthOctets.{BeginsWithLength}
use Rattle.der_base.specs.Octets.{identifier, shortest_length, SpellsAnyLength}
use Rattle.der_base.specs.Refusal.{Refusal}
use Rattle.der_base.specs.Stable.{BeginsNoHeader, BeginsNoDerHeader}
use Rattle.der_base.proofs.Framing.RawLists.{tail_more}
use Rattle.der_base.proofs.Headers.BerHeaders.{ber_header_not_refused}
use Rattle.der_base.proofs.Headers.DerHeaders.{der_header_not_refused}
use Rattle.der_base.proofs.Headers.HeaderLaws.{cut_lacks}
use Rattle.der_base.proofs.Octets.ShortestLengths.{shortest_spells}
use Rattle.der_values.proofs.LawsLaws.Spellings.AppendedBer.{ber_header_appended}
use Rattle.der_values.proofs.LawsLaws.Spellings.AppendedDer.{der_header_appended}

-- refusals

pub ber_refused_begins_none : (i : List ℕ) (e : Refusal) → BerHeaderRefuses i e → BeginsNoHeader i
ber_refused_begins_none i e h z c p t l rest b = ber_header_not_refused (i ++ z) rest c p t l e b (ber_header_appended i z e h)

pub der_refused_begins_none : (i : List ℕ) (e : Refusal) → DerHeaderRefuses i e → BeginsNoDerHeader i
der_refused_begins_none i e h z c p t n rest b = der_header_not_refused (i ++ z) rest c p t n e b (der_header_appended i z e h)

-- headers

length_lengthens : (s z : List ℕ) (p : Bool) (l : Length) (rest : List ℕ) → BeginsWithLength s p l rest → BeginsWithLength (s ++ z) p l (rest ++ z)
length_lengthens s z p (Definite n) rest (w, h, e) = (w, h, tail_more w rest s z e)
length_lengthens s z p Indefinite rest (h, e) = (h, ap (λ l. l ++ z) e)

pub ber_header_lengthens : (i z : List ℕ) (c : Class) (p : Bool) (t : ℕ) (l : Length) (rest : List ℕ) → BeginsWithHeader i c p t l rest → BeginsWithHeader (i ++ z) c p t l (rest ++ z)
ber_header_lengthens i z c p t l rest h = record {
  following = h.following ++ z;
  octets = tail_more (identifier c p t) h.following i z h.octets;
  number = h.number;
  length = length_lengthens h.following z p l rest h.length;
}

pub der_header_lengthens : (i z : List ℕ) (c : Class) (p : Bool) (t n : ℕ) (rest : List ℕ) → BeginsWithDerHeader i c p t n rest → BeginsWithDerHeader (i ++ z) c p t n (rest ++ z)
der_header_lengthens i z c p t n rest h = record {
  octets = tail_more (identifier c p t ++ shortest_length n) rest i z h.octets;
  number = h.number;
  length = h.length;
}

-- their fronts

whole_length : (s : List ℕ) (p : Bool) (l : Length) → BeginsWithLength s p l [] → ((n : ℕ) × SpellsAnyLength s n) ⊎ (s ≡ 128 ∷ [])
whole_length s p (Definite n) (w, h, e) = inl (n, subst (λ x. SpellsAnyLength x n) (sym (e ∙ append-nil w)) h.1)
whole_length s p Indefinite (h, e) = inr e

pub ber_header_fronts_are_cut : (b : List ℕ) (c : Class) (p : Bool) (t : ℕ) (l : Length) → BeginsWithHeader b c p t l [] → (u v : List ℕ) → v ≢ [] → b ≡ u ++ v → (n : ℕ) × BerHeaderLacks u n
ber_header_fronts_are_cut b c p t l h u v some e =
    let shape : IsHeaderShape b = (c, p, t, h.following, h.octets, whole_length h.following p l h.length) in
    let cut : IsHeaderCut u = (v, some, subst IsHeaderShape e shape) in
    let q = cut_lacks u cut in
    (q.0, (cut, q.1, λ x r. ber_header_not_refused b [] c p t l x h (subst (λ i. BerHeaderRefuses i x) (sym e) (ber_header_appended u v x r))))

pub der_header_fronts_are_cut : (b : List ℕ) (c : Class) (p : Bool) (t n : ℕ) → BeginsWithDerHeader b c p t n [] → (u v : List ℕ) → v ≢ [] → b ≡ u ++ v → (k : ℕ) × DerHeaderLacks u k
der_header_fronts_are_cut b c p t n h u v some e =
    let shape : IsHeaderShape b = (c, p, t, shortest_length n, h.octets ∙ append-nil (identifier c p t ++ shortest_length n), inl (n, (shortest_spells n h.length).1)) in
    let cut : IsHeaderCut u = (v, some, subst IsHeaderShape e shape) in
    let q = cut_lacks u cut in
    (q.0, (cut, q.1, λ x r. der_header_not_refused b [] c p t n x h (subst (λ i. DerHeaderRefuses i x) (sym e) (der_header_appended u v x r))))
