-- Headers.
use Rattle.std.proofs.Common.{◌≡◌, ℕ, ◌+◌, ◌≤◌, Bool, List, [], ◌∷◌, ◌++◌, length, Option, Some, None, Ok, refl, sym, ap, subst, ◌∙◌, append_assoc}
use Rattle.std.specs.Borrow.{Bor}
use Rattle.der_base.specs.declared.header.Class.{Class}
use Rattle.der_base.specs.declared.header.Header.{Header}
use Rattle.der_base.specs.declared.header.Length.{Length}
use Rattle.der_base.specs.declared.header.Length.TheVariants.{Definite, Indefinite}
use Rattle.der_base.specs.Header.{class_of, is_constructed, number_of, raw_tag_of}
use Rattle.der_base.specs.Headers.{BeginsWithHeader, BeginsWithDerHeader, LeadingHeader}
use Rattle.der_base.specs.Octets.{identifier, shortest_length, SpellsLength}
use Rattle.der_base.proofs.Framing.FramingLists.{definite_header, header_takes_two}
use Rattle.der_base.proofs.Octets.ShortestLengths.{shortest_spells}
use Rattle.der_base.specs.declared.rules.Rules.{Rules}
use Rattle.der_base.specs.declared.rules.Rules.TheVariants.{Ber, Der}
use Rattle.der_base.specs.Rules.{AnswersHeader, SpellsHeaderBy}
use Rattle.der_elements.specs.Visits.{IsHeaderBy}
use Rattle.der_elements.specs.Reading.{definite_of}

-- the octets of a header, and what follows it
pub record Parts (r : Rules) (i : List ℕ) (c : Class) (p : Bool) (t : ℕ) (n : Option ℕ) (rest : List ℕ) : Type 0 where
  pub octets : List ℕ
  pub split : i ≡ octets ++ rest
  pub is : IsHeaderBy r c p t n octets

ber_parts : (i : List ℕ) (c : Class) (p : Bool) (t : ℕ) (l : Length) (rest : List ℕ) → BeginsWithHeader i c p t l rest → Parts Ber i c p t (definite_of l) rest
ber_parts i c p t (Definite n) rest b =
    let s = definite_header i rest c p t n b in
    record { octets = identifier c p t ++ s.0; split = s.2 ∙ sym (append_assoc (identifier c p t) s.0 rest); is = (b.number, s.0, s.1, refl) }
ber_parts i c p t Indefinite rest b =
    record {
      octets = identifier c p t ++ 128 ∷ [];
      split = b.octets ∙ ap (λ l. identifier c p t ++ l) b.length.1 ∙ sym (append_assoc (identifier c p t) (128 ∷ []) rest);
      is = (b.number, refl, b.length.0, refl);
    }

der_parts : (i : List ℕ) (c : Class) (p : Bool) (t n : ℕ) (rest : List ℕ) → BeginsWithDerHeader i c p t n rest → Parts Der i c p t (Some n) rest
der_parts i c p t n rest b = record { octets = identifier c p t ++ shortest_length n; split = b.octets; is = (b.number, shortest_length n, (b.length, refl), refl) }

pub header_parts : (r : Rules) (i : List ℕ) (v : LeadingHeader) → SpellsHeaderBy r i v → Parts r i v.class v.constructed v.number (definite_of v.length) v.rest
header_parts Ber i v h = ber_parts i v.class v.constructed v.number v.length v.rest h
header_parts Der i v h = subst (λ l. Parts Der i v.class v.constructed v.number (definite_of l) v.rest) (sym h.1) (der_parts i v.class v.constructed v.number h.0 v.rest h.2)

-- a definite header is read
pub spells_parts : (r : Rules) (i : List ℕ) (c : Class) (p : Bool) (t n : ℕ) (h rest : List ℕ) → IsHeaderBy r c p t (Some n) h → i ≡ h ++ rest
    → SpellsHeaderBy r i (record { class = c; constructed = p; number = t; length = Definite n; rest = rest })
spells_parts Ber i c p t n h rest is e =
    let s = is.1 in
    record { following = s ++ rest; octets = e ∙ ap (λ l. l ++ rest) is.3 ∙ append_assoc (identifier c p t) s rest; number = is.0; length = (s, is.2, refl) }
spells_parts Der i c p t n h rest is e =
    let s = is.1 in
    (n, refl, record { octets = e ∙ ap (λ l. l ++ rest) (is.3 ∙ ap (λ l. identifier c p t ++ l) is.2.1); number = is.0; length = is.2.0 })

-- the identifier octets are kept
pub raw_tag_read : (r : Rules) (i : List ℕ) (x : Bor (List ℕ) × Header) → AnswersHeader r i (Ok x) → raw_tag_of x.1 ≡ Some (identifier (class_of x.1) (is_constructed x.1) (number_of x.1))
raw_tag_read Ber i x a = a.found.raw_tag
raw_tag_read Der i x a = a.found.raw_tag

abbrev pub length_from : Option ℕ → Length
length_from (Some n) = Definite n
length_from None = Indefinite

-- a header is one by BER
pub header_begins : (r : Rules) (i : List ℕ) (c : Class) (p : Bool) (t : ℕ) (n : Option ℕ) (h rest : List ℕ) → IsHeaderBy r c p t n h → i ≡ h ++ rest → BeginsWithHeader i c p t (length_from n) rest
header_begins Ber i c p t (Some n) h rest is e = spells_parts Ber i c p t n h rest is e
header_begins Der i c p t (Some n) h rest is e =
    let s = is.1 in
    record {
      following = s ++ rest;
      octets = e ∙ ap (λ l. l ++ rest) is.3 ∙ append_assoc (identifier c p t) s rest;
      number = is.0;
      length = (s, subst (λ l. SpellsLength l n) (sym is.2.1) (shortest_spells n is.2.0), refl);
    }
header_begins r i c p t None h rest is e = record { following = 128 ∷ rest; octets = e ∙ ap (λ l. l ++ rest) is.3 ∙ append_assoc (identifier c p t) (128 ∷ []) rest; number = is.0; length = (is.2, refl) }

-- a header has two octets
pub header_two : (r : Rules) (i : List ℕ) (v : LeadingHeader) → SpellsHeaderBy r i v → length v.rest + 2 ≤ length i
header_two r i v h =
    let g = header_parts r i v h in
    let n = definite_of v.length in
    header_takes_two i v.rest v.class v.constructed v.number (length_from n) (header_begins r i v.class v.constructed v.number n g.octets v.rest g.is g.split)
