-- Elements with a header of two octets.
use Rattle.std.proofs.Common.{◌≡◌, ℕ, Bool, List, [], ◌∷◌, ◌++◌, length, refl, sym, ap, ◌∙◌, arith, append_assoc, inl}
use Rattle.der_base.specs.declared.header.Class.{Class}
use Rattle.der_base.specs.declared.header.Length.TheVariants.{Definite}
use Rattle.der_base.specs.declared.rules.Rules.{Rules}
use Rattle.der_base.specs.declared.rules.Rules.TheVariants.{Ber, Der}
use Rattle.der_base.specs.Headers.{LeadingHeader, BeginsWithHeader, BeginsWithDerHeader}
use Rattle.der_base.specs.Octets.{identifier}
use Rattle.der_base.proofs.Octets.Identifiers.{identifier_short}
use Rattle.der_base.proofs.Octets.ShortestLengths.{shortest_short}
use Rattle.der_cursor.specs.Elements.{IsShortElement, MarkerFollows, SpellsElement}

module _ (c : Class) (p : Bool) (t : ℕ) (i w rest : List ℕ) (s : IsShortElement c p t i w rest) where
  begins : i ≡ identifier c p t ++ length w ∷ (w ++ rest)
  begins = s.1.1 ∙ ap (λ l. l ++ length w ∷ (w ++ rest)) (sym (identifier_short c p t s.0))

  der_header : BeginsWithDerHeader i c p t (length w) (w ++ rest)
  der_header = record {
    octets = begins ∙ sym (append_assoc (identifier c p t) (length w ∷ []) (w ++ rest))
        ∙ ap (λ l. identifier c p t ++ l ++ (w ++ rest)) (sym (shortest_short (length w) s.1.0));
    number = omega (arith, s.0);
    length = omega (arith, s.1.0);
  }

  header : LeadingHeader
  header = record { class = c; constructed = p; number = t; length = Definite (length w); rest = w ++ rest }

  ber_header : BeginsWithHeader i c p t (Definite (length w)) (w ++ rest)
  ber_header = record {
    following = length w ∷ (w ++ rest);
    octets = begins;
    number = omega (arith, s.0);
    length = (length w ∷ [], (omega (arith, s.1.0), inl (s.1.0, refl, refl)), refl);
  }

  pub short_spells : (r : Rules) → SpellsElement r c p t i (w, rest)
  short_spells Ber =
      let octets = begins ∙ sym (append_assoc (identifier c p t) (length w ∷ []) (w ++ rest))
      ∙ sym (append_assoc (identifier c p t ++ length w ∷ []) w rest) in
      (omega (arith, s.0), omega arith, inl (length w ∷ [], (omega (arith, s.1.0), inl (s.1.0, refl, refl)), octets))
  short_spells Der = der_header

  pub short_marker : (r : Rules) → MarkerFollows r i 0
  unfolding header
  short_marker Ber = (header, ber_header, refl)
  short_marker Der = (header, (length w, refl, der_header), refl)
