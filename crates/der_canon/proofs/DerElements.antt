-- What elements are in DER is elements of DER.
use Rattle.std.proofs.Common.{◌≡◌, ℕ, ◌^◌, ◌<◌, Bool, true, false, List, ◌++◌, length, length-append, refl, sym, ap, subst, inl, inr, arith}
use Rattle.std.proofs.lemmas.Bool.Decides.{nat_tests}
use Rattle.der_base.specs.declared.header.Class.{Class}
use Rattle.der_base.specs.declared.header.Class.TheVariants.{Universal}
use Rattle.der_base.specs.declared.rules.Rules.TheVariants.{Ber, Der}
use Rattle.der_base.specs.Encoding.{element}
use Rattle.der_base.specs.Leaf.{is_list, is_mapped}
use Rattle.der_base.specs.Octets.{identifier, shortest_length}
use Rattle.der_elements.specs.Check.Elements.{AreElements, IsElement, MayBeConstructed, is_always_primitive}
use Rattle.der_elements.specs.Check.Elements.{none as no_elements, one_more as one_element, primitive as primitive_element, constructed as constructed_element}
use Rattle.der_canon.specs.Values.{value_in_der}
use Rattle.der_canon.specs.Same.{AreInDer, IsConstructed, IsInDer, is_string, is_string_of, none, one_more, primitive, constructed, string}

-- a type that may be constructed by BER and is no string may be by DER
not_string : (t : ℕ) → is_string t ≡ false → is_always_primitive t ≡ false → is_mapped t ≡ true → is_list t ≡ true
not_string t h k m = grind (arith, nat_tests)

plain_universal : (c : Class) (t : ℕ) → c ≡ Universal → is_string_of c t ≡ false → is_string t ≡ false
plain_universal c t u h = subst (λ z. is_string_of z t ≡ false) u h

constructed_der : (c : Class) (t : ℕ) → MayBeConstructed Ber c t → is_string_of c t ≡ false → MayBeConstructed Der c t
constructed_der c t may plain u = (may u, not_string t (plain_universal c t u plain) (may u))

number_of : (c : Class) (t : ℕ) (b w : List ℕ) → IsConstructed c t b w → t < 2 ^ 32
number_of c t b w (h, inl k) = k.0.0
number_of c t b w (h, inr k) = k.0.0

content_short : (c : Class) (p : Bool) (t : ℕ) (o w : List ℕ) → o ≡ element c p t w → length o < 2 ^ 64 → length w < 2 ^ 64
content_short c p t o w e h = omega (arith, ap length e, h, length-append (identifier c p t ++ shortest_length (length w)) w)

mutual
  pub der_elements : (d : ℕ) (i o : List ℕ) → AreInDer d i o → length o < 2 ^ 64 → AreElements Der d o
  der_elements d i o (none ei eo) h = subst (λ z. AreElements Der d z) (sym eo) no_elements
  der_elements d i o (one_more b rest p q ei eo is more) h =
      let size = length-append p q in
      one_element p q eo (der_element d b p is (omega (arith, ap length eo, size, h))) (der_elements d rest q more (omega (arith, ap length eo, size, h)))

  der_element : (d : ℕ) (b p : List ℕ) → IsInDer d b p → length p < 2 ^ 64 → IsElement Der d p
  der_element d b p (primitive c t h w is eb may has ep) short =
      primitive_element c t (shortest_length (length (value_in_der c t w))) (value_in_der c t w) is.0 (content_short c false t p (value_in_der c t w) ep short, refl) ep has
  der_element d b p (constructed {d = k} c t w x is may plain more ep) short =
      let few = content_short c true t p x ep short in
      constructed_element c t (shortest_length (length x)) x (number_of c t b w is) (few, refl) ep (constructed_der c t may plain) (der_elements k w x more few)
  der_element d b p (string c t w x is parts join has ep) short =
      primitive_element c t (shortest_length (length x)) x (number_of c t b w is) (content_short c false t p x ep short, refl) ep has
