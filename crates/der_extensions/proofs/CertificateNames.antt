-- The Name of a general name is that of a certificate, which x509 writes in words of its own.
use Rattle.std.proofs.Common.{◌≡◌, ℕ, List, [], ◌∷◌, length, true, refl, sym, ap, subst, ◌∙◌, arith}
use Rattle.der_base.specs.declared.header.Class.TheVariants.{Universal}
use Rattle.der_base.specs.declared.rules.Rules.TheVariants.{Der}
use Rattle.der_cursor.specs.Elements.{SpellsElement}
use Rattle.der_cursor.specs.Formats.{AnyElement, Each, End, Field, Required, Value, ◌⨾◌}
use Rattle.der_cursor.proofs.FormatLaws.{required_takes}
use Rattle.der_extensions.specs.GeneralNames.{AttributeTypeAndValue, AttributeValue, Name, RelativeDistinguishedName}
use Rattle.der_extensions.specs.Lists.{IsListOf, ListOf, SomeOf, TakesOctets}
use Rattle.x509.specs.Certificates.{Attribute, attribute, name, relative_name}
use Rattle.x509.specs.Formats.{Fault, Format, Items, each, more, none, spells}

-- attributes
attribute_to : (i : List ℕ) (v : AttributeValue) (rest : List ℕ) → Required AttributeTypeAndValue Der i v rest → (a : Attribute) × spells attribute i a rest
unfolding Required ◌⨾◌ AnyElement End Value
attribute_to i v rest (w, (m, (x, (n, e), s), (k, any, q)), t) =
    let a : Attribute = record { identifier = v.0; value = v.1.0 } in
    (a, (w, rest, t, ((k, (v.0, m, (x, n, e, s), (v.1.0, k, any, (tt, k, (q, refl), (refl, refl))))), refl)))

attribute_back : (i : List ℕ) (a : Attribute) (rest : List ℕ) → spells attribute i a rest → (v : AttributeValue) × Required AttributeTypeAndValue Der i v rest
unfolding Required ◌⨾◌ AnyElement End Value
attribute_back i a rest (w, k, t, ((r, (v, m, (x, n, e, s), (value, j, any, (u, l, (q, p), h)))), o)) =
    ((v, (value, tt)), (w, (m, (x, (n, e), s), (j, any, q)), subst (λ y. SpellsElement Der Universal true 16 i (w, y)) (sym o) t))

-- lists
module _ {V W : Type 0} (F : Field V) (f : Format Fault W) (takes : TakesOctets F) (to : (i : List ℕ) (v : V) (rest : List ℕ) → F Der i v rest → (w : W) × spells f i w rest)
    (back : (i : List ℕ) (w : W) (rest : List ℕ) → spells f i w rest → (v : V) × F Der i v rest) where
  items_to : (w : List ℕ) (vs : List V) → Each F Der w vs → Items (λ s. spells (each f s)) tt w tt []
  unfolding Each
  items_to w [] z = none refl z
  items_to w (v ∷ vs) (rest, h, z) =
      let y = to w v rest h in
      let less = takes Der w v rest h in
      more (λ q. absurd (omega (arith, less, ap length q))) (y.0, rest, y.1, (refl, refl)) (items_to rest vs z)

  items_back : {a b : Unit {0}} {w j : List ℕ} → Items (λ s. spells (each f s)) a w b j → j ≡ [] → IsListOf F Der w
  unfolding Each
  items_back (none p q) e = ([], q ∙ e)
  items_back (more {i = i} {j = k} n (v, m, s, (p, q)) y) e =
      let t = back i v m s in
      let r = items_back y e in
      (t.0 ∷ r.0, (k, subst (λ x. F Der i t.0 x) (sym q) t.1, r.1))

relative_to : (i : List ℕ) (w : List ℕ) (rest : List ℕ) → Required RelativeDistinguishedName Der i w rest → (u : List ℕ) × spells relative_name i u rest
unfolding Required SomeOf ListOf
relative_to i w rest (c, (n, (e, (vs, z))), s) =
    (w, (c, rest, s, (tt, rest, (([], (tt, c, (n, refl), (items_to (Required AttributeTypeAndValue) attribute (required_takes AttributeTypeAndValue) attribute_to attribute_back c vs z, refl))), refl), (e, refl))))

relative_back : (i : List ℕ) (w : List ℕ) (rest : List ℕ) → spells relative_name i w rest → (v : List ℕ) × Required RelativeDistinguishedName Der i v rest
unfolding Required SomeOf ListOf
relative_back i w rest (c, k, s, (t, m, ((r, (u, j, (n, q), (z, e))), o), (p, h))) = (
  w,
  (
    c,
    (n, (p, subst (λ x. IsListOf (Required AttributeTypeAndValue) Der x) q (items_back (Required AttributeTypeAndValue) attribute (required_takes AttributeTypeAndValue) attribute_to attribute_back z e))),
    subst (λ x. SpellsElement Der Universal true 17 i (c, x)) (sym (h ∙ o)) s,
  ),
)

-- names
pub name_to : (i : List ℕ) (w : List ℕ) (rest : List ℕ) → Required Name Der i w rest → spells name i w rest
unfolding Required ListOf
name_to i w rest (c, (e, (vs, z)), s) =
    (c, rest, s, (tt, rest, (([], (items_to (Required RelativeDistinguishedName) relative_name (required_takes RelativeDistinguishedName) relative_to relative_back c vs z, refl)), refl), (e, refl)))

pub name_back : (i : List ℕ) (w : List ℕ) (rest : List ℕ) → spells name i w rest → Required Name Der i w rest
unfolding Required ListOf
name_back i w rest (c, k, s, (t, m, ((r, (z, e)), o), (p, h))) = (
  c,
  (p, items_back (Required RelativeDistinguishedName) relative_name (required_takes RelativeDistinguishedName) relative_to relative_back z e),
  subst (λ x. SpellsElement Der Universal true 16 i (c, x)) (sym (h ∙ o)) s,
)
