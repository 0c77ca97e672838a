-- The first identifier octet shows class and number, where the number is below 31 (X.690 8.1.2.2); the others show one of
-- 31 or more (8.1.2.4).
use Rattle.std.proofs.Common.{◌≡◌, ℕ, ◌+◌, ◌/◌, ◌%◌, ◌<◌, ◌≤◌, Bool, true, false, List, [], ◌∷◌, ◌++◌, Some, None, refl, sym, ap, ◌∙◌, arith, ⊎_elim, ◌-◌, suc, length, take, drop, get_or}
use Rattle.std.specs.Prelude.{◌↔◌, slice_get, IsTrue}
use Rattle.std.proofs.lemmas.Bool.{cases_lt}
use Rattle.der_base.specs.declared.header.Class.{Class}
use Rattle.der_base.specs.declared.header.Class.TheVariants.{Universal, Application, ContextSpecific, Private}
use Rattle.der_base.specs.Octets.{class_number, constructed_bit, leading_bits, groups}
use Rattle.der_base.proofs.Octets.Identifiers.{identifier_long, identifier_short}
use Rattle.der_cursor.specs.Elements.{IsNext}
use Rattle.std.proofs.lemmas.List.{take_all}

pub class_same : (c c' : Class) → class_number c ≡ class_number c' → c ≡ c'
class_same Universal Universal e = refl
class_same Application Application e = refl
class_same ContextSpecific ContextSpecific e = refl
class_same Private Private e = refl
class_same _ _ e = absurd (omega (arith, e))

bit_small : (p : Bool) → constructed_bit p < 2
bit_small true = omega arith
bit_small false = omega arith

octet_is : (b n k : ℕ) (c : Class) → b < 256 → n < 31 → b / 64 ≡ class_number c → b % 32 ≡ n → (p : Bool) × (b ≡ leading_bits c p + n)
octet_is b n k c h hn hc hm = ⊎_elim
    (λ l. (false, omega (arith, h, hn, hc, hm, l)))
    (λ l. (true, omega (arith, h, hn, hc, hm, l)))
    (cases_lt (b / 32 % 2) 1)

of_octet : (c : Class) (p : Bool) (n : ℕ) → n < 31 → ((leading_bits c p + n) / 64 ≡ class_number c) × ((leading_bits c p + n) % 32 ≡ n)
of_octet c p n h = (omega (arith, h, bit_small p), omega (arith, h, bit_small p))

first_is : (i : List ℕ) (b : ℕ) → slice_get i 0 ≡ Some b → (rest : List ℕ) × (i ≡ b ∷ rest)
first_is [] b e = cc
first_is (a ∷ rest) b e = let f : a ≡ b = cc in (rest, ap (λ x. x ∷ rest) f)

pub next_by_first : (c : Class) (n b : ℕ) (i : List ℕ) → n < 31 → b < 256 → slice_get i 0 ≡ Some b → ((b / 64 ≡ class_number c) × (b % 32 ≡ n)) ↔ IsNext c n i
next_by_first c n b i hn hb e =
    let f = first_is i b e in (
      (λ h. let o = octet_is b n 0 c hb hn h.0 h.1 in (o.0, f.0, f.1 ∙ ap (λ x. x ∷ f.0) o.1 ∙ sym (ap (λ w. w ++ f.0) (identifier_short c o.0 n hn)))),
      (λ h. let q : b ∷ f.0 ≡ (leading_bits c h.0 + n) ∷ h.1 = sym f.1 ∙ h.2 ∙ ap (λ w. w ++ h.1) (identifier_short c h.0 n hn) in
          let r : b ≡ leading_bits c h.0 + n = cc in rw r (of_octet c h.0 n hn)),
    )

pub none_is_next : (c : Class) (n : ℕ) (i : List ℕ) → n < 31 → slice_get i 0 ≡ None → ¬ IsNext c n i
none_is_next c n [] h e (p, rest, q) = absurd (let r : [] ≡ (leading_bits c p + n) ∷ rest = q ∙ ap (λ w. w ++ rest) (identifier_short c p n h) in cc)
none_is_next c n (a ∷ w) h e g = cc

-- a list by its first element and the others
pub parts : (i : List ℕ) → 1 ≤ length i → i ≡ get_or i 0 0 ∷ take (length i - 1) (drop 1 i)
parts [] h = absurd (omega (arith, h))
parts (b ∷ w) h = ap (λ x. b ∷ x) (sym (take_all (suc (length w) - 1) w (omega arith)))

pub nothing : (i : List ℕ) → length i < 1 → i ≡ []
nothing [] h = refl
nothing (b ∷ w) h = absurd (omega (arith, h))

-- A number of 31 or more has its own octets after the first.
module _ (c : Class) (n : ℕ) (h : 31 ≤ n) where
  long_next : (b : ℕ) (w : List ℕ) → b < 256 → ((b / 64 ≡ class_number c) × (b % 32 ≡ 31)) × ((rest : List ℕ) × (w ≡ groups n ++ rest)) → IsNext c n (b ∷ w)
  long_next b w hb (q, (rest, e)) = ⊎_elim
      (λ l. (false, rest, ap (λ x. x ∷ w) (omega (arith, hb, q.0, q.1, l)) ∙ ap (λ x. (leading_bits c false + 31) ∷ x) e ∙ sym (ap (λ x. x ++ rest) (identifier_long c false n h))))
      (λ l. (true, rest, ap (λ x. x ∷ w) (omega (arith, hb, q.0, q.1, l)) ∙ ap (λ x. (leading_bits c true + 31) ∷ x) e ∙ sym (ap (λ x. x ++ rest) (identifier_long c true n h))))
      (cases_lt (b / 32 % 2) 1)

  next_long : (b : ℕ) (w : List ℕ) → IsNext c n (b ∷ w) → ((b / 64 ≡ class_number c) × (b % 32 ≡ 31)) × ((rest : List ℕ) × (w ≡ groups n ++ rest))
  next_long b w (p, rest, q) =
      let e : b ∷ w ≡ (leading_bits c p + 31) ∷ (groups n ++ rest) = q ∙ ap (λ x. x ++ rest) (identifier_long c p n h) in
      let f : b ≡ leading_bits c p + 31 = cc in
      let g : w ≡ groups n ++ rest = cc in
      ((omega (arith, f, bit_small p), omega (arith, f, bit_small p)), (rest, g))

  -- the test of the first octet passes, and that of the others decides
  pub first_passes : {b : ℕ} {w i : List ℕ} (r s : Bool) → IsTrue r ↔ ((b / 64 ≡ class_number c) × (b % 32 ≡ 31)) → r ≡ true → IsTrue s ↔ ((rest : List ℕ) × (w ≡ groups n ++ rest)) → b < 256 → i ≡ b ∷ w
      → IsTrue s ↔ IsNext c n i
  first_passes {b = b} {w = w} r s p q g hb e = rw e ((λ t. long_next b w hb (p.0 q, g.0 t)), (λ z. g.1 (next_long b w z).1))

  -- it doesn't
  pub first_fails : {b : ℕ} {w i : List ℕ} (r : Bool) → IsTrue r ↔ ((b / 64 ≡ class_number c) × (b % 32 ≡ 31)) → r ≡ false → i ≡ b ∷ w → IsTrue r ↔ IsNext c n i
  first_fails {b = b} {w = w} r p q e = rw e ((λ t. absurd (let f : true ≡ false = sym t ∙ q in cc)), (λ z. p.1 (next_long b w z).0))

  pub no_first : {i : List ℕ} → i ≡ [] → IsTrue false ↔ IsNext c n i
  no_first e = rw e ((λ t. absurd (let f : true ≡ false = sym t in cc)), (λ (p, rest, q). absurd (let r : [] ≡ (leading_bits c p + 31) ∷ (groups n ++ rest) = q ∙ ap (λ x. x ++ rest) (identifier_long c p n h) in cc)))
