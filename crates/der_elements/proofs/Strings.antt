-- The octets of a string that may hold an element.
use Rattle.std.proofs.Common.{◌≡◌, ℕ, false, List, [], ◌∷◌, ◌++◌, Option, Some, None, refl, sym, ap, subst, ◌∙◌, arith, inl, inr}
use Rattle.std.specs.Borrow.{Bor}
use Rattle.std.specs.Prelude.{MatchOption}
use Rattle.der_base.specs.declared.header.Class.TheVariants.{Universal}
use Rattle.der_elements.specs.declared.element.Element.{Element}
use Rattle.der_elements.specs.Visits.{IsStringFront}
use Rattle.der_elements.specs.Reading.{FindsString}

three_front : (t : ℕ) (u : List ℕ) → t ≡ 3 → IsStringFront t u → u ≡ 0 ∷ []
three_front t u n (inl z) = let e : t ≡ 4 = z.0 in absurd (omega (arith, n, e))
three_front t u n (inr z) = z.1

-- of a BIT STRING
pub in_bit_string : (e : Element) (content : Bor (List ℕ)) (r : Option (Bor (List ℕ))) → e.constructed ≡ false → e.class ≡ Universal → e.content ≡ Some content → e.number ≡ 3
    → MatchOption r ((rest : List ℕ) → content.now ≡ 0 ∷ rest → ⊥) (λ x. content.now ≡ 0 ∷ x.now) → FindsString e r
in_bit_string e content None p u ec n after =
    λ p u. subst (λ c. MatchOption c (Unit {0}) (λ w. (u v : List ℕ) → IsStringFront e.number u → w.now ≡ u ++ v → ⊥)) (sym ec) (λ u v f split. after v (split ∙ ap (λ l. l ++ v) (three_front e.number u n f)))
in_bit_string e content (Some x) p u ec n after = (p, u, subst (λ c. MatchOption c ⊥ (λ w. (u : List ℕ) × IsStringFront e.number u × (w.now ≡ u ++ x.now))) (sym ec) (0 ∷ [], inr (n, refl), after))
