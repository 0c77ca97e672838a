-- Texts that are put one behind the other.
use Rattle.std.proofs.Common.{◌≡◌, ℕ, zero, suc, ◌+◌, ◌-◌, ◌^◌, ◌<◌, ◌≤◌, ◌⊎◌, min, List, [], ◌∷◌, ◌++◌, length, refl, sym, ap, ◌∙◌, arith, inl, inr, length-append}
use Rattle.der_elements.specs.Check.Overlay.{overlay}
use Rattle.der_elements.proofs.CheckLaws.Overlays.{overlay_none, overlay_more, overlay_behind}
use Rattle.c_values.specs.Texts.{PutsText}

length-overlay : (xs : List ℕ) (n : ℕ) (ys : List ℕ) → length (overlay xs n ys) ≡ length xs
length-overlay [] n ys = refl
length-overlay (x ∷ xs) (suc n) ys = ap (λ k. suc k) (length-overlay xs n ys)
length-overlay (x ∷ xs) zero [] = refl
length-overlay (x ∷ xs) zero (y ∷ ys) = ap (λ k. suc k) (length-overlay xs 0 ys)

either : (n m : ℕ) → (n ≤ m) ⊎ (m ≤ n)
either zero m = inl (omega arith)
either (suc n) zero = inr (omega arith)
either (suc n) (suc m) = elim (either n m) [ inl h ↦ inl (omega (arith, h)) | inr h ↦ inr (omega (arith, h)) ]

-- a place that stopped at the greatest number is behind the buffer, as the one that it stands for
overlay_stopped : (a s t : List ℕ) (i j : ℕ) → length a ≤ 2 ^ 64 - 1 → j ≡ min (i + length s) (2 ^ 64 - 1)
    → overlay (overlay a i s) j t ≡ overlay a i (s ++ t)
overlay_stopped a s t i j h e =
    elim (either (i + length s) (2 ^ 64 - 1)) [
      | inl small ↦ (let q : j ≡ i + length s = omega (arith, small) in rw q (overlay_more a i s t))
      | inr large ↦ (
          let b = overlay a i s in
          let short : length b ≤ j = omega (arith, large, length-overlay a i s) in
          let short' : length b ≤ i + length s = omega (arith, large, length-overlay a i s) in
          sym (overlay_behind b j t short) ∙ overlay_behind b (i + length s) t short' ∙ overlay_more a i s t
          )
    ]

pub puts_none : (a : List ℕ) (i : ℕ) → i < 2 ^ 64 → PutsText a i [] a i
puts_none a i h = (overlay_none a i, omega arith)

pub puts_more : (a b c s t : List ℕ) (i j k : ℕ) → length a ≤ 2 ^ 64 - 1 → PutsText a i s b j → PutsText b j t c k → PutsText a i (s ++ t) c k
puts_more a b c s t i j k h p q = (
  q.0 ∙ ap (λ x. overlay x j t) p.0 ∙ overlay_stopped a s t i j h p.1,
  omega (arith, p.1, q.1, length-append s t),
)
