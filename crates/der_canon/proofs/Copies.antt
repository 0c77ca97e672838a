-- Octets that are written at the start of a buffer.
use Rattle.std.proofs.Common.{◌≡◌, ℕ, zero, suc, ◌≤◌, ◌⊎◌, min, List, [], ◌∷◌, ◌++◌, length, take, drop, take-take, refl, sym, ap, ◌∙◌, arith, inl, inr}
use Rattle.std.proofs.lemmas.List.{take_all, drop_all, take-append-le}
use Rattle.der_elements.specs.Check.Overlay.{overlay}

-- those that fit, and what the buffer held after them
pub overlay_start : (xs ys : List ℕ) → overlay xs 0 ys ≡ take (length xs) ys ++ drop (length ys) xs
overlay_start [] [] = refl
overlay_start [] (y ∷ ys) = refl
overlay_start (x ∷ xs) [] = refl
overlay_start (x ∷ xs) (y ∷ ys) = ap (λ v. y ∷ v) (overlay_start xs ys)

either : (n m : ℕ) → (n ≤ m) ⊎ (m ≤ n)
either zero m = inl (omega arith)
either (suc n) zero = inr (omega arith)
either (suc n) (suc m) = elim (either n m) [ inl h ↦ inl (omega (arith, h)) | inr h ↦ inr (omega (arith, h)) ]

-- as many of them as fit
pub front_written : (xs ys : List ℕ) (n : ℕ) → n ≡ min (length ys) (length xs) → take n ys ++ drop n xs ≡ overlay xs 0 ys
front_written xs ys n e =
    elim (either (length ys) (length xs)) [
      | inl all ↦ (
          let q : n ≡ length ys = omega (arith, e, all) in
          rw q (ap (λ v. v ++ drop (length ys) xs) (take_all (length ys) ys (omega arith) ∙ sym (take_all (length xs) ys all)) ∙ sym (overlay_start xs ys))
          )
      | inr few ↦ (
          let q : n ≡ length xs = omega (arith, e, few) in
          rw q (ap (λ v. take (length xs) ys ++ v) (drop_all (length xs) xs (omega arith) ∙ sym (drop_all (length ys) xs few)) ∙ sym (overlay_start xs ys))
          )
    ]

-- all of them are in front, if there is room
pub take-overlay : (xs ys : List ℕ) → length ys ≤ length xs → take (length ys) (overlay xs 0 ys) ≡ ys
take-overlay xs [] h = refl
take-overlay [] (y ∷ ys) h = absurd (omega arith)
take-overlay (x ∷ xs) (y ∷ ys) h = ap (λ v. y ∷ v) (take-overlay xs ys (omega arith))

length-overlay : (xs ys : List ℕ) → length (overlay xs 0 ys) ≡ length xs
length-overlay [] ys = refl
length-overlay (x ∷ xs) [] = refl
length-overlay (x ∷ xs) (y ∷ ys) = ap (λ k. suc k) (length-overlay xs ys)

-- and so they are in front of a vector whose slice the buffer was
pub kept_front : (old out more octets : List ℕ) (n len : ℕ) → out ≡ overlay old 0 octets → n ≡ length octets → n ≤ length old → n ≤ len → take n (take len (out ++ more)) ≡ octets
kept_front old out more octets n len is e fits below =
    let size : length out ≡ length old = ap length is ∙ length-overlay old octets in
    take-take n len (out ++ more) below ∙ take-append-le n out more (omega (arith, size)) ∙ ap (take n) is ∙ ap (λ k. take k (overlay old 0 octets)) e ∙ take-overlay old octets (omega (arith, e))
