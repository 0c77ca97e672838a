-- The parts of strings and of base64, one after another.
use Rattle.std.proofs.Common.{◌≡◌, ℕ, zero, suc, ◌-◌, ◌<◌, ◌≤◌, ◌||◌, cond, false, true, List, [], ◌∷◌, ◌++◌, length, drop, Option, refl, ap, append-nil, ◌∙◌, arith}
use Rattle.std.specs.Prelude.{slice_index}
use Rattle.std.proofs.lemmas.List.{length-append}
use Rattle.der_input.specs.Escapes.{begins_escape, digits_from, has_escape, part_digits, part_size}
use Rattle.der_input.specs.Plain.{begins_break, character_of, characters_from}

pub escape_more : (w : List ℕ) → 0 < length w → has_escape w ≡ (begins_escape w || has_escape (drop 1 w))
escape_more [] some = absurd (omega arith)
escape_more (c ∷ w) some = refl

-- what follows k octets
pub digits_behind : (quote : Option ℕ) (k : ℕ) (w : List ℕ) → k ≤ length w → digits_from quote k w ≡ digits_from quote 0 (drop k w)
digits_behind quote zero w h = refl
digits_behind quote (suc k) [] h = absurd (omega arith)
digits_behind quote (suc k) (c ∷ w) h = digits_behind quote k w (omega (arith, h))

pub digits_beyond : (quote : Option ℕ) (k : ℕ) (w : List ℕ) → length w < k → digits_from quote k w ≡ []
digits_beyond quote zero w h = absurd (omega arith)
digits_beyond quote (suc k) [] h = refl
digits_beyond quote (suc k) (c ∷ w) h = digits_beyond quote k w (omega (arith, h))

-- the first part, and the others
pub digits_more : (quote : Option ℕ) (n : ℕ) (w : List ℕ) → 0 < length w → n ≡ part_size quote w → 0 < n → n ≤ length w
    → digits_from quote 0 w ≡ part_digits quote w ++ digits_from quote 0 (drop n w)
digits_more quote n [] some size pos fits = absurd (omega arith)
digits_more quote zero (c ∷ w) some size pos fits = absurd (omega arith)
digits_more quote (suc n) (c ∷ w) some size pos fits =
    let less : part_size quote (c ∷ w) - 1 ≡ n = omega (arith, size) in
    ap (λ k. part_digits quote (c ∷ w) ++ digits_from quote k w) less
    ∙ ap (λ t. part_digits quote (c ∷ w) ++ t) (digits_behind quote n w (omega (arith, fits)))

pub digits_last : (quote : Option ℕ) (n : ℕ) (w : List ℕ) → 0 < length w → n ≡ part_size quote w → length w < n
    → digits_from quote 0 w ≡ part_digits quote w
digits_last quote n [] some size beyond = absurd (omega arith)
digits_last quote zero (c ∷ w) some size beyond = absurd (omega arith)
digits_last quote (suc n) (c ∷ w) some size beyond =
    let less : part_size quote (c ∷ w) - 1 ≡ n = omega (arith, size) in
    ap (λ k. part_digits quote (c ∷ w) ++ digits_from quote k w) less
    ∙ ap (λ t. part_digits quote (c ∷ w) ++ t) (digits_beyond quote n w (omega (arith, beyond)))
    ∙ append-nil (part_digits quote (c ∷ w))

pub characters_break : (w : List ℕ) → 2 ≤ length w → begins_break w ≡ true → characters_from 0 w ≡ characters_from 0 (drop 2 w)
characters_break [] long h = absurd (omega arith)
characters_break (c ∷ []) long h = absurd (omega arith)
characters_break (c ∷ d ∷ w) long h = ap (λ b. cond b (characters_from 0 w) (character_of c ++ characters_from 0 (d ∷ w))) h

pub characters_more : (w : List ℕ) → 0 < length w → begins_break w ≡ false → characters_from 0 w ≡ character_of (slice_index w 0) ++ characters_from 0 (drop 1 w)
characters_more [] some h = absurd (omega arith)
characters_more (c ∷ w) some h = ap (λ b. cond b (characters_from 1 w) (character_of c ++ characters_from 0 w)) h

-- the first part alone is no longer
pub part_within : (quote : Option ℕ) (w : List ℕ) → 0 < length w → length (part_digits quote w) ≤ length (digits_from quote 0 w)
part_within quote [] some = absurd (omega arith)
part_within quote (c ∷ w) some =
    omega (arith, length-append (part_digits quote (c ∷ w)) (digits_from quote (part_size quote (c ∷ w) - 1) w))
