-- Contents of BIT STRINGs that are the same bits.
use Rattle.std.proofs.Common.{◌≡◌, ℕ, ◌-◌, ◌%◌, ◌^◌, ◌≤◌, min, List, [], ◌∷◌, ◌++◌, drop, get_or, length, refl, sym, ap, subst, ◌∙◌, arith, length-append}
use Rattle.std.specs.Prelude.{IsTrue, ◌↔◌, ◌==◌}
use Rattle.std.proofs.lemmas.Bool.Decides.{Decides-eqb}
use Rattle.der_writer.specs.Octets.{bit_octets, cleared}
use Rattle.der_writer.proofs.Bits.{bits_of}

snoc_same : (v w : List ℕ) (a b : ℕ) → v ++ a ∷ [] ≡ w ++ b ∷ [] → (v ≡ w) × (a ≡ b)
snoc_same [] [] a b e = (refl, ap (λ l. get_or l 0 0) e)
snoc_same [] (d ∷ w) a b e = absurd (omega (arith, ap length e, length-append w (b ∷ [])))
snoc_same (c ∷ v) [] a b e = absurd (omega (arith, ap length e, length-append v (a ∷ [])))
snoc_same (c ∷ v) (d ∷ w) a b e =
    let first : c ≡ d = ap (λ l. get_or l 0 0) e in
    let rest = snoc_same v w a b (ap (drop 1) e) in
    (ap (λ x. x ∷ v) first ∙ ap (λ l. d ∷ l) rest.0, rest.1)

-- the same unused bits, octets and last octet
pub bits_same : (u t a b : ℕ) (x y v w : List ℕ) → x ≡ v ++ a ∷ [] → y ≡ w ++ b ∷ [] → min u 7 ≡ min t 7 → v ≡ w
    → a - a % 2 ^ min u 7 ≡ b - b % 2 ^ min u 7 → bit_octets u x ≡ bit_octets t y
bits_same u t a b x y v w is also unused front last =
    let k = min u 7 in
    sym (bits_of u k a (a - a % 2 ^ k) x v refl refl is) ∙ ap (λ l. k ∷ (l ++ (a - a % 2 ^ k) ∷ [])) front
    ∙ ap (λ c. k ∷ (w ++ c ∷ [])) last ∙ bits_of t k b (b - b % 2 ^ k) y w unused refl also

-- and back
pub same_bits : (u t a b : ℕ) (x y v w : List ℕ) → x ≡ v ++ a ∷ [] → y ≡ w ++ b ∷ [] → bit_octets u x ≡ bit_octets t y
    → (min u 7 ≡ min t 7) × (v ≡ w) × (a - a % 2 ^ min u 7 ≡ b - b % 2 ^ min t 7)
same_bits u t a b x y v w is also e =
    let whole = bits_of u (min u 7) a (a - a % 2 ^ min u 7) x v refl refl is ∙ e ∙ sym (bits_of t (min t 7) b (b - b % 2 ^ min t 7) y w refl refl also) in
    let rest = snoc_same v w _ _ (ap (drop 1) whole) in
    (ap (λ l. get_or l 0 0) whole, rest.0, rest.1)

cleared_some : (u b : ℕ) (w : List ℕ) → 1 ≤ length (cleared u (b ∷ w))
cleared_some u b [] = omega arith
cleared_some u b (c ∷ w) = omega arith

-- no octets
pub none_same : (u t : ℕ) (x y : List ℕ) → length x ≡ 0 → length y ≡ 0 → bit_octets u x ≡ bit_octets t y
none_same u t [] [] h k = refl
none_same u t (b ∷ x) y h k = absurd (omega (arith, h))
none_same u t [] (b ∷ y) h k = absurd (omega (arith, k))

pub none_other : (u t : ℕ) (x y : List ℕ) → length x ≡ 0 → bit_octets u x ≡ bit_octets t y → length y ≡ 0
none_other u t [] [] h e = refl
none_other u t [] (b ∷ y) h e = absurd (omega (arith, ap length e, cleared_some (min t 7) b y))
none_other u t (b ∷ x) y h e = absurd (omega (arith, h))

pub some_other : (u t : ℕ) (x y : List ℕ) → 1 ≤ length x → length y ≡ 0 → ¬ (bit_octets u x ≡ bit_octets t y)
some_other u t x y some none e = absurd (let k : length x ≡ 0 = none_other t u y x none (sym e) in omega (arith, k, some))

-- by the tests of the code
pub same_when : (u t a b k x y : ℕ) (v w p q : List ℕ) → k ≡ min u 7 → k ≡ min t 7 → v ≡ w → p ≡ v ++ a ∷ [] → q ≡ w ++ b ∷ [] → x ≡ a - a % 2 ^ k → y ≡ b - b % 2 ^ k
    → IsTrue (x == y) ↔ (bit_octets u p ≡ bit_octets t q)
same_when u t a b k x y v w p q ku kt front is also xa yb = (
  (λ e.
      let P : ℕ → Type 0 = λ n. a - a % 2 ^ n ≡ b - b % 2 ^ n in
      let last : a - a % 2 ^ k ≡ b - b % 2 ^ k = sym xa ∙ (Decides-eqb x y).0 e ∙ yb in
      bits_same u t a b p q v w is also (sym ku ∙ kt) front (subst P ku last)),
  (λ e.
      let last : a - a % 2 ^ min u 7 ≡ b - b % 2 ^ min t 7 = (same_bits u t a b p q v w is also e).2 in
      (Decides-eqb x y).1 (xa ∙ ap (λ n. a - a % 2 ^ n) ku ∙ last ∙ ap (λ n. b - b % 2 ^ n) (sym kt) ∙ sym yb)),
)
