-- Bits that have names are read as the bits without those of 0 at the end.
use Rattle.std.proofs.Common.{◌≡◌, ℕ, zero, suc, ◌+◌, ◌*◌, ◌-◌, ◌/◌, ◌%◌, ◌^◌, ◌<◌, ◌≤◌, ◌==◌, ◌⊎◌, ⊎_elim, min, Bool, true, false, List, [], ◌∷◌, ◌++◌, length, get_or, refl, sym, ap, subst, ◌∙◌, arith, inl, inr, length-append}
use Rattle.std.specs.Prelude.{◌&&◌, if◌then◌else◌}
use Rattle.std.specs.Int.{w8, bit_at, trailing_zeros}
use Rattle.std.proofs.lemmas.Bool.Decides.{nat_tests}
use Rattle.std.proofs.lemmas.List.{get_or_at}
use Rattle.std.proofs.lemmas.Nat.Bits.{bit_at-trailing_zeros}
use Rattle.der_base.specs.declared.header.Class.TheVariants.{Universal}
use Rattle.der_base.specs.Leaf.{HasZeroUnusedBits}
use Rattle.der_cursor.specs.Formats.{Required, BitString}
use Rattle.der_values.specs.Kinds.{is_bit_set}
use Rattle.der_writer.specs.Fields as put
use Rattle.der_writer.specs.Octets.{bit_octets, cleared, last_zero_bits, named_bits, without_last_zeros}
use Rattle.der_writer.proofs.Bits.{bits_strict}
use Rattle.der_writer.specs.Formats.Encodings.{AreOctets, DropsLastZeros, Encodes}
use Rattle.der_writer.proofs.FormatsLaws.Values.{bits_encode}

-- Octets.

neither : (y : Bool) → (y && false) ≡ false
neither true = refl
neither false = refl

nil_or : (b : ℕ) (rest w : List ℕ) (k : ℕ) → ((j : ℕ) → get_or rest j 0 ≡ get_or w j 0)
    → get_or (if b == 0 && length rest == 0 then [] else b ∷ rest) k 0 ≡ get_or (b ∷ w) k 0
nil_or zero [] w zero same = refl
nil_or zero [] w (suc k) same = same k
nil_or (suc b) [] w k same = let e : (suc b == 0) ≡ false = grind (arith, nat_tests) in rw e (more k)
  where
    more : (k : ℕ) → get_or (suc b ∷ []) k 0 ≡ get_or (suc b ∷ w) k 0
    more zero = refl
    more (suc k) = same k
nil_or b (x ∷ rest) w k same = let e : (length (x ∷ rest) == 0) ≡ false = grind (arith, nat_tests) in rw (e, neither (b == 0)) (more k)
  where
    more : (k : ℕ) → get_or (b ∷ x ∷ rest) k 0 ≡ get_or (b ∷ w) k 0
    more zero = refl
    more (suc k) = same k

same_octets : (w : List ℕ) (k : ℕ) → get_or (without_last_zeros w) k 0 ≡ get_or w k 0
same_octets [] k = refl
same_octets (b ∷ w) k = nil_or b (without_last_zeros w) w k (same_octets w)

-- a last octet that isn't 0
record EndsIn (v : List ℕ) : Type 0 where
  front : List ℕ
  last : ℕ
  is : v ≡ front ++ last ∷ []
  some : 0 < last
  octet : last < 256

-- none are left, or the last of them isn't 0
ends : (w : List ℕ) → AreOctets w → (without_last_zeros w ≡ []) ⊎ EndsIn (without_last_zeros w)
ends [] h = inl refl
ends (b ∷ w) h = ⊎_elim (λ none. first b none h.0) (λ some. inr (further b some)) (ends w h.1)
  where
    first : (b : ℕ) → without_last_zeros w ≡ [] → b < 256 → (without_last_zeros (b ∷ w) ≡ []) ⊎ EndsIn (without_last_zeros (b ∷ w))
    first zero none few = inl (rw none refl)
    first (suc b) none few =
        let e : (suc b == 0) ≡ false = grind (arith, nat_tests) in
        inr (record { front = []; last = suc b; is = rw (none, e) refl; some = omega arith; octet = few })

    further : (b : ℕ) → EndsIn (without_last_zeros w) → EndsIn (without_last_zeros (b ∷ w))
    further b h =
        let size : 1 ≤ length (without_last_zeros w) = omega (arith, ap length h.is, length-append h.front (h.last ∷ [])) in
        let e : (length (without_last_zeros w) == 0) ≡ false = grind (arith, nat_tests) in
        record { front = b ∷ h.front; last = h.last; is = rw (e, neither (b == 0)) (ap (λ l. b ∷ l) h.is); some = h.some; octet = h.octet }

-- Bits.

low_bits : (z x : ℕ) → z < 8 → ((i : ℕ) → i < z → bit_at x i ≡ 0) → x % 2 ^ z ≡ 0
low_bits zero x few h = omega arith
low_bits (suc zero) x few h = let a : x / 1 % 2 ≡ 0 = h 0 (omega arith) in omega (arith, a)
low_bits (suc (suc zero)) x few h =
    let a : x / 1 % 2 ≡ 0 = h 0 (omega arith) in let b : x / 2 % 2 ≡ 0 = h 1 (omega arith) in omega (arith, a, b)
low_bits (suc (suc (suc zero))) x few h =
    let a : x / 1 % 2 ≡ 0 = h 0 (omega arith) in let b : x / 2 % 2 ≡ 0 = h 1 (omega arith) in let c : x / 4 % 2 ≡ 0 = h 2 (omega arith) in omega (arith, a, b, c)
low_bits (suc (suc (suc (suc zero)))) x few h =
    let a : x / 1 % 2 ≡ 0 = h 0 (omega arith) in let b : x / 2 % 2 ≡ 0 = h 1 (omega arith) in let c : x / 4 % 2 ≡ 0 = h 2 (omega arith) in let d : x / 8 % 2 ≡ 0 = h 3 (omega arith) in omega (arith, a, b, c, d)
low_bits (suc (suc (suc (suc (suc zero))))) x few h =
    let a : x / 1 % 2 ≡ 0 = h 0 (omega arith) in let b : x / 2 % 2 ≡ 0 = h 1 (omega arith) in let c : x / 4 % 2 ≡ 0 = h 2 (omega arith) in let d : x / 8 % 2 ≡ 0 = h 3 (omega arith) in let e : x / 16 % 2 ≡ 0 = h 4 (omega arith) in omega (arith, a, b, c, d, e)
low_bits (suc (suc (suc (suc (suc (suc zero)))))) x few h =
    let a : x / 1 % 2 ≡ 0 = h 0 (omega arith) in let b : x / 2 % 2 ≡ 0 = h 1 (omega arith) in let c : x / 4 % 2 ≡ 0 = h 2 (omega arith) in let d : x / 8 % 2 ≡ 0 = h 3 (omega arith) in let e : x / 16 % 2 ≡ 0 = h 4 (omega arith) in let f : x / 32 % 2 ≡ 0 = h 5 (omega arith) in omega (arith, a, b, c, d, e, f)
low_bits (suc (suc (suc (suc (suc (suc (suc zero))))))) x few h =
    let a : x / 1 % 2 ≡ 0 = h 0 (omega arith) in let b : x / 2 % 2 ≡ 0 = h 1 (omega arith) in let c : x / 4 % 2 ≡ 0 = h 2 (omega arith) in let d : x / 8 % 2 ≡ 0 = h 3 (omega arith) in let e : x / 16 % 2 ≡ 0 = h 4 (omega arith) in let f : x / 32 % 2 ≡ 0 = h 5 (omega arith) in let g : x / 64 % 2 ≡ 0 = h 6 (omega arith) in omega (arith, a, b, c, d, e, f, g)
low_bits (suc (suc (suc (suc (suc (suc (suc (suc z)))))))) x few h = absurd (omega arith)

zero_bits_end : (v front : List ℕ) (b : ℕ) → v ≡ front ++ b ∷ [] → last_zero_bits v ≡ trailing_zeros w8 b
zero_bits_end v [] b e = rw e refl
zero_bits_end v (a ∷ []) b e = rw e refl
zero_bits_end v (a ∷ c ∷ front) b e = rw e (zero_bits_end (c ∷ front ++ b ∷ []) (c ∷ front) b refl)

cleared_end : (u : ℕ) (front : List ℕ) (b : ℕ) → b % 2 ^ u ≡ 0 → cleared u (front ++ b ∷ []) ≡ front ++ b ∷ []
cleared_end u [] b e = let k : b - b % 2 ^ u ≡ b = omega (arith, e) in ap (λ x. x ∷ []) k
cleared_end u (a ∷ []) b e = ap (λ l. a ∷ l) (cleared_end u [] b e)
cleared_end u (a ∷ c ∷ front) b e = ap (λ l. a ∷ l) (cleared_end u (c ∷ front) b e)

bits_some : (u : ℕ) (v : List ℕ) → 1 ≤ length v → bit_octets u v ≡ min u 7 ∷ cleared (min u 7) v
bits_some u [] some = absurd (omega arith)
bits_some u (b ∷ v) some = refl

-- the last bit that is used
last_bit : (front : List ℕ) (b u : ℕ) → u ≤ 7 → b / 2 ^ u % 2 ≡ 1 → is_bit_set (8 * length (front ++ b ∷ []) - u - 1) (front ++ b ∷ []) ≡ true
last_bit front b u few one =
    let i = 8 * length (front ++ b ∷ []) - u - 1 in
    let size : length (front ++ b ∷ []) ≡ length front + 1 = length-append front (b ∷ []) in
    let place : length front ≡ i / 8 = omega (arith, size, few) in
    let bit : 7 - i % 8 ≡ u = omega (arith, size, few) in
    let octet : get_or (front ++ b ∷ []) (i / 8) 0 ≡ b = get_or_at front b [] 0 (i / 8) place in
    let is : get_or (front ++ b ∷ []) (i / 8) 0 / 2 ^ (7 - i % 8) % 2 ≡ 1 = ap (λ j. get_or (front ++ b ∷ []) (i / 8) 0 / 2 ^ j % 2) bit ∙ ap (λ x. x / 2 ^ u % 2) octet ∙ one in
    ap (λ x. x == 1) is

-- all are dropped
none_left : (w : List ℕ) → without_last_zeros w ≡ [] → DropsLastZeros w 0 [] × Encodes (Required BitString) (0, []) (put.NamedBits w)
none_left w none =
    let same : (i : ℕ) → is_bit_set i [] ≡ is_bit_set i w = λ i. ap (λ x. x / 2 ^ (7 - i % 8) % 2 == 1) (ap (λ l. get_or l (i / 8) 0) (sym none) ∙ same_octets w (i / 8)) in
    (record { same = same; last = λ some. absurd (some refl) }, rw none (bits_encode 0 [] refl))

some_left : (w : List ℕ) → EndsIn (without_last_zeros w)
    → (u : ℕ) × (v : List ℕ) × DropsLastZeros w u v × Encodes (Required BitString) (u, v) (put.NamedBits w)
some_left w h =
    let v = without_last_zeros w in
    let u = trailing_zeros w8 h.last in
    let bits = bit_at-trailing_zeros w8 h.last h.some h.octet in
    let few : u < 8 = bits.0 in
    let low : h.last % 2 ^ u ≡ 0 = low_bits u h.last few bits.2 in
    let zeros : last_zero_bits v ≡ u = zero_bits_end v h.front h.last h.is in
    let least : min (last_zero_bits v) 7 ≡ u = omega (arith, zeros, few) in
    let size : 1 ≤ length v = omega (arith, ap length h.is, length-append h.front (h.last ∷ [])) in
    let content : named_bits w ≡ u ∷ v =
    bits_some (last_zero_bits v) v size ∙ ap (λ j. j ∷ cleared j v) least ∙ ap (λ l. u ∷ cleared u l) h.is ∙ ap (λ l. u ∷ l) (cleared_end u h.front h.last low ∙ sym h.is) in
    let last : is_bit_set (8 * length v - u - 1) v ≡ true =
    ap (λ l. is_bit_set (8 * length l - u - 1) l) h.is ∙ last_bit h.front h.last u (omega (arith, few)) bits.1 in
    let strict = bits_strict (last_zero_bits v) v in
    let form : u ∷ v ≡ strict.0 ∷ strict.1 = sym content ∙ strict.2 in
    let zero : HasZeroUnusedBits u v = go (strict.0) u (strict.1) v form strict.3 in
    let P : List ℕ → Type 0 = λ l. Encodes (Required BitString) (u, v) (put.primitive Universal 3 l) in
    (u, v, record { same = λ i. ap (λ x. x / 2 ^ (7 - i % 8) % 2 == 1) (same_octets w (i / 8)); last = λ some. last }, subst P (sym content) (bits_encode u v zero))
  where
    go : (k u : ℕ) (x v : List ℕ) → u ∷ v ≡ k ∷ x → HasZeroUnusedBits k x → HasZeroUnusedBits u v
    go k u x v e h =
        let a : k ≡ u = cc in
        let b : x ≡ v = cc in
        subst (λ j. HasZeroUnusedBits j v) a (subst (HasZeroUnusedBits k) b h)

pub named_bits_encode : (w : List ℕ) → AreOctets w → (u : ℕ) × (v : List ℕ) × DropsLastZeros w u v × Encodes (Required BitString) (u, v) (put.NamedBits w)
named_bits_encode w octets = ⊎_elim (λ none. let h = none_left w none in (0, [], h.0, h.1)) (λ some. some_left w some) (ends w octets)
