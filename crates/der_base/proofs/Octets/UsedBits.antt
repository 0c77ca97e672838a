-- The number of the used bits of a BIT STRING, by the octets that hold them (X.690 8.6).
use Rattle.std.proofs.Common.{◌≡◌, ℕ, suc, ◌+◌, ◌-◌, ◌*◌, ◌/◌, ◌%◌, ◌^◌, ◌<◌, ◌≤◌, List, [], ◌∷◌, ◌++◌, length, take, drop, refl, sym, ap, subst, ◌∙◌, arith}
use Rattle.std.proofs.Math.Nat.{div-le_self, pow-le-pow_right, div-div-eq-div-mul, div-eq_of_lt-le, mul_assoc, mul_comm, pow-suc, mul-le-mul_right}
use Rattle.std.proofs.lemmas.List.{take-append-drop, length-take-le, length-drop}
use Rattle.std.proofs.lemmas.Nat.{pow-add}
use Rattle.der_base.specs.Octets.{bits_value, number, number_from}
use Rattle.der_base.proofs.AllByRecursion.{Each}
use Rattle.der_base.proofs.Octets.Numbers.{powers}
use Rattle.der_base.proofs.Octets.Shortest.{IsOctet, number_below}
use Rattle.der_base.proofs.Octets.ShortestLengths.{bytes_front}

number_append : (n : ℕ) (v z : List ℕ) → number_from n (v ++ z) ≡ number_from (number_from n v) z
number_append n [] z = refl
number_append n (b ∷ v) z = number_append (n * 256 + b) v z

number_at_least : (m : ℕ) (z : List ℕ) → m * 256 ^ length z ≤ number_from m z
number_at_least m [] = omega arith
number_at_least m (b ∷ z) =
    let i : (m * 256 + b) * 256 ^ length z ≤ number_from (m * 256 + b) z = number_at_least (m * 256 + b) z in
    let f : m * 256 * 256 ^ length z ≤ (m * 256 + b) * 256 ^ length z = mul-le-mul_right (256 ^ length z) (omega arith) in
    let e : m * 256 * 256 ^ length z ≡ m * (256 ^ length z * 256) = rw (mul_assoc m 256 (256 ^ length z), mul_comm 256 (256 ^ length z)) refl in
    rw (pow-suc 256 (length z)) (omega (arith, i, f, e))

-- the octets in front are what is left where those behind are divided away
number_of_front : (v z : List ℕ) → Each IsOctet z → number (v ++ z) / 256 ^ length z ≡ number v
number_of_front v z are =
    let h : number v * 256 ^ length z ≤ number (v ++ z) = rw (number_append 0 v z) (number_at_least (number v) z) in
    let l : number (v ++ z) < suc (number v) * 256 ^ length z = rw (number_append 0 v z) (number_below (number v) z are) in
    div-eq_of_lt-le (256 ^ length z) h (omega (arith, l))

bits_of_front : (u : ℕ) (v z : List ℕ) → Each IsOctet z → length z ≡ u / 8 → number v / 2 ^ (u % 8) ≡ bits_value u (v ++ z)
bits_of_front u v z are e =
    let p : 2 ^ u ≡ 256 ^ length z * 2 ^ (u % 8) = ap (λ k. 2 ^ k) (omega (arith, e)) ∙ pow-add 2 (8 * length z) (u % 8) ∙ ap (λ k. k * 2 ^ (u % 8)) (sym (powers (length z))) in
    ap (λ k. k / 2 ^ (u % 8)) (sym (number_of_front v z are)) ∙ div-div-eq-div-mul (number (v ++ z)) (256 ^ length z) (2 ^ (u % 8)) ∙ ap (λ k. number (v ++ z) / k) (sym p)

each_back : (v z : List ℕ) → Each IsOctet (v ++ z) → Each IsOctet z
each_back [] z h = h
each_back (b ∷ v) z h = each_back v z h.1

-- where q octets are unused whole
module _ (u q : ℕ) (w : List ℕ) (are : Each IsOctet w) (is : q ≡ u / 8) (most : q ≤ length w) where
  abbrev used : List ℕ
  used = take (length w - q) w

  whole : used ++ drop (length w - q) w ≡ w
  whole = take-append-drop (length w - q) w

  pub used_length : length used ≡ length w - q
  used_length = length-take-le (length w - q) w (omega arith)

  pub used_value : number used / 2 ^ (u % 8) ≡ bits_value u w
  used_value =
      let back : length (drop (length w - q) w) ≡ u / 8 = omega (arith, is, most, length-drop (length w - q) w) in
      bits_of_front u used (drop (length w - q) w) (each_back used (drop (length w - q) w) (subst (Each IsOctet) (sym whole) are)) back ∙ ap (bits_value u) whole

  pub used_fits : length used ≤ 8 → number used < 2 ^ 64
  used_fits few =
      let b = number_below 0 used (bytes_front used (drop (length w - q) w) (subst (Each IsOctet) (sym whole) are)) in
      let m : 256 ^ length used ≤ 256 ^ 8 = pow-le-pow_right {n = 256} (omega arith) {i = length used} {j = 8} few in
      omega (arith, b, m)

  pub bits_fit : length used ≤ 8 → bits_value u w < 2 ^ 64
  bits_fit few = subst (λ n. n < 2 ^ 64) used_value (let l = div-le_self (number used) (2 ^ (u % 8)) in let f = used_fits few in omega (arith, l, f))
