-- Octets that were written in front of others.
use Rattle.std.proofs.Common.{◌≡◌, ℕ, ◌-◌, ◌≤◌, List, [], ◌∷◌, ◌++◌, replicate, length, drop, take, ap, ◌∙◌, sym, arith, append_assoc, length-append}
use Rattle.std.proofs.Math.Seq.{take-append_seam}
use Rattle.std.proofs.lemmas.List.{append-nil, drop_all}
use Rattle.der_values.specs.Octets.Room.{PutsBefore}

-- first y, and then x in front of it
pub puts_both : {a b c x y : List ℕ} {end mid begin : ℕ} → PutsBefore a b end y mid → PutsBefore b c mid x begin → PutsBefore a c end (x ++ y) begin
puts_both {a = a} {x = x} {y = y} {end = end} h k = record {
  begins = omega (arith, h.begins, k.begins, length-append x y);
  octets = k.octets ∙ ap (λ w. x ++ w) h.octets ∙ sym (append_assoc x y (drop end a));
}

pub puts_three : {a b c d x y z : List ℕ} {end mid mid' begin : ℕ} → PutsBefore a b end z mid → PutsBefore b c mid y mid' → PutsBefore c d mid' x begin → PutsBefore a d end (x ++ y ++ z) begin
puts_three {x = x} {y = y} {z = z} h k l = rw (append_assoc x y z) (puts_both (puts_both h k) l)

-- octets that end where the room does are all that is there from their begin on
pub puts_end : {old new w : List ℕ} {end begin : ℕ} → PutsBefore old new end w begin → length old ≤ end → drop begin new ≡ w
puts_end {old = old} {w = w} {end = end} h most = h.octets ∙ ap (λ l. w ++ l) (drop_all end old most) ∙ append-nil w

-- as the slice of all from there on
pub puts_tail : {old new w : List ℕ} {end begin : ℕ} → PutsBefore old new end w begin → length old ≤ end → take (end - begin) (drop begin new) ≡ w
puts_tail {new = new} {w = w} {end = end} {begin = begin} h most =
    let n : length w ≡ end - begin = omega (arith, h.begins) in
    let e : drop begin new ≡ w ++ [] = puts_end h most ∙ sym (append-nil w) in
    rw (e, ← n) (take-append_seam w [])

-- with a 0 behind them, in a room of zeros
pub puts_zero : {old new w : List ℕ} {begin : ℕ} → PutsBefore old new 7 w begin → old ≡ replicate 8 0 → take (8 - begin) (drop begin new) ≡ w ++ 0 ∷ []
puts_zero {old = old} {new = new} {w = w} {begin = begin} h e =
    let k : drop 7 old ≡ 0 ∷ [] = ap (drop 7) e in
    let n : length (w ++ 0 ∷ []) ≡ 8 - begin = omega (arith, h.begins, length-append w (0 ∷ [])) in
    let d : drop begin new ≡ (w ++ 0 ∷ []) ++ [] = h.octets ∙ ap (λ l. w ++ l) k ∙ sym (append-nil (w ++ 0 ∷ [])) in
    rw (d, ← n) (take-append_seam (w ++ 0 ∷ []) [])
