use Rattle.std.proofs.Common.{◌≡◌, ◌∙◌, ℕ, ◌/◌, ◌%◌, ◌==◌, if◌then◌else◌, List, length, take, drop, take_at, length-append, length-drop, length-take-le, Result, Ok, Err, IsErr, MatchResult, inl, inr, refl, sym, ap, subst, arith}
use Rattle.std.proofs.lemmas.Bool.Decides.{eqb_tells}
use Rattle.hex.specs.declared.error.FromHexError.{FromHexError}
use Rattle.hex.specs.declared.error.FromHexError.TheVariants.{InvalidStringLength, OddLength}
use Rattle.hex.specs.Hex.{decode_of, decode_pairs, decode_sized}
use Rattle.der_input.specs.Plain.{digits_of}
use Rattle.der_input.specs.Slices.{SufficeForDigits}
use Rattle.der_input.proofs.Rooms.{end_of}
use Rattle.der_input.proofs.Sizes.{enough_for_digits}
use Rattle.der_input.proofs.slices.decode_hex_into.Goals as goal

-- what is decoded into a slice of half as many octets
sized : (ds : List ℕ) (n : ℕ) → length ds / 2 ≡ n → decode_of ds ≡ decode_sized ds n
sized ds n e = elim (eqb_tells (length ds / 2) n) [
  | inl (t, same) ↦ ap (λ b. if length ds % 2 == 1 then Err OddLength else if b then decode_pairs 0 ds else Err InvalidStringLength) (sym t)
  | inr (t, other) ↦ absurd (other e)
]

clash : {q : Result (Unit {0}) FromHexError} (u : Unit {0}) (e : FromHexError) → q ≡ Ok u → q ≡ Err e → ⊥
clash u e ok err = cc

decoded : (r : Result (List ℕ) FromHexError) (q : Result (Unit {0}) FromHexError) (u : Unit {0}) (out : List ℕ)
    → MatchResult r (λ bytes. (q ≡ Ok tt) × (out ≡ bytes)) (λ e. q ≡ Err e) → q ≡ Ok u → r ≡ Ok out
decoded (Ok bytes) q u out h ok = ap Ok (sym h.1)
decoded (Err e) q u out h ok = absurd (clash u e ok h)

refused : (r : Result (List ℕ) FromHexError) (q : Result (Unit {0}) FromHexError) (x : FromHexError) (out : List ℕ)
    → MatchResult r (λ bytes. (q ≡ Ok tt) × (out ≡ bytes)) (λ e. q ≡ Err e) → q ≡ Err x → IsErr r
refused (Ok bytes) q x out h err = absurd (clash tt x h.0 err)
refused (Err e) q x out h err = refl

pub returns-in_default : goal.returns-in_default
returns-in_default c =
    let none = (λ (h : SufficeForDigits c.args.text.now (length c.args.room.now) (length c.args.octets.now)). absurd (omega (arith, h.0, c.in_default.ensures))) in
    record { decoded = none; enough = enough_for_digits c.args.text.now _ _ _ none }

pub returns-then-octets-size : goal.returns-then-octets-size
returns-then-octets-size c =
    let size = end_of c.args.room.now c.put_digits.new.room (digits_of c.args.text.now) c.in-Some.end c.in-Some.ensures in
    let none = (λ (h : SufficeForDigits c.args.text.now (length c.args.room.now) (length c.args.octets.now)). absurd (omega (arith, h.1, size))) in
    record { decoded = none; enough = enough_for_digits c.args.text.now _ _ _ none }

pub returns-in-Ok-clause-decoded : goal.returns-in-Ok-clause-decoded
returns-in-Ok-clause-decoded c =
    let ds = digits_of c.args.text.now in
    let end = c.in-Some.end in
    let written = take end c.put_digits.new.room in
    let octets = c.args.octets.now in
    let out = c.decode_to_slice.new.out in
    let half = length-take-le (end / 2) octets c.if-octets-size.false in
    let size : length ds ≡ end = end_of c.args.room.now c.put_digits.new.room ds end c.in-Some.ensures in
    let long : length written ≡ end = length-take-le end c.put_digits.new.room c.in-Some.ensures.0 in
    let fill : length out ≡ end / 2 = omega (arith, half, c.decode_to_slice.auto.out) in
    let is = ap decode_of (sym c.in-Some.ensures.1) ∙ sized written (length (take (end / 2) octets)) (omega (arith, long, half)) in (
      (omega (arith, size, c.in-Some.ensures.0, c.put_digits.auto.room), omega (arith, size, fill, length-append out (drop (end / 2) octets), length-drop (end / 2) octets)),
      is ∙ decoded (decode_sized written (length (take (end / 2) octets))) _ _ out c.in-Ok.ensures.value refl ∙ ap Ok (sym (take_at out (drop (end / 2) octets) (end / 2) fill)),
    )

pub returns-in-Err-clause-decoded : goal.returns-in-Err-clause-decoded
returns-in-Err-clause-decoded c =
    let ds = digits_of c.args.text.now in
    let end = c.in-Some.end in
    let written = take end c.put_digits.new.room in
    let octets = c.args.octets.now in
    let out = c.decode_to_slice.new.out in
    let half = length-take-le (end / 2) octets c.if-octets-size.false in
    let size : length ds ≡ end = end_of c.args.room.now c.put_digits.new.room ds end c.in-Some.ensures in
    let long : length written ≡ end = length-take-le end c.put_digits.new.room c.in-Some.ensures.0 in
    let fill : length out ≡ end / 2 = omega (arith, half, c.decode_to_slice.auto.out) in
    let is = ap decode_of (sym c.in-Some.ensures.1) ∙ sized written (length (take (end / 2) octets)) (omega (arith, long, half)) in (
      (omega (arith, size, c.in-Some.ensures.0, c.put_digits.auto.room), omega (arith, size, fill, length-append out (drop (end / 2) octets), length-drop (end / 2) octets)),
      subst IsErr (sym is) (refused (decode_sized written (length (take (end / 2) octets))) _ _ out c.in-Err.ensures.value refl),
    )
