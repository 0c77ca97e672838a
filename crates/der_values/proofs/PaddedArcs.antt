-- Subidentifiers that begin with an octet of 128, one octet after another (X.690 8.19.2).
use Rattle.std.proofs.Common.{◌≡◌, ℕ, ◌<◌, ◌≤◌, Bool, true, false, List, [], ◌∷◌, not, refl, sym, ap, ◌∙◌, ⊎_elim, arith}
use Rattle.std.specs.Prelude.{◌==◌, ◌&&◌, nat_lt}
use Rattle.std.specs.List.{list_all}
use Rattle.std.proofs.lemmas.Bool.{cases_lt}
use Rattle.std.proofs.lemmas.Bool.Decides.{nat_tests}
use Rattle.der_base.specs.Arcs.{in_front, subidentifiers}
use Rattle.der_base.proofs.Oids.Arcs.{last_octet, more_octet}
use Rattle.der_values.specs.Kinds.{is_unpadded}

-- none does; the first octet is the first of a subidentifier, or not
abbrev pub unpadded_from : Bool → List ℕ → Bool
unpadded_from begins [] = true
unpadded_from begins (b ∷ w) = not (begins && b == 128) && unpadded_from (nat_lt b 128) w

-- none of these does, and the first of them may be passed over
abbrev all_from : Bool → List (List ℕ) → Bool
all_from true ss = list_all is_unpadded ss
all_from false [] = true
all_from false (s ∷ ss) = list_all is_unpadded ss

low : (p : Bool) (b : ℕ) (w : List ℕ) → b < 128 → unpadded_from true w ≡ list_all is_unpadded (subidentifiers w) → unpadded_from p (b ∷ w) ≡ all_from p (subidentifiers (b ∷ w))
low true b w h e =
    let f : nat_lt b 128 ≡ true = grind (arith, nat_tests) in
    ap (λ x. not (b == 128) && unpadded_from x w) f ∙ ap (λ x. not (b == 128) && x) e ∙ ap (list_all is_unpadded) (sym (last_octet b w h))
low false b w h e =
    let f : nat_lt b 128 ≡ true = grind (arith, nat_tests) in
    ap (λ x. unpadded_from x w) f ∙ e ∙ ap (all_from false) (sym (last_octet b w h))

in_front_all : (p : Bool) (b : ℕ) (ss : List (List ℕ)) → (not (p && b == 128) && all_from false ss) ≡ all_from p (in_front b ss)
in_front_all true b [] = refl
in_front_all true b (s ∷ ss) = refl
in_front_all false b [] = refl
in_front_all false b (s ∷ ss) = refl

high : (p : Bool) (b : ℕ) (w : List ℕ) → 128 ≤ b → unpadded_from false w ≡ all_from false (subidentifiers w) → unpadded_from p (b ∷ w) ≡ all_from p (subidentifiers (b ∷ w))
high p b w h e =
    let f : nat_lt b 128 ≡ false = grind (arith, nat_tests) in
    ap (λ x. not (p && b == 128) && unpadded_from x w) f ∙ ap (λ x. not (p && b == 128) && x) e ∙ in_front_all p b (subidentifiers w) ∙ ap (all_from p) (sym (more_octet b w h))

unpadded_all : (p : Bool) (w : List ℕ) → unpadded_from p w ≡ all_from p (subidentifiers w)
unpadded_all true [] = refl
unpadded_all false [] = refl
unpadded_all p (b ∷ w) = ⊎_elim (λ l. low p b w l (unpadded_all true w)) (λ h. high p b w h (unpadded_all false w)) (cases_lt b 128)

pub unpadded : (w : List ℕ) → unpadded_from true w ≡ list_all is_unpadded (subidentifiers w)
unpadded w = unpadded_all true w

-- an octet that is passed
pub passed : (p q : Bool) (b : ℕ) (w : List ℕ) → (p ≡ true → b ≡ 128 → ⊥) → q ≡ nat_lt b 128 → unpadded_from q w ≡ unpadded_from p (b ∷ w)
passed true q b w h e =
    let f : (b == 128) ≡ false = grind (arith, nat_tests, h refl) in
    ap (λ x. unpadded_from x w) e ∙ sym (ap (λ x. not x && unpadded_from (nat_lt b 128) w) f)
passed false q b w h e = ap (λ x. unpadded_from x w) e

-- one that isn't
pub padded : (p : Bool) (b : ℕ) (w : List ℕ) → p ≡ true → b ≡ 128 → unpadded_from p (b ∷ w) ≡ false
padded p b w e f = rw (e, f) refl
