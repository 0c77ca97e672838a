-- Octets in hex, each with a space in front.
use Rattle.std.proofs.Common.{◌≡◌, ℕ, zero, suc, ◌+◌, ◌-◌, ◌*◌, ◌<◌, ◌≤◌, List, [], ◌∷◌, ◌++◌, length, drop, get_or, refl, sym, ap, ◌∙◌, arith}
use Rattle.std.proofs.lemmas.List.{drop_more}
use Rattle.der_base.specs.Pretty.{hex_pair, spaced_hex}

pub spaced_length : (w : List ℕ) → length (spaced_hex w) ≡ 3 * length w
spaced_length [] = refl
spaced_length (b ∷ w) = omega (arith, spaced_length w)

-- the octet in front of the place i
pub octet_before : (w : List ℕ) (i b : ℕ) → 0 < i → i ≤ length w → b ≡ get_or w (i - 1) b → spaced_hex (drop (i - 1) w) ≡ (0x20 ∷ hex_pair b) ++ spaced_hex (drop i w)
octet_before w zero b some within e = absurd (omega arith)
octet_before w (suc j) b some within e =
    let f : suc j - 1 + 1 ≡ suc j = omega arith in
    ap spaced_hex (drop_more w (suc j - 1) b (omega arith) ∙ ap (λ n. get_or w (suc j - 1) b ∷ drop n w) f)
    ∙ ap (λ x. (0x20 ∷ hex_pair x) ++ spaced_hex (drop (suc j) w)) (sym e)
