-- Lengths whose first octet announces the octets of a number (X.690 8.1.3.5).
use Rattle.std.proofs.Common.{◌≡◌, ◌≢◌, ℕ, ◌+◌, ◌^◌, ◌<◌, ◌≤◌, Bool, List, [], ◌∷◌, ◌++◌, length, get_or, refl, sym, ap, ◌∙◌, subst, arith, inr}
use Rattle.der_base.specs.declared.error.DerConstraint.TheVariants.{LengthNotMinimal}
use Rattle.der_base.specs.declared.header.Length.TheVariants.{Definite}
use Rattle.der_base.specs.Octets.{number, octets, SpellsLength, shortest_length}
use Rattle.der_base.specs.Fault.{DerLengthRefuses}
use Rattle.der_base.specs.LengthOctets.{BeginsWithDerLength, BeginsWithLength, LengthLacks, before_length, Announces}
use Rattle.der_base.specs.Refusal.{der_constraint}
use Rattle.der_base.proofs.Octets.Identifiers.{head_same}
use Rattle.der_base.proofs.Octets.ShortestLengths.{shortest_short, shortest_long, IsBytes, bytes_front, octets_number, octets_head}

pub none_lacks : (s : List ℕ) → length s ≡ 0 → LengthLacks s 1
none_lacks [] h = before_length refl refl
none_lacks (b ∷ bs) h = absurd (omega arith)

pub short_begins : (s : List ℕ) (b : ℕ) (rest : List ℕ) → s ≡ b ∷ rest → b < 128 → BeginsWithDerLength s b rest
short_begins s b rest e h = record { octets = e ∙ ap (λ w. w ++ rest) (sym (shortest_short b h)); length = omega arith }

-- octets that are announced spell their number
pub announced_spells : {b : ℕ} {behind w rest : List ℕ} → Announces b behind w rest → 128 < b → number w < 2 ^ 64 → SpellsLength (b ∷ w) (number w)
announced_spells a h l = (l, inr (a.not_reserved, a.count, omega arith, refl))

pub announced_begins : {b : ℕ} {behind w rest : List ℕ} (p : Bool) (n : ℕ) → Announces b behind w rest → 128 < b → number w < 2 ^ 64 → n ≡ number w → BeginsWithLength (b ∷ behind) p (Definite n) rest
announced_begins {b} {behind} {w} {rest} p n a h l e =
    (b ∷ w, subst (λ m. SpellsLength (b ∷ w) m) (sym e) (announced_spells a h l), ap (λ v. b ∷ v) a.octets)

-- where they begin with no 0, and the number does not fit one octet, they are the fewest
pub announced_fewest : {b : ℕ} {behind w rest : List ℕ} (n : ℕ) → Announces b behind w rest → IsBytes behind → get_or w 0 0 ≢ 0 → 128 ≤ n → n < 2 ^ 64 → n ≡ number w
    → BeginsWithDerLength (b ∷ behind) n rest
announced_fewest {b} {behind} {w} {rest} n a k z m l e = record {
  octets = ap (λ v. b ∷ v) a.octets ∙ ap (λ v. v ++ rest) (fewest w (bytes_front w rest (subst IsBytes a.octets k)) z (sym e) a.count);
  length = l;
}
  where
    fewest : (w : List ℕ) → IsBytes w → get_or w 0 0 ≢ 0 → number w ≡ n → 128 + length w ≡ b → b ∷ w ≡ shortest_length n
    fewest [] k z e c = absurd (z refl)
    fewest (x ∷ xs) k z e c =
        let o : octets n ≡ x ∷ xs = ap octets (sym e) ∙ octets_number x xs z k in
        ap (λ i. i ∷ (x ∷ xs)) (sym c) ∙ ap (λ v. (128 + length v) ∷ v) (sym o) ∙ sym (shortest_long n m)

-- otherwise they are not
pub announced_small : {b : ℕ} {behind w rest : List ℕ} → Announces b behind w rest → 128 < b → number w < 128 → b ∷ w ≢ shortest_length (number w)
announced_small {b} {behind} {w} a h l = λ e. omega (arith, a.count, h, ap length (e ∙ shortest_short (number w) l))

pub announced_zero : {b : ℕ} {behind w rest : List ℕ} → Announces b behind w rest → 128 ≤ number w → get_or w 0 0 ≡ 0 → b ∷ w ≢ shortest_length (number w)
announced_zero {b} {behind} {w} a h z = λ e.
    let o = (head_same (e ∙ shortest_long (number w) h)).1 in
    octets_head (number w) (omega arith) (sym (ap (λ v. get_or v 0 0) o) ∙ z)

pub announced_refused : {b : ℕ} {behind w rest : List ℕ} → Announces b behind w rest → 128 < b → number w < 2 ^ 64 → b ∷ w ≢ shortest_length (number w)
    → DerLengthRefuses (b ∷ behind) (der_constraint LengthNotMinimal)
announced_refused {b} {behind} {w} {rest} a h l z =
    inr (inr (inr ((b ∷ w, rest, number w, ap (λ v. b ∷ v) a.octets, announced_spells a h l, z), refl)))
