use Rattle.std.proofs.Common.{◌≡◌, ◌∙◌, ℕ, ◌+◌, ◌<◌, ◌≤◌, Bool, true, false, List, [], ◌∷◌, ◌++◌, length, refl, sym, ap}
use Rattle.std.proofs.Common.{subst, lit<, inl, inr, nat_lt, if◌then◌else◌, length-append, append_assoc, arith, ltb→lt}
use Rattle.std.proofs.Common.{T, ltb-false}
use Rattle.der_base.specs.declared.header.Class.TheVariants.{Universal}
use Rattle.der_base.specs.declared.error.DerConstraint.TheVariants.{InvalidBoolean}
use Rattle.der_base.specs.Octets.{identifier, shortest_length, octets}
use Rattle.der_base.specs.Refusal.{der_constraint}
use Rattle.der_base.specs.Fault.{DerShowsFault}
use Rattle.der_values.proofs.LawsLaws.Octets.ShortIdentifiers.{short_identifier}

-- 81 03 01 01 7f is no shortest length before that many octets
no_long : (w rest : List ℕ) → (shortest_length (length w) ++ w) ++ rest ≡ 0x81 ∷ 3 ∷ 1 ∷ 1 ∷ 0x7f ∷ [] → ⊥
unfolding shortest_length
no_long w rest e = go (nat_lt (length w) 128) refl e
  where
    go : (x : Bool) → nat_lt (length w) 128 ≡ x → ((if x then length w ∷ [] else (128 + length (octets (length w))) ∷ octets (length w)) ++ w) ++ rest ≡ 0x81 ∷ 3 ∷ 1 ∷ 1 ∷ 0x7f ∷ [] → ⊥
    go true q f =
        let h : length w ≡ 0x81 = cc in
        let k : length w < 128 = ltb→lt (length w) 128 (subst T (sym q) tt) in
        omega arith
    go false q f =
        let h : (octets (length w) ++ w) ++ rest ≡ 3 ∷ 1 ∷ 1 ∷ 0x7f ∷ [] = cc in
        let four : List ℕ = 3 ∷ 1 ∷ 1 ∷ 0x7f ∷ [] in
        let a : length ((octets (length w) ++ w) ++ rest) ≡ length (octets (length w) ++ w) + length rest = length-append (octets (length w) ++ w) rest in
        let b : length (octets (length w) ++ w) ≡ length (octets (length w)) + length w = length-append (octets (length w)) w in
        let c : length ((octets (length w) ++ w) ++ rest) ≡ length four = ap length h in
        let d : length four ≡ 4 = refl in
        let big : 128 ≤ length w = ltb-false (length w) 128 q in
        omega arith

pub no_invalid_boolean : DerShowsFault 2 (0x30 ∷ 0x81 ∷ 3 ∷ 1 ∷ 1 ∷ 0x7f ∷ []) (der_constraint InvalidBoolean) → ⊥
no_invalid_boolean (inl (inl (_, e))) = cc
no_invalid_boolean (inl (inr (p, s, i, inl (_, e)))) = cc
no_invalid_boolean (inl (inr (p, s, i, inr (inl (_, e))))) = cc
no_invalid_boolean (inl (inr (p, s, i, inr (inr (inl (_, e)))))) = cc
no_invalid_boolean (inl (inr (p, s, i, inr (inr (inr (_, e)))))) = cc
no_invalid_boolean (inr (inl (c, p, t, n, r, _, _, _, _, e))) = cc
no_invalid_boolean (inr (inr (p, t, w, rest, _, e, _, _, _))) =
    let f = short_identifier Universal p t ((shortest_length (length w) ++ w) ++ rest) 0x30 (0x81 ∷ 3 ∷ 1 ∷ 1 ∷ 0x7f ∷ [])
    (sym (e ∙ nest (identifier Universal p t) (shortest_length (length w)) w rest)) (lit< tt) in
    no_long w rest f.2
  where
    nest : (x a b c : List ℕ) → (x ++ a ++ b) ++ c ≡ x ++ ((a ++ b) ++ c)
    nest x a b c = ap (λ z. z ++ c) (append_assoc x a b) ∙ append_assoc x (a ++ b) c
