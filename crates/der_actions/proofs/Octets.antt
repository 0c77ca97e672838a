-- The octets at the start of others.
use Rattle.std.proofs.Common.{◌≡◌, ◌∙◌, ◌-◌, ◌≤◌, List, ◌++◌, ap, arith, drop, length, sym, take, ℕ}
use Rattle.std.proofs.lemmas.List.{length-append, length-take-le, take-append-drop}
use Rattle.std.proofs.Math.Seq.{take-append_seam}

-- octets before a rest
pub before_rest : (here b rest : List ℕ) → here ≡ b ++ rest → take (length here - length rest) here ≡ b
before_rest here b rest e =
    let n : length here - length rest ≡ length b = omega (arith, ap length e, length-append b rest) in
    ap (λ m. take m here) n ∙ ap (take (length b)) e ∙ take-append_seam b rest

-- so many octets, and the others
pub splits_at : (n : ℕ) (here : List ℕ) → n ≤ length here → (rest : List ℕ) × (here ≡ take n here ++ rest) × (length (take n here) ≡ n)
splits_at n here fits = (drop n here, sym (take-append-drop n here), length-take-le n here fits)
