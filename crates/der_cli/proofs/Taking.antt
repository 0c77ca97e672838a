-- Files that are taken.
use Rattle.std.proofs.Common.{◌≡◌, ◌∙◌, ◌+◌, ◌<◌, ◌∷◌, [], ℕ, Bool, true, false, IsTrue, List, None, Option, Some, ap, arith, codes, map, nat_lt, option_map, refl, subst, sym}
use Rattle.std.proofs.lemmas.Bool.{lt-ltb}
use Rattle.std.specs.Prelude.{unwrap_or}
use Rattle.std.specs.Borrow.{Bor}
use Rattle.der_actions.specs.declared.options.Options.{Options}
use Rattle.der_cli.specs.Counts.{outcome_of}
use Rattle.der_cli.specs.Inputs.{IsReadFrom, ReadsInput, RefusesInput, shown_name}
use Rattle.der_cli.specs.Taken.{LeavesInput, TakesFile, accepted, rejected}

-- a file that was read is accepted or rejected
pub read_is_taken : (o : Options) (name shown octets given : List ℕ) (input left old new : Option (List ℕ)) (b : Bool) → shown ≡ shown_name name → given ≡ octets
    → LeavesInput name input left → IsReadFrom input name octets → (IsTrue b → ReadsInput o shown given old new) → (b ≡ false → RefusesInput o shown given old new)
    → TakesFile o name input left old new (outcome_of b)
read_is_taken o name shown octets given input left old new true named same leaves is read refused =
    accepted octets leaves is (subst (λ s. ReadsInput o s octets old new) named (subst (λ w. ReadsInput o shown w old new) same (read refl)))
read_is_taken o name shown octets given input left old new false named same leaves is read refused =
    rejected octets leaves is (subst (λ s. RefusesInput o s octets old new) named (subst (λ w. RefusesInput o shown w old new) same (refused refl)))

-- a number above 0, and one more than another
pub both_some : (n m : ℕ) → 0 < n → nat_lt 0 n ≡ nat_lt 0 (m + 1)
both_some n m some =
    let next : 0 < m + 1 = omega arith in
    lt-ltb 0 n some ∙ sym (lt-ltb 0 (m + 1) next)

abbrev pub Names : Type 0
Names = Bor (List (Bor (List ℕ)))

-- the files that are named, or `-`
pub files_are : (r : Option Names) (files : Names) (found : Option (List (List ℕ))) → option_map (λ s. map (λ v. v.now) s.now) r ≡ found → r ≡ Some files
    → map (λ f. f.now) files.now ≡ unwrap_or found (codes "-" ∷ [])
files_are r files found same is =
    let known : Some (map (λ (f : Bor (List ℕ)). f.now) files.now) ≡ found =
    ap (option_map (λ (s : Names). map (λ (v : Bor (List ℕ)). v.now) s.now)) (sym is) ∙ same in
    ap (λ (o : Option (List (List ℕ))). unwrap_or o (codes "-" ∷ [])) known

pub no_files_are : (r : Option Names) (found : Option (List (List ℕ))) → option_map (λ s. map (λ v. v.now) s.now) r ≡ found → r ≡ None
    → codes "-" ∷ [] ≡ unwrap_or found (codes "-" ∷ [])
no_files_are r found same is =
    let known : None ≡ found = ap (option_map (λ (s : Names). map (λ (v : Bor (List ℕ)). v.now) s.now)) (sym is) ∙ same in
    ap (λ (o : Option (List (List ℕ))). unwrap_or o (codes "-" ∷ [])) known
