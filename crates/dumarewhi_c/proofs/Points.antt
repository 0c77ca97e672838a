-- Texts that are cut at points.
use Rattle.std.proofs.Common.{◌≡◌, ◌≢◌, ℕ, ◌+◌, ◌<◌, true, false, List, [], ◌∷◌, ◌++◌, length, get_or, take, drop, All, refl, sym, ap, ◌∙◌, take-append-drop, arith}
use Rattle.std.specs.Prelude.{◌==◌}
use Rattle.std.specs.List.{onto_first}
use Rattle.std.proofs.lemmas.Bool.{cond-true, cond-false}
use Rattle.std.proofs.lemmas.Bool.Decides.{nat_tests}
use Rattle.std.proofs.lemmas.List.{drop_more, take_more}
use Rattle.std.proofs.lemmas.List.Elements.{All-append, All-cons, All-head, All-nil, All-tail}
use Rattle.der_base.specs.OidArcs.{components}

abbrev pub HasNoPoint : List ℕ → Type 0
HasNoPoint text = All (λ b. (b == 46) ≡ false) text

no_point : (b : ℕ) (text : List ℕ) → (b == 46) ≡ false → components (b ∷ text) ≡ onto_first b (components text)
no_point b text e = cond-false (b == 46) _ _ e

pub one_component : (text : List ℕ) → HasNoPoint text → components text ≡ text ∷ []
one_component [] h = refl
one_component (b ∷ text) h =
    no_point b text (All-head (λ c. (c == 46) ≡ false) b text h)
    ∙ ap (onto_first b) (one_component text (All-tail (λ c. (c == 46) ≡ false) b text h))

components_at : (text : List ℕ) (b : ℕ) (rest : List ℕ) → HasNoPoint text → (b == 46) ≡ true → components (text ++ b ∷ rest) ≡ text ∷ components rest
components_at [] b rest h e = cond-true (b == 46) _ _ e
components_at (c ∷ text) b rest h e =
    no_point c (text ++ b ∷ rest) (All-head (λ d. (d == 46) ≡ false) c text h)
    ∙ ap (onto_first c) (components_at text b rest (All-tail (λ d. (d == 46) ≡ false) c text h) e)

-- the first component ends at the first point
pub first_component : (text : List ℕ) (i : ℕ) → i < length text → get_or text i 0 ≡ 46 → HasNoPoint (take i text)
    → components text ≡ take i text ∷ components (drop (i + 1) text)
first_component text i within is h =
    let parts : text ≡ take i text ++ 46 ∷ drop (i + 1) text =
    sym (take-append-drop i text) ∙ ap (λ rest. take i text ++ rest) (drop_more text i 0 within ∙ ap (λ c. c ∷ drop (i + 1) text) is) in
    ap components parts ∙ components_at (take i text) 46 (drop (i + 1) text) h refl

not_one : (b : ℕ) → b ≢ 46 → (b == 46) ≡ false
not_one b h = grind (arith, nat_tests)

pub no_point_more : (text : List ℕ) (i : ℕ) → i < length text → get_or text i 0 ≢ 46 → HasNoPoint (take i text) → HasNoPoint (take (i + 1) text)
no_point_more text i within is h =
    let P : ℕ → Type 0 = λ b. (b == 46) ≡ false in
    let last = All-cons P (get_or text i 0) [] (not_one (get_or text i 0) is) (All-nil P) in
    rw (take_more text i 0 within) (All-append P (take i text) (get_or text i 0 ∷ []) h last)
