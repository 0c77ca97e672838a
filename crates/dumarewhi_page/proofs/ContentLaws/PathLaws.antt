-- The path to a row.
use Rattle.std.proofs.Common.{◌≡◌, ◌≢◌, ℕ, zero, suc, ◌-◌, ◌<◌, ◌⊎◌, ◌==◌, List, [], ◌++◌, if◌then◌else◌, length, get_or, refl, ap, ◌∙◌, codes, arith, inl, inr}
use Rattle.std.specs.Option.{option_map_or}
use Rattle.std.proofs.lemmas.Bool.Decides.{eqb_tells}
use Rattle.std.proofs.lemmas.Option.{slice_get_read}
use Rattle.dumarewhi_page.specs.declared.content.row.PageRow.{PageRow}
use Rattle.dumarewhi_page.specs.Content.Paths.{path_to}
use Rattle.dumarewhi_page.specs.Content.Rows.{step_in}
use Rattle.der_elements.specs.Paths.{step_text}

other_than_zero : {A : Type 0} (n : ℕ) (x y : A) → n ≢ 0 → (if n == 0 then x else y) ≡ y
other_than_zero n x y h = elim (eqb_tells n 0) [ inl (t, same) ↦ absurd (h same) | inr (t, other) ↦ ap (λ b. if b then x else y) t ]

-- to a row with none around it, or where no more steps are written
pub path_alone : (most n : ℕ) (rows : List PageRow) (r : PageRow) → (most ≡ 0) ⊎ (r.around ≡ 0) → n < length rows → r ≡ get_or rows n r
    → path_to most rows n ≡ step_text (step_in r)
unfolding path_to
path_alone zero n rows r h i g = ap (λ o. option_map_or (λ x. step_text (step_in x)) o []) (slice_get_read rows (length rows) n r refl i g)
path_alone (suc most) n rows r (inl e) i g = absurd (omega (arith, e))
path_alone (suc most) n rows r (inr e) i g =
    let step = λ (x : PageRow). path_to most rows (x.around - 1) ++ (codes "." ++ step_text (step_in x)) in
    ap (λ o. option_map_or (λ x. if x.around == 0 then step_text (step_in x) else step x) o []) (slice_get_read rows (length rows) n r refl i g)
    ∙ ap (λ m. if m == 0 then step_text (step_in r) else step r) e

-- to a row with one around it
pub path_step : (most n : ℕ) (rows : List PageRow) (r : PageRow) → most ≢ 0 → n < length rows → r ≡ get_or rows n r → r.around ≢ 0
    → path_to most rows n ≡ path_to (most - 1) rows (r.around - 1) ++ (codes "." ++ step_text (step_in r))
unfolding path_to
path_step zero n rows r h i g a = absurd (h refl)
path_step (suc most) n rows r h i g a =
    let one : most ≡ suc most - 1 = omega arith in
    let step = λ (m : ℕ) (x : PageRow). path_to m rows (x.around - 1) ++ (codes "." ++ step_text (step_in x)) in
    ap (λ o. option_map_or (λ x. if x.around == 0 then step_text (step_in x) else step most x) o []) (slice_get_read rows (length rows) n r refl i g)
    ∙ other_than_zero r.around (step_text (step_in r)) (step most r) a
    ∙ ap (λ m. step m r) one
