-- The paths to rows.
use Rattle.std.specs.Prelude.{ℕ, zero, suc, ◌-◌, ◌==◌, if◌then◌else◌, List, [], ◌++◌, codes, slice_get}
use Rattle.std.specs.Option.{option_map_or}
use Rattle.der_elements.specs.Paths.{step_text}
use Rattle.dumarewhi_page.specs.declared.content.row.PageRow.{PageRow}
use Rattle.dumarewhi_page.specs.Content.Rows.{step_in}

-- the path to the row n: that to the row of the element around it, a dot, and its own step; at most so many before it
unfoldable pub path_to : ℕ → List PageRow → ℕ → List ℕ
path_to zero rows n = option_map_or (λ r. step_text (step_in r)) (slice_get rows n) []
path_to (suc most) rows n = option_map_or (λ r. if r.around == 0 then step_text (step_in r)
    else path_to most rows (r.around - 1) ++ (codes "." ++ step_text (step_in r))) (slice_get rows n) []
