-- What is listed of the elements that a walk visits.
use Rattle.std.specs.Prelude.{◌≡◌, ℕ, ◌⊎◌, true, List, length}
use Rattle.der_base.specs.declared.rules.Rules.{Rules}
use Rattle.der_elements.specs.declared.error.ElementError.{ElementError}
use Rattle.der_elements.specs.declared.walk.Walk.{Walk}
use Rattle.der_elements.specs.Visits.{Extras, Visited, Visits}
use Rattle.der_elements.specs.Walked.{IsRefused}
use Rattle.dumarewhi_page.specs.declared.content.lists.PageOutcome.{PageOutcome}
use Rattle.dumarewhi_page.specs.declared.content.row.PageRow.{PageRow}
use Rattle.dumarewhi_page.specs.Content.Rows.{AreRows}

-- strings that hold DER are entered, and by BER values that break their type are kept
abbrev pub all_extras : Extras
all_extras = record { enters_strings = true; keeps_values = true }

-- The elements are all that the input has. Or one is refused: a walk visited these before it, and none goes to the end
-- of the input.
abbrev pub AreVisited : Rules → List ℕ → List Visited → PageOutcome → Type 0
AreVisited r i vs found = ((found.refused ≡ 0) × Visits all_extras r 101 0 0 i vs)
    ⊎ ((found.refused ≡ 1) × (w : Walk) × (f : ElementError) × IsRefused all_extras r i vs w f × (found.place ≡ f.offset)
    × (found.depth ≡ length w.opened.items))

-- the rows stand for them, as far as there is room
abbrev pub Lists : Rules → List ℕ → List PageRow → PageOutcome → Type 0
Lists r i rows found = (vs : List Visited) × AreRows vs rows found.rows × AreVisited r i vs found
