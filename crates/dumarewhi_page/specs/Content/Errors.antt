-- The errors of inputs, as text.
use Rattle.std.specs.Prelude.{◌≡◌, ℕ, ◌⊎◌, ◌==◌, if◌then◌else◌, List, ◌++◌}
use Rattle.std.specs.Option.{option_to_list}
use Rattle.der_base.specs.declared.rules.Rules.{Rules}
use Rattle.der_elements.specs.declared.error.ElementError.{ElementError}
use Rattle.der_elements.specs.declared.walk.Walk.{Walk}
use Rattle.der_elements.specs.Paths.{path_text}
use Rattle.der_elements.specs.Visits.{Visited, Visits}
use Rattle.der_elements.specs.Walked.{IsRefused, steps_of}
use Rattle.dumarewhi_page.specs.declared.content.texts.Part.{Part}
use Rattle.dumarewhi_page.specs.declared.content.texts.Part.TheVariants.{Whole, Cause, Path}
use Rattle.dumarewhi_page.specs.Content.Listed.{all_extras}
use Rattle.dumarewhi_page.specs.Content.Texts.{Puts}

abbrev pub part_numbered : ℕ → Part
part_numbered n = if n == 0 then Whole else (if n == 1 then Cause else Path)

-- what is written of the element that stops a walk: the path to it. The other parts aren't said.
abbrev pub PutsPart : Part → Walk → ElementError → List ℕ → List ℕ → ℕ → Type 0
PutsPart Whole w f old new n = Unit {0}
PutsPart Cause w f old new n = Unit {0}
PutsPart Path w f old new n = Puts old (path_text (steps_of w.opened.items ++ option_to_list f.step)) new n

-- nothing is written if the input is elements, and else a part of the error
abbrev pub PutsError : Rules → Part → List ℕ → List ℕ → List ℕ → ℕ → Type 0
PutsError r part i old new n = (vs : List Visited) × ((Visits all_extras r 101 0 0 i vs × (n ≡ 0) × (new ≡ old))
    ⊎ ((w : Walk) × (f : ElementError) × IsRefused all_extras r i vs w f × PutsPart part w f old new n))
