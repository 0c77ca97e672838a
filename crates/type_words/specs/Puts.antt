-- What a walk puts to a sink.
use Rattle.std.specs.Prelude.{◌≡◌, ℕ, Option, Some, None, List, [], ◌∷◌, ◌++◌}
use Rattle.der_base.specs.declared.rules.Rules.{Rules}
use Rattle.der_elements.specs.declared.path.Step.{Step}
use Rattle.der_elements.specs.declared.error.ElementError.{ElementError}
use Rattle.der_elements.specs.FirstFault.{IsFirstFault}
use Rattle.der_elements.specs.Visits.{Extras, Visited, Visits}
use Rattle.type_words.specs.Items.{Said}

-- items are put to a sink, one after another
pub data PutsAll {S : Type 0} (Put : S → Said → S → Type 0) : S → List Said → S → Type 0 where
  puts_none : {s t : S} {xs : List Said} → xs ≡ [] → s ≡ t → PutsAll Put s xs t
  puts_more : {s t : S} {xs : List Said} (before : List Said) (x : Said) (u : S) → xs ≡ before ++ x ∷ []
      → PutsAll Put s before u → Put u x t → PutsAll Put s xs t

-- i is elements, which are all visited, or else those before its first fault are
abbrev pub EndsWith : Extras → Rules → List ℕ → List Visited → Option ElementError → Type 0
EndsWith x r i vs None = Visits x r 101 0 0 i vs
EndsWith x r i vs (Some fault) = ((us : List Visited) → ¬ Visits x r 101 0 0 i us)
    × ((steps : List Step) × IsFirstFault x r i vs steps fault)
