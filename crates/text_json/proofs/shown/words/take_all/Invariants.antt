use Rattle.std.proofs.Common.{◌≡◌, ◌++◌, length, map}
use Rattle.serde_json.specs.View.{view}
use Rattle.text_json.specs.Shown.Words.{placed_of}
use Rattle.text_json.proofs.shown.words.take_all.Given as goal

abbrev pub invariant-words : goal.invariant-words
invariant-words l = map view l.taken.items ++ map (λ w. w.word) (map placed_of l.words.items)
    ≡ map (λ w. w.word) (map placed_of l.initial.words.items)

abbrev pub decreases-words : goal.decreases-words
decreases-words l = length l.words.items
