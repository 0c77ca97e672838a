use Rattle.std.proofs.Common.{◌≡◌, ◌++◌, List, length, map}
use Rattle.text_json.specs.Shown.Lines.{Line, words_on}
use Rattle.text_json.specs.Shown.Words.{line_view, placed_of}
use Rattle.text_json.proofs.shown.words.words_of.Given as goal

-- the last lines are done
abbrev pub invariant-lines : goal.invariant-lines
invariant-lines l = (done : List Line) × (map line_view l.lines.items ++ done ≡ map line_view l.fn.lines.items)
    × (map placed_of l.words.items ≡ words_on done)

abbrev pub decreases-lines : goal.decreases-lines
decreases-lines l = length l.lines.items
