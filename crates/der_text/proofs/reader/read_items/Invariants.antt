use Rattle.std.proofs.Common.{◌≡◌, length}
use Rattle.der_text.specs.Lexemes.{items_after, items_of}
use Rattle.der_text.proofs.Sequences.{joined}
use Rattle.der_text.proofs.reader.read_items.Given as goal

-- the items of the text are those so far and those of what is left
abbrev pub invariant-loop-first : goal.invariant-loop-first
invariant-loop-first l = items_of l.text ≡ joined l.items.items (items_after l.rest 0)

abbrev pub decreases-loop-first : goal.decreases-loop-first
decreases-loop-first l = length l.rest
