use Rattle.std.proofs.Common.{◌≡◌, ◌++◌, length, map}
use Rattle.serde_json.specs.View.{view}
use Rattle.text_json.proofs.ShownLaws.WordLaws.{after, inside}
use Rattle.text_json.proofs.shown.words.take_deeper.Given as goal

abbrev pub invariant-words : goal.invariant-words
invariant-words l = record {
  taken : map view l.taken.items ++ inside l.indent l.words.items ≡ inside l.indent l.initial.words.items;
  rest : after l.indent l.words.items ≡ after l.indent l.initial.words.items;
}

abbrev pub decreases-words : goal.decreases-words
decreases-words l = length l.words.items
