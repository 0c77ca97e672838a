use Rattle.std.proofs.Common.{◌≡◌, map}
use Rattle.serde_json.specs.Data.{string}
use Rattle.serde_json.specs.View.{view}
use Rattle.text_json.proofs.shown.value.words.Given as goal

abbrev pub invariant-words : goal.invariant-words
invariant-words l = map view l.found.items ≡ map (λ x. string x.now) l.yielded
