use Rattle.std.proofs.Common.{◌≡◌, map}
use Rattle.serde_json.specs.Data.{string}
use Rattle.serde_json.specs.View.{view}
use Rattle.text_json.proofs.shown.object.lines_in.Given as goal

abbrev pub invariant-lines : goal.invariant-lines
invariant-lines l = map view l.found.items ≡ map (λ x. string x.now) l.yielded
