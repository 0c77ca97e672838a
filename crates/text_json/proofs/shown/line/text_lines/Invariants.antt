use Rattle.std.proofs.Common.{◌≡◌, map}
use Rattle.text_json.specs.Shown.Lines.{line_on}
use Rattle.text_json.specs.Shown.Words.{line_view}
use Rattle.text_json.proofs.shown.line.text_lines.Given as goal

abbrev pub invariant-lines : goal.invariant-lines
invariant-lines l = map line_view l.found.items ≡ map (λ x. line_on x.now) l.yielded
