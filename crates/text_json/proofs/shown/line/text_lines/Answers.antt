use Rattle.std.proofs.Common.{ap, map, rules, sym, ◌∙◌}
use Rattle.std.proofs.lemmas.Iterator.Consumers.{YieldsList-end}
use Rattle.std.proofs.lemmas.Iterator.Splits.{YieldsList-from_lines}
use Rattle.std.proofs.lemmas.Simd.{map-map}
use Rattle.std.specs.Str.Lossy.{utf8_lossy}
use Rattle.text_json.specs.Shown.Lines.{line_on}
use Rattle.text_json.proofs.shown.line.text_lines.Goals as goal

pub returns : goal.returns
returns c =
    let all = YieldsList-end (YieldsList-from_lines {s = c.into_iter-line-iterator.result} (utf8_lossy c.args.text.now) (search rules)) c.lines.yielded _ c.lines.yielded_by _ _ c.in-None.is c.next.ensures.steps in
    c.lines.invariant ∙ sym (map-map line_on (λ x. x.now) c.lines.yielded) ∙ ap (map line_on) all.0
