use Rattle.std.proofs.Common.{ap, map, rules, sym, ◌∙◌}
use Rattle.std.proofs.lemmas.Iterator.Consumers.{YieldsList-end}
use Rattle.std.proofs.lemmas.Iterator.Splits.{YieldsList-from_lines}
use Rattle.std.proofs.lemmas.Simd.{map-map}
use Rattle.std.specs.Str.Lossy.{utf8_lossy}
use Rattle.serde_json.specs.Data.{string}
use Rattle.text_json.proofs.shown.object.lines_in.Goals as goal

pub returns : goal.returns
returns c =
    let all = YieldsList-end (YieldsList-from_lines {s = c.into_iter-line-iterator.result} (utf8_lossy c.args.text.now) (search rules)) c.lines.yielded _ c.lines.yielded_by _ _ c.in-None.is c.next.ensures.steps in
    c.lines.invariant ∙ sym (map-map (λ x. string x) (λ x. x.now) c.lines.yielded) ∙ ap (map (λ x. string x)) all.0
