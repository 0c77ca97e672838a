use Rattle.std.proofs.Common.{ap, lit<, map, rules, sym, ◌∙◌}
use Rattle.std.proofs.lemmas.Iterator.Consumers.{YieldsList-end}
use Rattle.std.proofs.lemmas.Iterator.Splits.{YieldsList-from_str_split}
use Rattle.std.proofs.lemmas.Simd.{map-map}
use Rattle.serde_json.specs.Data.{string}
use Rattle.text_json.proofs.shown.value.words.Goals as goal

pub returns : goal.returns
returns c =
    let parts =
    YieldsList-from_str_split {s = c.into_iter-word-iterator.result} 32 c.args.text.now (lit< tt) (search rules) (search rules) (search rules) in
    let all = YieldsList-end parts c.words.yielded _ c.words.yielded_by _ _ c.in-None.is c.next.ensures.steps in
    c.words.invariant ∙ sym (map-map (λ x. string x) (λ x. x.now) c.words.yielded) ∙ ap (map (λ x. string x)) all.0
