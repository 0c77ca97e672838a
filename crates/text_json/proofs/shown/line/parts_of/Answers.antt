use Rattle.std.proofs.Common.{None, Some, ap, lit<, ◌∙◌}
use Rattle.std.proofs.lemmas.Str.Pattern.{split_once_first}
use Rattle.text_json.specs.Shown.Lines.{after_space, not_empty}
use Rattle.text_json.proofs.ShownLaws.LineLaws.{no_value}
use Rattle.text_json.proofs.shown.line.parts_of.Goals as goal

pub returns-in-Some-clause-value : goal.returns-in-Some-clause-value
returns-in-Some-clause-value c =
    let content = c.trim_start-content.result.now in
    let parts = split_once_first 58 content (Some (c.in-Some.name, c.in-Some.rest)) c.in-Some.ensures.cases (lit< tt) in
    let value = c.not_empty.ensures ∙ ap not_empty (c.after_space.ensures ∙ ap after_space parts.2) in
    rw c.trim_start-content.ensures.trim at value

pub returns-in-None-clause-value : goal.returns-in-None-clause-value
returns-in-None-clause-value c =
    let content = c.trim_start-content.result.now in
    let value = no_value content (split_once_first 58 content None c.in-None.ensures.cases (lit< tt)) in
    rw c.trim_start-content.ensures.trim at value
