use Rattle.std.proofs.Common.{ap, map, ◌∙◌}
use Rattle.std.proofs.lemmas.Result.{IfOk-weaker}
use Rattle.std.specs.Str.Lines.{lines}
use Rattle.std.specs.Str.Lossy.{utf8_lossy}
use Rattle.serde_json.specs.Data.{string}
use Rattle.serde_json.specs.View.{view}
use Rattle.serde_json.specs.Written.{compact_text, has_float}
use Rattle.text_json.specs.Shown.Lines.{words_of}
use Rattle.text_json.specs.Shown.Objects.{shown_members}
use Rattle.text_json.proofs.ShownLaws.ObjectLaws.{plain_shown}
use Rattle.text_json.proofs.shown.object.shown_json.Goals as goal

pub returns : goal.returns
returns c =
    let s = c.args.source in
    let keeps = c.args.keeps_rules in
    let before = map string (lines (utf8_lossy c.args.lines.now)) in
    let value =
    c.in_ok-value.ensures ∙ ap (λ l. shown_members s l (map view c.in_ok-words.words.items) keeps) c.in_ok-lines.ensures
    ∙ ap (λ w. shown_members s before w keeps) (c.in_ok-words.ensures ∙ ap words_of c.in_ok-said.ensures) in
    IfOk-weaker c.to_string.result _ _ (λ t h. h (ap has_float value ∙ plain_shown s c.args.lines.now c.args.words.now keeps) ∙ ap compact_text value) c.to_string.ensures.text
