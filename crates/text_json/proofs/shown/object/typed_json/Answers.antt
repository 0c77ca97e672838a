use Rattle.std.proofs.Common.{[], ap, map, true, ◌∙◌}
use Rattle.std.proofs.lemmas.Result.{IfOk-weaker}
use Rattle.serde_json.specs.View.{view}
use Rattle.serde_json.specs.Written.{compact_text, has_float}
use Rattle.text_json.specs.Shown.Objects.{shown_members}
use Rattle.text_json.specs.Shown.Words.{line_view}
use Rattle.text_json.proofs.ShownLaws.ObjectLaws.{plain_typed}
use Rattle.text_json.proofs.shown.object.typed_json.Goals as goal

pub returns : goal.returns
returns c =
    let s = c.args.source in
    let found = c.in_ok-items.ensures in
    let lines = map line_view c.in_ok-items.items.items in
    let value =
    c.in_ok-value.ensures ∙ ap (λ l. shown_members s (map view l) (map view c.in_ok-words.words.items) true) c.new-lines.ensures.items
    ∙ ap (λ w. shown_members s [] w true) c.in_ok-words.ensures in
    IfOk-weaker c.to_string.result _ _
    (λ t h. record { lines = lines; has_lines = found; whole = h (ap has_float value ∙ plain_typed s lines found.lines) ∙ ap compact_text value })
    c.to_string.ensures.text
