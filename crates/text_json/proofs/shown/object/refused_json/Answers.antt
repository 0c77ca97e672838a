use Rattle.std.proofs.Common.{ap, ◌∙◌}
use Rattle.std.proofs.lemmas.Result.{IfOk-weaker}
use Rattle.serde_json.specs.Written.{compact_text, has_float}
use Rattle.text_json.specs.Shown.Lines.{words_of}
use Rattle.text_json.specs.Shown.Objects.{refused_members}
use Rattle.text_json.proofs.ShownLaws.ObjectLaws.{plain_refused}
use Rattle.text_json.proofs.shown.object.refused_json.Goals as goal

pub returns : goal.returns
returns c =
    let s = c.args.source in
    let error = c.args.error.now in
    let offset = c.args.offset in
    let value = c.in_ok-value.ensures ∙ ap (refused_members s error offset) (c.in_ok-words.ensures ∙ ap words_of c.in_ok-said.ensures) in
    IfOk-weaker c.to_string.result _ _ (λ t h. h (ap has_float value ∙ plain_refused s error offset c.args.words.now) ∙ ap compact_text value) c.to_string.ensures.text
