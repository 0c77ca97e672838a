use Rattle.std.proofs.Common.{◌∙◌, ap, take}
use Rattle.std.specs.Prelude.{string_bytes}
use Rattle.text_json.specs.PathTexts.{step_of, text_after}
use Rattle.text_json.proofs.PathsShown.{step_is, texts_cut, texts_entered}
use Rattle.text_json.proofs.paths.Paths.enter.Goals as goal

pub returns : goal.returns
returns c =
    λ path h.
    let e = c.args.element.now in
    let cut = c.truncate.new.self.items in
    let before = texts_cut string_bytes e.depth c.args.self.now.texts.items cut path c.truncate.ensures.items h in
    let step = step_is c.step.result (step_of e) c.step.ensures.class c.step.ensures.number c.step.ensures.index in
    texts_entered string_bytes c.as_slice.result.now cut c.push.new.self.items c.in_ok-text.text (take e.depth path) (step_of e) _ c.as_slice.ensures.value
    c.in_ok-push.ensures.items before c.last_of.ensures (c.in_ok-text.ensures ∙ ap (text_after _) step)
