use Rattle.std.proofs.Common.{◌∙◌, Some, ap, sym}
use Rattle.std.specs.Prelude.{length, option_map, string_bytes, ◌-◌}
use Rattle.std.proofs.lemmas.Option.{slice_get-map}
use Rattle.text_json.proofs.paths.last_of.Goals as goal

pub returns-in-Some : goal.returns-in-Some
returns-in-Some c =
    let texts = c.args.texts.now in
    ap (λ t. Some t) c.as_str.ensures.value ∙ ap (option_map string_bytes) c.in-Some.ensures.value ∙ sym (slice_get-map string_bytes texts (length texts - 1))

pub returns-in-None : goal.returns-in-None
returns-in-None c =
    let texts = c.args.texts.now in
    ap (option_map string_bytes) c.in-None.ensures.value ∙ sym (slice_get-map string_bytes texts (length texts - 1))
