use Rattle.std.proofs.Common.{[], ◌∷◌, ap, map, ◌∙◌}
use Rattle.std.proofs.lemmas.List.{map-append}
use Rattle.text_json.specs.Shown.Words.{line_view}
use Rattle.text_json.proofs.shown.items.ItemLinesSink.put.Goals as goal

pub returns : goal.returns
returns c =
    let line = c.in_ok-line.line in (
      line_view line,
      c.in_ok-line.ensures,
      ap (map line_view) c.in_ok-push.ensures.items ∙ map-append line_view _ (line ∷ []),
    )
