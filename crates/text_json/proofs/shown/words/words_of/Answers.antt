use Rattle.std.proofs.Common.{◌≡◌, [], ◌∷◌, ap, map, rules, ◌∙◌}
use Rattle.std.proofs.lemmas.List.{append-nil}
use Rattle.std.proofs.lemmas.Result.{IfOk-weaker}
use Rattle.text_json.specs.Shown.Lines.{with_line, words_on}
use Rattle.text_json.specs.Shown.Words.{line_view, placed_of}
use Rattle.text_json.proofs.ShownLaws.WordLaws.{line_done}
use Rattle.text_json.proofs.shown.words.words_of.Goals as goal

pub lines-init : goal.lines-init
lines-init c = ([], append-nil (map line_view c.args.lines.items), ap (map placed_of) c.new-words.ensures.items)

pub lines-preserved : goal.lines-preserved
lines-preserved c =
    let line = c.in-Some.line in
    let done = c.lines.invariant.0 in (
      line_view line ∷ done,
      line_done c.lines.lines.items c.pop.new.self.items line done _ c.in-Some.ensures.items c.lines.invariant.1,
      c.in_ok-put_line.ensures ∙ ap (with_line (line_view line)) c.lines.invariant.2,
    )

pub returns : goal.returns
returns c =
    let done = c.lines.invariant.0 in
    let empty : c.lines.lines.items ≡ [] = search rules in
    let all : done ≡ map line_view c.args.lines.items = rw empty at c.lines.invariant.1 in
    IfOk-weaker c.take_all.result _ _ (λ taken e. e ∙ ap (map (λ w. w.word)) (c.lines.invariant.2 ∙ ap words_on all)) c.take_all.ensures
