use Rattle.std.proofs.Common.{◌++◌, ap, sym, subst, ◌∙◌}
use Rattle.std.specs.Result.{is_ok}
use Rattle.std.proofs.lemmas.Fmt.{contents_after_writes}
use Rattle.type_words.specs.Lines.{IsValue}
use Rattle.type_words.specs.TextLines.{octets_in}
use Rattle.type_words.proofs.text.value_text.Goals as goal

pub returns-in-Ok : goal.returns-in-Ok
returns-in-Ok c =
    let done = c.write_value.ensures c.new-lines.ensures.plain (ap is_ok c.in-Ok.is) in
    let all = c.into_bytes.ensures ∙ contents_after_writes _ octets_in (λ _ _ _ t. t) _ done.0 _ done.2.wrote
    ∙ ap (λ w. w ++ done.0) c.new-lines.ensures.text in
    subst (IsValue c.args.notation c.args.octets.now) (sym all) done.1
