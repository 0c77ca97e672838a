use Rattle.std.proofs.Common.{◌++◌, refl, subst}
use Rattle.std.proofs.KnownBytes.{Appends-trans}
use Rattle.std.proofs.lemmas.Result.{on_ok_weaker}
use Rattle.text_json.specs.Fields.Lines.{IsExposed}
use Rattle.der_print.specs.Names.{table_of}
use Rattle.der_print.specs.Texts.{content_of}
use Rattle.der_actions.specs.Differences.{style_behind, visited_in}
use Rattle.der_actions.proofs.diff.write_behind.Goals as goal

pub returns : goal.returns
returns g c =
    let o = c.args.options.now in
    let n = c.args.element.now in
    on_ok_weaker c.write_exposed.result
    (λ a. (
      c.args.sign.now ++ a.line,
      (
        a.line,
        subst (λ x. IsExposed (table_of o.own_names) n.field.name.now (style_behind c.args.sign.now o.style) (visited_in n) (content_of n.element) x a.line) c.outlined-exposure.ensures
            (subst (λ s. IsExposed (table_of o.own_names) n.field.name.now s (visited_in n) (content_of n.element) c.outlined-exposure.result a.line) c.style_behind-style.ensures a.is_line),
        refl,
      ),
      Appends-trans _ _ _ c.args.sign.now a.line c.in_ok-write_all.ensures.bytes a.adds,
    )) c.write_exposed.ensures
