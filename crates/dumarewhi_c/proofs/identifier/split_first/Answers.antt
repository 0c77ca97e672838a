use Rattle.std.proofs.Common.{◌≡◌, true, ◌∷◌, ap, sym, ◌∙◌}
use Rattle.std.specs.List.{list_all}
use Rattle.der_base.specs.OidArcs.{components}
use Rattle.dumarewhi_c.specs.DottedTexts.{components_left, is_arc}
use Rattle.dumarewhi_c.proofs.Dotted.{are_octets}
use Rattle.dumarewhi_c.proofs.identifier.split_first.Goals as goal

pub returns : goal.returns
returns c =
    let a = c.cut.result.0.now in
    let b = c.cut-2.result.0.now in
    let cs = components_left c.cut-2.result.1 in
    let e : components c.args.text.now ≡ a ∷ b ∷ cs =
    c.cut.ensures ∙ ap (λ o. a ∷ components_left o) c.in_ok-rest.was ∙ ap (λ l. a ∷ l) c.cut-2.ensures in
    let others : list_all is_arc cs ≡ true = sym c.are_arcs.ensures ∙ c.if-not-are_arcs.false in
    are_octets c.args.text.now a b cs e c.in_ok-parse_arc.field-0 c.in_ok-parse_arc-2.field-0 c.in_ok-number.number c.in_ok-parse_arc.ensures c.in_ok-parse_arc-2.ensures others c.in_ok-number.ensures
