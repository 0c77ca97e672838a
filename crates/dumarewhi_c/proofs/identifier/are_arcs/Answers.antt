use Rattle.std.proofs.Common.{◌∙◌, ap, sym, rules, tests}
use Rattle.std.specs.Prelude.{◌==◌}
use Rattle.std.specs.List.{list_all}
use Rattle.std.proofs.lemmas.Iterator.Search.{all_from_yields_List}
use Rattle.std.proofs.lemmas.Iterator.Splits.{YieldsList-from_slice_split}
use Rattle.dumarewhi_c.specs.DottedTexts.{components_left, is_arc}
use Rattle.dumarewhi_c.proofs.identifier.are_arcs.Goals as goal

pub returns : goal.returns
returns c =
    let split = c.split.ensures in
    all_from_yields_List is_arc _ _ _ c.all.ensures.ran
    (YieldsList-from_slice_split _ (λ o. o == 46) c.in-Some.text.now split.rest split.done split.closure (λ x b q k. search (rules, tests)))
    (λ x b q k. search (rules, tests))
    ∙ ap (λ o. list_all is_arc (components_left o)) (sym c.in-Some.is)
