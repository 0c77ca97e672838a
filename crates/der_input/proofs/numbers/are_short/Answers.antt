use Rattle.std.proofs.Common.{rules, tests}
use Rattle.std.proofs.lemmas.Iterator.Search.{all_from_yields_List}
use Rattle.std.proofs.lemmas.Iterator.Splits.{YieldsList-from_slice_split}
use Rattle.der_input.specs.Numbers.{ends_word, is_short}
use Rattle.der_input.proofs.numbers.are_short.Goals as goal

pub returns : goal.returns
returns c =
    let split = c.split.ensures in
    all_from_yields_List is_short _ _ c.all.result c.all.ensures.ran
    (YieldsList-from_slice_split _ ends_word c.args.text.now split.rest split.done split.closure (λ x b q k. search (rules, tests)))
    (λ x b q k. search (rules, tests))
