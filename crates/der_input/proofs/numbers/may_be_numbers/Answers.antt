use Rattle.std.proofs.Common.{rules, tests}
use Rattle.std.proofs.lemmas.Iterator.Search.{all_from_yields_List}
use Rattle.std.proofs.lemmas.Iterator.Splits.{YieldsList-from_slice_split}
use Rattle.der_input.specs.Numbers.{is_between, may_be_number}
use Rattle.der_input.proofs.numbers.may_be_numbers.Goals as goal

pub returns : goal.returns
returns c =
    let split = c.split.ensures in
    all_from_yields_List may_be_number _ _ c.all.result c.all.ensures.ran
    (YieldsList-from_slice_split _ is_between c.args.text.now split.rest split.done split.closure (λ x b q k. search (rules, tests)))
    (λ x b q k. search (rules, tests))
