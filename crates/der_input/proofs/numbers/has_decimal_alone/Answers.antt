use Rattle.std.proofs.Common.{rules, tests}
use Rattle.std.proofs.lemmas.Iterator.Search.{any_from_yields_List}
use Rattle.std.proofs.lemmas.Iterator.Splits.{YieldsList-from_slice_split}
use Rattle.der_input.specs.Numbers.{is_between, is_decimal_alone}
use Rattle.der_input.proofs.numbers.has_decimal_alone.Goals as goal

pub returns : goal.returns
returns c =
    let split = c.split.ensures in
    any_from_yields_List is_decimal_alone _ _ c.any.result c.any.ensures.ran
    (YieldsList-from_slice_split _ is_between c.args.text.now split.rest split.done split.closure (λ x b q k. search (rules, tests)))
    (λ x b q k. search (rules, tests))
