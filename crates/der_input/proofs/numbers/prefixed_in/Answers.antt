use Rattle.std.proofs.Common.{◌∙◌, rules, tests}
use Rattle.std.proofs.lemmas.Iterator.Consumers.{YieldsList-at, YieldsList-from_filter, count_from_yields_List}
use Rattle.std.proofs.lemmas.Iterator.Splits.{YieldsList-from_slice_split}
use Rattle.std.proofs.lemmas.List.Sums.{length-filter}
use Rattle.std.specs.List.{slice_split}
use Rattle.der_input.specs.Numbers.{ends_word, is_prefixed}
use Rattle.der_input.proofs.numbers.prefixed_in.Goals as goal

pub returns : goal.returns
returns c =
    let split = c.split.ensures in
    count_from_yields_List c.filter.result c.count.result c.count.ensures.ran
    (YieldsList-from_filter _ is_prefixed (YieldsList-at c.filter.ensures.source
    (YieldsList-from_slice_split _ ends_word c.args.text.now split.rest split.done split.closure (λ x b q k. search (rules, tests))))
    c.filter.ensures.closure (λ x b q k. search (rules, tests)))
    ∙ length-filter is_prefixed (slice_split ends_word c.args.text.now)
