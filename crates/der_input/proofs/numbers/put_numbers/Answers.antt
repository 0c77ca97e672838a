use Rattle.std.proofs.Common.{◌∙◌, ap, sym, arith, length, length-take-le, rules, tests}
use Rattle.std.specs.List.{flat_map}
use Rattle.std.proofs.lemmas.Iterator.Consumers.{YieldsList-at, YieldsList-end}
use Rattle.std.proofs.lemmas.Iterator.Splits.{YieldsList-from_slice_split}
use Rattle.std.proofs.lemmas.List.Folds.{flat_map-map}
use Rattle.der_input.specs.Numbers.{digits_of_number, is_between}
use Rattle.der_input.proofs.Rooms.{more_than_room}
use Rattle.der_input.proofs.numbers.put_numbers.Goals as goal

pub returns : goal.returns
returns c =
    let split = c.split-word-items.ensures in
    let all = YieldsList-end
    (YieldsList-at c.into_iter-word-iterator.ensures.into_iter_gives (YieldsList-from_slice_split _ is_between c.args.text.now split.rest split.done split.closure (λ x b q k. search (rules, tests))))
    c.words.yielded _ c.words.yielded_by _ _ c.in-None.is c.next.ensures.steps in
    (c.words.invariant.within, c.words.invariant.written ∙ sym (flat_map-map digits_of_number (λ x. x.now) c.words.yielded) ∙ ap (flat_map digits_of_number) all.0)

pub returns-in_err-at : goal.returns-in_err-at
returns-in_err-at c =
    let split = c.split-word-items.ensures in
    let within = more_than_room digits_of_number (YieldsList-at c.into_iter-word-iterator.ensures.into_iter_gives (YieldsList-from_slice_split _ is_between c.args.text.now split.rest split.done split.closure (λ x b q k. search (rules, tests)))) c.words.yielded _ c.words.yielded_by _ _ c.in-Some.word c.in-Some.is c.next.ensures.steps in
    rw c.from_residual.ensures (omega (arith, within, c.in_err-at.ensures, ap length c.words.invariant.written, length-take-le c.words.at c.words.room c.words.invariant.within))
