use Rattle.std.proofs.Common.{sym, ◌∙◌, arith}
use Rattle.der_writer.proofs.Sorting.{as_told, at_first, found_in, further_in, none_in}
use Rattle.der_writer.proofs.set_of.place_of.Goals as goal

pub loop-place-init : goal.loop-place-init
loop-place-init c = record { within = omega arith; split = λ ts s h e at. at_first ts s h }

pub returns-then-descends-clause-place : goal.returns-then-descends-clause-place
returns-then-descends-clause-place c =
    found_in c.args.content.now _ _ c.args.last c.loop-place.place c.element_size-size.result _ _ c.split_at.ensures.front c.split_at.ensures.back
    c.loop-place-test.true (omega arith) (omega arith) c.element_size-size.ensures c.loop-place.invariant.split
    (sym (as_told _ _ _ c.descends.ensures) ∙ c.if-descends.true)

pub loop-place-preserved : goal.loop-place-preserved
loop-place-preserved c =
    let h = c.loop-place.invariant in
    record {
      within = omega (arith, h.within, c.element_size-size.ensures.within, c.split_at.ensures.front_len);
      split =
          further_in c.args.content.now _ _ c.args.last c.loop-place.place c.element_size-size.result _ _ c.split_at.ensures.front c.split_at.ensures.back
          c.loop-place-test.true (omega arith) (omega arith) c.element_size-size.ensures h.split
          (sym (as_told _ _ _ c.descends.ensures) ∙ c.if-descends.false);
    }

pub returns-clause-place : goal.returns-clause-place
returns-clause-place c = none_in c.args.content.now c.args.last c.loop-place.place c.loop-place-test.false c.loop-place.invariant.split
