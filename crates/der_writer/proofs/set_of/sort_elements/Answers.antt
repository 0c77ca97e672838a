use Rattle.std.proofs.Common.{◌+◌, ◌++◌, drop, refl, ap, ◌∙◌, arith}
use Rattle.std.proofs.lemmas.Grind.{common_steps}
use Rattle.der_writer.proofs.Sorting.{from_on, none_sorted, one_sorted, all_sorted}
use Rattle.der_writer.proofs.set_of.sort_elements.Goals as goal

pub loop-last-init : goal.loop-last-init
loop-last-init c = record { size = refl; within = omega arith; sorted = λ ss h e. none_sorted ss _ h e }

pub loop-last-preserved : goal.loop-last-preserved
loop-last-preserved c =
    let h = c.loop-last.invariant in
    let end = c.loop-last.last + c.element_size.result in
    let m = c.element_size.ensures in
    record {
      size = grind (arith, common_steps);
      within = grind (arith, common_steps);
      sorted = λ ss k e.
          one_sorted ss c.loop-last.last end c.loop-last.content _ (h.sorted ss k e) c.loop-last-test.true
          (λ s rest is own. ap (λ n. c.loop-last.last + n) (m.exact s rest is (from_on c.loop-last.content c.loop-last.last _ (omega arith) ∙ own)))
          (λ ts s is front at. ap (λ l. l ++ drop end c.loop-last.content) (c.insert_last.ensures.put ts s is front at));
    }

pub returns : goal.returns
returns c =
    let h = c.loop-last.invariant in
    record { size = h.size; sorts = λ ss k e. all_sorted ss c.loop-last.last c.loop-last.content (h.sorted ss k e) c.loop-last-test.false }
