use Rattle.std.proofs.Common.{◌≤◌, sym, ap, ◌∙◌, arith}
use Rattle.der_base.specs.Time.{at_least_digits, without_last_zeros, or_zero}
use Rattle.der_base.proofs.Times.TimesShown.{wide, fewer, zero_goes, nonzero_stays, zero_shown}
use Rattle.der_print.proofs.time.shortest_fraction.Goals as goal

pub overflow_sub-least : goal.overflow_sub-least
overflow_sub-least c = wide c.loop-number.least c.loop-number.number (omega (arith, c.loop-number-test.true, c.loop-number.invariant.some)) c.loop-number.invariant.few

pub returns-then-nanosecond-eq0 : goal.returns-then-nanosecond-eq0
returns-then-nanosecond-eq0 c = zero_shown ∙ ap (λ n. or_zero (without_last_zeros (at_least_digits 9 n))) (sym c.if-nanosecond-eq0.true)

pub loop-number-preserved : goal.loop-number-preserved
loop-number-preserved c =
    let d = c.loop-number.number in
    let w = c.loop-number.least in
    let i = c.loop-number.invariant in
    let some : 10 ≤ d = omega (arith, c.loop-number-test.true, i.some) in
    let room = wide w d some i.few in
    record {
      same = sym (zero_goes w d room some (omega (arith, c.loop-number.auto.number-fits)) c.loop-number-test.true) ∙ i.same;
      some = omega arith;
      few = fewer w d room i.few;
    }

pub returns : goal.returns
returns c = nonzero_stays c.loop-number.least c.loop-number.number (omega (arith, c.loop-number.auto.number-fits)) c.loop-number-test.false ∙ ap or_zero c.loop-number.invariant.same
