use Rattle.std.proofs.Common.{◌*◌, ◌<◌, ◌^◌, length, ap, subst, arith}
use Rattle.std.proofs.lemmas.Grind.{pow_more}
use Rattle.der_base.proofs.Times.TimesRead.{few_digits, digits_more, few_nanoseconds}
use Rattle.der_base.proofs.time.nanoseconds.Goals as goal

pub overflow_mul-number : goal.overflow_mul-number
overflow_mul-number c = omega (arith, few_digits c.loop-digit.digit-index (omega (arith, c.loop-digit-test.true, c.requires.at_most_nine)), c.loop-digit.invariant.1)

pub overflow_add-number : goal.overflow_add-number
overflow_add-number c = omega (arith, few_digits c.loop-digit.digit-index (omega (arith, c.loop-digit-test.true, c.requires.at_most_nine)), c.loop-digit.invariant.1, c.from.type_inv)

pub loop-digit-preserved : goal.loop-digit-preserved
loop-digit-preserved c =
    let digit = c.requires.digits c.loop-digit.digit-index 0 c.loop-digit-test.true in (
      omega (arith, digits_more c.args.digits.now c.loop-digit.digit-index c.loop-digit-test.true, c.loop-digit.invariant.0, c.from.ensures),
      omega (arith, pow_more 10 c.loop-digit.digit-index, c.loop-digit.invariant.1, c.from.ensures, digit.0, digit.1),
    )

pub overflow_mul-result : goal.overflow_mul-result
overflow_mul-result c =
    let whole = few_nanoseconds c.loop-digit.number (length c.args.digits.now) c.requires.at_most_nine
    (subst (λ k. c.loop-digit.number < 10 ^ k) (omega (arith, c.loop-digit-test.false, c.loop-digit.auto.digit-index-end)) c.loop-digit.invariant.1) in
    omega (arith, whole, ap (λ p. c.loop-digit.number * p) c.pow.ensures)
