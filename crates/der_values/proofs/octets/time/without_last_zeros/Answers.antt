use Rattle.std.proofs.Common.{◌≡◌, ap, ◌∙◌, arith}
use Rattle.der_base.specs.Time.{or_zero}
use Rattle.der_values.proofs.OctetsLaws.Digits.{zero_goes, digits_stay, zero_stays}
use Rattle.der_values.proofs.octets.time.without_last_zeros.Goals as goal

pub returns-then-n-eq0-clause-digits : goal.returns-then-n-eq0-clause-digits
returns-then-n-eq0-clause-digits c = let e : c.args.n ≡ 0 = omega arith in rw e zero_stays

pub loop-rest-preserved : goal.loop-rest-preserved
loop-rest-preserved c =
    record {
      some = omega arith;
      left = rw (c.saturating_sub-digits.ensures) (zero_goes c.loop-rest.digits c.loop-rest.rest c.loop-rest.invariant.some (omega arith) (omega arith)) ∙ c.loop-rest.invariant.left;
      few = omega (arith, c.saturating_sub-digits.ensures);
    }

pub returns-clause-digits : goal.returns-clause-digits
returns-clause-digits c = digits_stay c.loop-rest.digits c.loop-rest.rest (λ e. absurd (omega arith)) (omega arith) ∙ ap or_zero c.loop-rest.invariant.left
