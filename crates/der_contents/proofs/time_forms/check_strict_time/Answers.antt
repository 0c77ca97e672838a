use Rattle.std.proofs.Common.{arith, inl, inr, refl}
use Rattle.der_base.specs.Time.{IsDigit}
use Rattle.der_contents.proofs.GrammarLaws.{fewer_all, not_more}
use Rattle.der_contents.proofs.time_forms.check_strict_time.Goals as goal

pub returns-then-count_digits-digits : goal.returns-then-count_digits-digits
returns-then-count_digits-digits c =
    let d = c.count_digits.ensures in
    inr (
      c.if-not-ends_in_z.ensures.0 refl,
      inl (
        (λ h. not_more IsDigit c.args.digits c.count_digits.result c.args.octets.now (omega arith) h.0 h.1 d.behind),
        refl,
      ),
    )

pub returns : goal.returns
returns c =
    let d = c.count_digits.ensures in
    let first = fewer_all IsDigit c.args.digits c.count_digits.result c.args.octets.now (omega arith) d.digits in
    (c.if-not-ends_in_z.ensures.0 refl, ((omega (arith, d.within), first), tt))
