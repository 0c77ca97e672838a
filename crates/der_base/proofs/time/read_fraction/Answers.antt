use Rattle.std.proofs.Common.{refl, subst, inl, inr}
use Rattle.der_base.specs.Inner.TimeParts.{BeginsWithFraction}
use Rattle.der_base.proofs.Times.TimesRead.{fraction_refused, fraction_found}
use Rattle.der_base.proofs.time.read_fraction.Goals as goal

pub returns-then-count-eq0 : goal.returns-then-count-eq0
returns-then-count-eq0 c =
    let d = c.count_digits-count.ensures in
    λ x rest h. fraction_refused c.in-Some.mark.now c.count_digits-count.result c.in-Some.behind.now rest x (c.if-not-is_mark.ensures.0 refl) d.within d.digits d.behind
    (elim c.then-count-eq0.either [ inl z ↦ inl z | inr z ↦ inr z.1 ])
    (subst (λ w. BeginsWithFraction w x rest) c.in-Some.ensures.cases.0 h)

pub returns : goal.returns
returns c =
    let d = c.count_digits-count.ensures in
    fraction_found c.args.content.now c.in-Some.behind.now c.split_at.result.0.now c.split_at.result.1.now c.in-Some.mark.now c.count_digits-count.result c.nanoseconds.result
    c.in-Some.ensures.cases.0
    (c.if-not-is_mark.ensures.0 refl) d.within d.digits d.behind c.if-count-eq0.false c.if-count-gt9.false c.split_at.ensures.front c.split_at.ensures.back c.nanoseconds.ensures
