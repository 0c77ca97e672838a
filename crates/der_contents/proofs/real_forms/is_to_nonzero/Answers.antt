use Rattle.std.proofs.Common.{arith, drop, length, subst, sym, take, ◌-◌, ◌≡◌}
use Rattle.std.proofs.lemmas.Bool.Decides.{nat_tests}
use Rattle.std.proofs.lemmas.List.{take_rest}
use Rattle.der_contents.specs.RealForms.{IsStrictPower}
use Rattle.der_contents.proofs.FormLaws.{strict_power_no_digit}
use Rattle.der_contents.proofs.GrammarLaws.{never_told, to_nonzero}
use Rattle.der_contents.proofs.real_forms.is_to_nonzero.Goals as goal

pub returns-then-count-eq0 : goal.returns-then-count-eq0
returns-then-count-eq0 c =
    let d = c.count_digits-count.ensures in
    let n = c.count_digits-count.result in
    let m = to_nonzero IsStrictPower strict_power_no_digit n c.args.octets.now d.within d.digits d.behind in
    never_told _ (λ h. let q = m.0 h in absurd (grind (arith, nat_tests, q)))

pub returns : goal.returns
returns c =
    let w = c.args.octets.now in
    let d = c.count_digits-count.ensures in
    let n = c.count_digits-count.result in
    let e : take (length w - n) (drop n w) ≡ drop n w = take_rest w n in
    let m = to_nonzero IsStrictPower strict_power_no_digit n w d.within d.digits d.behind in (
      (λ t. m.1 (omega arith, omega arith, subst IsStrictPower e (c.is_strict_power.ensures.0 t))),
      (λ h. c.is_strict_power.ensures.1 (subst IsStrictPower (sym e) (m.0 h).2)),
    )
