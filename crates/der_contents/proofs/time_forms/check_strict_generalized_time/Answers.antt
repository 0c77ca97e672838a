use Rattle.std.proofs.Common.{◌≡◌, ◌-◌, length, take, drop, subst}
use Rattle.std.proofs.lemmas.List.{take_rest}
use Rattle.der_contents.specs.ContentRules.{Checks, fraction_rules, strict_time_rules}
use Rattle.der_contents.proofs.RuleLaws.{both_lists, broken_in_front}
use Rattle.der_contents.proofs.time_forms.check_strict_generalized_time.Goals as goal

pub returns-in-Ok : goal.returns-in-Ok
returns-in-Ok c =
    let w = c.args.octets.now in
    let e : take (length w - 14) (drop 14 w) ≡ drop 14 w = take_rest w 14 in
    both_lists (strict_time_rules 14 w) (fraction_rules (drop 14 w)) c.check_fraction.result c.in-Ok.ensures
    (subst (λ v. Checks (fraction_rules v) c.check_fraction.result) e c.check_fraction.ensures)

pub returns-in-Err : goal.returns-in-Err
returns-in-Err c =
    broken_in_front (strict_time_rules 14 c.args.octets.now) (fraction_rules (drop 14 c.args.octets.now)) c.in-Err.e
    c.in-Err.ensures
