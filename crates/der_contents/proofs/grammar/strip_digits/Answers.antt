use Rattle.std.proofs.Common.{arith, drop, length, subst, sym, take, ◌-◌, ◌≡◌}
use Rattle.std.proofs.lemmas.List.{take_rest}
use Rattle.der_base.specs.Time.{IsDigit}
use Rattle.der_contents.specs.Grammar.{BeginsWithNo}
use Rattle.der_contents.proofs.grammar.strip_digits.Goals as goal

pub returns-then-count-eq0 : goal.returns-then-count-eq0
returns-then-count-eq0 c =
    subst (λ n. BeginsWithNo IsDigit (drop n c.args.octets.now)) c.if-count-eq0.true
    c.count_digits-count.ensures.behind

pub returns : goal.returns
returns c =
    let d = c.count_digits-count.ensures in
    let w = c.args.octets.now in
    let n = c.count_digits-count.result in
    let e : take (length w - n) (drop n w) ≡ drop n w = take_rest w n in
    (n, omega arith, d.within, d.digits, e, subst (BeginsWithNo IsDigit) (sym e) d.behind)
