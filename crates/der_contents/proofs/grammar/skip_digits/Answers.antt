use Rattle.std.proofs.Common.{arith, drop, length, subst, sym, take, ◌-◌, ◌≡◌}
use Rattle.std.proofs.lemmas.List.{take_rest}
use Rattle.der_base.specs.Time.{IsDigit}
use Rattle.der_contents.specs.Grammar.{BeginsWithNo}
use Rattle.der_contents.proofs.grammar.skip_digits.Goals as goal

pub returns : goal.returns
returns c =
    let d = c.count_digits.ensures in
    let w = c.args.octets.now in
    let n = c.count_digits.result in
    let e : take (length w - n) (drop n w) ≡ drop n w = take_rest w n in
    (n, omega arith, d.within, d.digits, e, subst (BeginsWithNo IsDigit) (sym e) d.behind)
