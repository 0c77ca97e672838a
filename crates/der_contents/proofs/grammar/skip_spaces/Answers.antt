use Rattle.std.proofs.Common.{arith, drop, length, subst, sym, take, ◌-◌, ◌≡◌}
use Rattle.std.proofs.lemmas.List.{take_rest}
use Rattle.der_contents.specs.Grammar.{BeginsWithNo, IsSpace}
use Rattle.der_contents.proofs.grammar.skip_spaces.Goals as goal

pub returns : goal.returns
returns c =
    let d = c.count_spaces.ensures in
    let w = c.args.octets.now in
    let n = c.count_spaces.result in
    let e : take (length w - n) (drop n w) ≡ drop n w = take_rest w n in
    (n, omega arith, d.within, d.spaces, e, subst (BeginsWithNo IsSpace) (sym e) d.behind)
