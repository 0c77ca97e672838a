use Rattle.std.proofs.Common.{◌≡◌, ◌≤◌, length, ap, arith}
use Rattle.std.proofs.lemmas.Bool.Decides.{nat_tests}
use Rattle.der_values.proofs.Subidentifiers.{none_of_length}
use Rattle.der_contents.proofs.grammar.is_end.Goals as goal

pub returns : goal.returns
returns c =
    let w = c.args.octets.now in (
      (λ t. let none : length w ≤ 0 = grind (arith, nat_tests, t) in none_of_length w none),
      (λ e. let long : length w ≡ 0 = ap length e in grind (arith, nat_tests)),
    )
