use Rattle.std.proofs.Common.{ap, arith, decimal, length, sym, ◌∙◌}
use Rattle.der_print.proofs.NumberLaws.{digits_between, digits_of_none}
use Rattle.der_print.proofs.row.digits_of.Goals as goal

pub returns-in-Some : goal.returns-in-Some
returns-in-Some c = digits_between c.args.number c.in-Some.zeros (omega arith) c.in-Some.ensures.power_le c.in-Some.ensures.next_power_gt

pub returns-in-None : goal.returns-in-None
returns-in-None c = digits_of_none ∙ ap (λ n. length (decimal n)) (sym c.in-None.ensures.none)
