use Rattle.std.proofs.Common.{arith, sym}
use Rattle.der_print.proofs.PieceLaws.{short_units}
use Rattle.der_print.proofs.pieces.next_of_units.Goals as goal

pub returns-in_default : goal.returns-in_default
returns-in_default c = sym (short_units c.args.octets.now (omega arith))
