use Rattle.std.proofs.Common.{◌-◌, length, arith, rules}
use Rattle.der_print.proofs.RowLaws.{at_left_of, spaces_then}
use Rattle.der_print.proofs.row.Row.put_at_left.Goals as goal

pub invariant_of-self : goal.invariant_of-self
invariant_of-self c =
    let r = c.args.self.now in
    let s = r.start - c.saturating_sub.result - length c.args.octets.now in
    record { within = omega arith; free = spaces_then r.octets _ r.start s s r.free (omega arith) (omega arith) }

pub returns-clause-text : goal.returns-clause-text
returns-clause-text c =
    let r = c.args.self.now in
    let text = c.args.octets.now in
    let end = r.start - c.saturating_sub.result in
    rw c.copy_from_slice.ensures.after
    (at_left_of r.octets text r.start (end - length text) end c.args.columns r.free (omega arith) (search rules) (omega arith))
