use Rattle.std.proofs.Common.{◌≡◌, ◌++◌, ◌-◌, drop, ap, ◌∙◌, arith}
use Rattle.der_base.specs.Pretty.{spaces}
use Rattle.der_print.proofs.RowLaws.{fewer, last_spaces}
use Rattle.der_print.proofs.row.Row.put_spaces.Goals as goal

pub invariant_of-self : goal.invariant_of-self
invariant_of-self c =
    let r = c.args.self.now in
    record { within = omega arith; free = fewer r.octets r.start (r.start - c.args.count) r.free (omega arith) }

pub returns-clause-text : goal.returns-clause-text
returns-clause-text c =
    let r = c.args.self.now in
    let count : r.start - (r.start - c.args.count) ≡ c.args.count = omega arith in
    last_spaces r.octets r.start (r.start - c.args.count) r.free (omega arith) ∙ ap (λ n. spaces n ++ drop r.start r.octets) count
