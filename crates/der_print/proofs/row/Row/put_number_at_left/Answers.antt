use Rattle.std.proofs.Common.{◌-◌, decimal, drop, ap, ◌∙◌, arith}
use Rattle.std.proofs.lemmas.Fmt.{length-decimal-le}
use Rattle.der_print.proofs.RowLaws.{number_at_left_of, spaces_then, written}
use Rattle.der_print.proofs.row.Row.put_number_at_left.Goals as goal

pub write_digits-self-requires : goal.write_digits-self-requires
write_digits-self-requires c =
    let short = length-decimal-le 20 c.args.number (omega arith) (omega arith) (omega arith) in
    (omega arith, omega arith)

pub invariant_of-self : goal.invariant_of-self
invariant_of-self c =
    let r = c.args.self.now in
    let w = c.write_digits-self in
    record {
      within = omega arith;
      free = rw (written r.octets w.new.buf _ w.result w.ensures.before w.ensures.written)
          (spaces_then r.octets _ r.start w.result w.result r.free (omega arith) (omega arith));
    }

pub returns-clause-text : goal.returns-clause-text
returns-clause-text c =
    let r = c.args.self.now in
    let w = c.write_digits-self in
    ap (drop w.result) (written r.octets w.new.buf _ w.result w.ensures.before w.ensures.written)
    ∙ number_at_left_of r.octets (decimal c.args.number) r.start w.result (r.start - c.saturating_sub.result) c.args.columns r.free (omega arith) (omega arith) w.ensures.start

pub returns-clause-room : goal.returns-clause-room
returns-clause-room c =
    let short = length-decimal-le 20 c.args.number (omega arith) (omega arith) (omega arith) in
    omega arith
