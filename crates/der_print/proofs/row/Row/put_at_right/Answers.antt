use Rattle.std.proofs.Common.{decimal, drop, ap, ◌∙◌, arith, rules}
use Rattle.std.proofs.lemmas.Fmt.{length-decimal-le}
use Rattle.der_print.proofs.RowLaws.{at_right_of, spaces_then, written}
use Rattle.der_print.proofs.row.Row.put_at_right.Goals as goal

pub write_digits-start-requires : goal.write_digits-start-requires
write_digits-start-requires c = search (rules, length-decimal-le 20)

pub invariant_of-self : goal.invariant_of-self
invariant_of-self c =
    let r = c.args.self.now in
    let w = c.write_digits-start in
    record {
      within = omega arith;
      free = rw (written r.octets w.new.buf _ w.result w.ensures.before w.ensures.written)
          (spaces_then r.octets _ r.start w.result c.min-self.result r.free (omega arith) (omega arith));
    }

pub returns-clause-text : goal.returns-clause-text
returns-clause-text c =
    let r = c.args.self.now in
    let w = c.write_digits-start in
    ap (drop c.min-self.result) (written r.octets w.new.buf _ w.result w.ensures.before w.ensures.written)
    ∙ at_right_of r.octets (decimal c.args.number) r.start w.result c.min-self.result c.args.columns r.free (omega arith) (omega arith) (search rules)

pub returns-clause-room : goal.returns-clause-room
returns-clause-room c =
    let short = length-decimal-le 20 c.args.number (omega arith) (omega arith) (omega arith) in
    omega arith
