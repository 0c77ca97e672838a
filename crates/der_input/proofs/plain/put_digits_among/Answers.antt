use Rattle.std.proofs.Common.{◌≡◌, ◌∙◌, ap, arith, filter, get_or, length, length-append, length-take-le, not, sym, take, true}
use Rattle.der_input.specs.Marks.{is_separator}
use Rattle.der_input.proofs.Rooms.{one_more}
use Rattle.der_input.proofs.plain.put_digits_among.Goals as goal

pub returns-in_err-end : goal.returns-in_err-end
returns-in_err-end c =
    let i = c.args.octets.now in
    let k = c.octets.octet-index in
    let room = c.args.room.now in
    let passes : not (is_separator (get_or i k 0)) ≡ true = ap not (sym c.is_separator.ensures ∙ c.if-not-is_separator.true) in
    let more = one_more (λ c. not (is_separator c)) i k 0 (omega arith) passes in
    let others = filter (λ c. not (is_separator c)) (take k i) in
    rw c.from_residual.ensures (omega (
      arith,
      more,
      c.in_err-end.ensures,
      ap length c.octets.invariant.written,
      length-append (take c.args.at room) others,
      length-take-le c.args.at room c.requires,
      length-take-le c.octets.end c.octets.room c.octets.invariant.within,
    ))
