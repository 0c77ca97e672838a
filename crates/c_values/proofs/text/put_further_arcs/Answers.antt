use Rattle.std.proofs.Common.{◌≡◌, ◌-◌, ◌^◌, ◌≤◌, [], ◌++◌, length, arith, rules, codes, decimal, ◌∙◌, ap, sym, append_assoc}
use Rattle.der_base.specs.Pretty.{pointed}
use Rattle.der_values.specs.Identifiers.{u128_arcs_left}
use Rattle.c_values.proofs.Puts.{puts_none, puts_more}
use Rattle.c_values.proofs.text.put_further_arcs.Goals as goal

pub loop-arc-init : goal.loop-arc-init
loop-arc-init c =
    let all : pointed (u128_arcs_left c.args.arcs) ≡ pointed (u128_arcs_left c.into_iter-arc-iterator.result) = search rules in
    ([], all, puts_none c.args.room.now c.args.at c.ranges.at.fits)

pub loop-arc-preserved : goal.loop-arc-preserved
loop-arc-preserved c =
    let done = c.loop-arc.invariant in
    let number = decimal c.in-Some.arc in
    let text = codes "." ++ number in
    let others = pointed (u128_arcs_left c.next.new.self) in
    let room = c.args.room.now in
    let before = c.loop-arc.room in
    let after = c.put_number-end.new.room in
    let short : length room ≤ 2 ^ 64 - 1 = omega arith in
    let short' : length before ≤ 2 ^ 64 - 1 = omega arith in
    let point = c.put_text-end in
    let both = puts_more before point.new.room after (codes ".") number c.loop-arc.end point.result c.put_number-end.result short' point.ensures c.put_number-end.ensures in (
      done.0 ++ text,
      done.1 ∙ ap (λ l. done.0 ++ pointed l) c.in-Some.ensures.steps ∙ sym (append_assoc done.0 text others),
      puts_more room before after done.0 text c.args.at c.loop-arc.end c.put_number-end.result short done.2 both,
    )
