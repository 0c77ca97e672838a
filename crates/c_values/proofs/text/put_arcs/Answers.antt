use Rattle.std.proofs.Common.{◌≡◌, ◌-◌, ◌^◌, ◌≤◌, [], ◌∷◌, length, arith, rules, decimal, sym, subst}
use Rattle.der_base.specs.Pretty.{dotted, pointed}
use Rattle.der_values.specs.Identifiers.{u128_arcs_left}
use Rattle.c_values.specs.Texts.{PutsText}
use Rattle.c_values.proofs.Puts.{puts_none, puts_more}
use Rattle.c_values.proofs.text.put_arcs.Goals as goal

pub returns-in_default : goal.returns-in_default
returns-in_default c =
    let room = c.args.room.now in
    let none : u128_arcs_left c.args.arcs ≡ [] = search rules in
    let at = c.args.at in
    subst (λ l. PutsText room at (dotted l) room at) (sym none) (puts_none room at c.ranges.at.fits)

pub returns : goal.returns
returns c =
    let room = c.args.room.now in
    let before = c.put_number-end.new.room in
    let after = c.put_further_arcs.new.room in
    let others = u128_arcs_left c.next.new.self in
    let some : u128_arcs_left c.args.arcs ≡ c.in-Some.first ∷ others = search rules in
    let short : length room ≤ 2 ^ 64 - 1 = omega arith in
    let both = puts_more room before after (decimal c.in-Some.first) (pointed others) c.args.at c.put_number-end.result c.put_further_arcs.result short c.put_number-end.ensures c.put_further_arcs.ensures in
    subst (λ l. PutsText room c.args.at (dotted l) after c.put_further_arcs.result) (sym some) both
