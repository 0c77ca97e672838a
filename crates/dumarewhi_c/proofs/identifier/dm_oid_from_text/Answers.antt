use Rattle.std.proofs.Common.{◌-◌, ◌^◌, ◌≤◌, length, refl, sym, subst, arith}
use Rattle.std.specs.List.{flat_map}
use Rattle.c_values.specs.Texts.{ReturnsText}
use Rattle.c_values.proofs.Puts.{puts_more}
use Rattle.der_base.specs.Octets.{groups}
use Rattle.dumarewhi_c.specs.DottedTexts.{components_left, groups_if_arc}
use Rattle.dumarewhi_c.proofs.identifier.dm_oid_from_text.Goals as goal

pub returns : goal.returns
returns c =
    let octets = c.args.octets.now in
    let first = c.put_subidentifier-end in
    let new = c.put_others.new.octets in
    let others = flat_map groups_if_arc (components_left c.in-Some.others) in
    let short : length octets ≤ 2 ^ 64 - 1 = omega arith in
    let both = puts_more octets first.new.octets new (groups c.in-Some.number) others 0 first.result c.put_others.result short first.ensures c.put_others.ensures in
    subst (λ o. ReturnsText o octets new c.args.needed.now c.put_others.result 0) (sym c.in-Some.ensures) (refl, both)
