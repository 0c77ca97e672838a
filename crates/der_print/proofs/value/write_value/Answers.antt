use Rattle.std.proofs.Common.{rules, subst}
use Rattle.der_print.specs.Names.{table_of}
use Rattle.der_print.specs.Values.{IsUniversalValue}
use Rattle.der_print.proofs.ValueLaws.{value_of_universal}
use Rattle.der_print.proofs.value.write_value.Goals as goal

pub returns : goal.returns
returns g c =
    let e = c.args.element.now in
    let same = c.octets_or_none-octets.ensures in
    let own = table_of c.args.own in
    λ plain ok.
    let k = c.write_universal.ensures plain ok in
    (k.0, value_of_universal own c.args.limit e.class e.number _ k.0 (search rules) (subst (λ w. IsUniversalValue own c.args.limit e.number w k.0) same k.1), k.2)
