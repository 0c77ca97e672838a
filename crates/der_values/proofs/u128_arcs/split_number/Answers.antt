use Rattle.der_base.specs.Arcs.{subidentifiers}
use Rattle.der_values.proofs.SmallArcs.{all_ended, first_below, number_in_front, rest_below}
use Rattle.der_values.proofs.u128_arcs.split_number.Goals as goal

pub split_groups-requires : goal.split_groups-requires
split_groups-requires c = all_ended (subidentifiers c.args.octets.now) c.requires

pub returns-in-None : goal.returns-in-None
returns-in-None c = absurd (c.in-None.ensures (first_below c.args.octets.now c.in-Some.groups.now c.in-Some.rest.now c.in-Some.ensures.0 c.requires))

pub returns-in-Some-number_of : goal.returns-in-Some-number_of
returns-in-Some-number_of c =
    let e = c.in-Some.ensures.0 in (
      number_in_front c.args.octets.now c.in-Some.groups.now c.in-Some.rest.now e c.in-Some-number_of.number c.in-Some-number_of.ensures.1,
      rest_below c.args.octets.now c.in-Some.groups.now c.in-Some.rest.now e c.requires,
    )
