use Rattle.std.proofs.Common.{inl, inr, refl, true, false}
use Rattle.der_base.specs.declared.rules.Rules.TheVariants.{Ber}
use Rattle.der_schema.specs.Known.{all_extras}
use Rattle.der_schema.specs.Meaning.{root_of}
use Rattle.der_show.proofs.PlaceLaws.{found_place, looked_more, looked_none, one_more_place}
use Rattle.der_show.proofs.place.place_of.Goals as goal

pub elements-init : goal.elements-init
elements-init c = record {
  so = looked_none c.args.offset c.new-path.ensures c.new-around.ensures
      (c.keeping_values-walk.ensures (record { enters_strings = true; keeps_values = false }) Ber
      c.args.octets.now c.new.ensures) c.new-namer.ensures;
}

pub enter-requires : goal.enter-requires
enter-requires c =
    let p = c.elements.invariant.so in
    let next = rw c.in-Ok-Some.field-0-is
    at (c.in-Ok-Some.ensures.visits all_extras Ber c.args.octets.now p.elements p.visited) in
    next.3

pub elements-preserved : goal.elements-preserved
elements-preserved c =
    let p = c.elements.invariant.so in
    let i = c.args.octets.now in
    let e = c.in-Ok-Some.element in
    let next = rw c.in-Ok-Some.field-0-is
    at (c.in-Ok-Some.ensures.visits all_extras Ber i p.elements p.visited) in
    let named = c.name_of-name.ensures (root_of c.args.schema) i p.elements p.named next.3 in
    let one = one_more_place e c.name_of-name.result c.is_identifier.result p next.0 next.1 next.2 named
    c.enter.ensures c.is_identifier.ensures c.past-around.ensures in
    record { so = looked_more e c.name_of-name.result p one c.if-element-offset.false }

pub returns-then-element-offset : goal.returns-then-element-offset
returns-then-element-offset c =
    let p = c.elements.invariant.so in
    let i = c.args.octets.now in
    let e = c.in-Ok-Some.element in
    let next = rw c.in-Ok-Some.field-0-is
    at (c.in-Ok-Some.ensures.visits all_extras Ber i p.elements p.visited) in
    let named = c.name_of-name.ensures (root_of c.args.schema) i p.elements p.named next.3 in
    let one = one_more_place e c.name_of-name.result c.is_identifier.result p next.0 next.1 next.2 named
    c.enter.ensures c.is_identifier.ensures c.past-around.ensures in
    found_place c.args.offset p.elements _ one c.if-element-offset.true refl c.identifier.ensures

pub returns-in-Ok-None : goal.returns-in-Ok-None
returns-in-Ok-None c =
    let p = c.elements.invariant.so in
    let all = rw c.in-Ok-None.field-0-is
    at (c.in-Ok-None.ensures.visits all_extras Ber c.args.octets.now p.elements p.visited) in
    record { elements = p.elements; ended = inl all; none = p.none }

pub returns-in-Err : goal.returns-in-Err
returns-in-Err c =
    let p = c.elements.invariant.so in
    let refused = c.in-Err.ensures.visits all_extras Ber c.args.octets.now p.elements p.visited in
    record { elements = p.elements; ended = inr (_, _, refused); none = p.none }
