use Rattle.std.proofs.Common.{true, false, refl}
use Rattle.der_elements.specs.Walked.{visited_of}
use Rattle.der_schema.specs.Known.{all_extras}
use Rattle.der_schema.specs.Meaning.{root_of}
use Rattle.type_words.specs.Places.{said_of}
use Rattle.type_words.proofs.ItemLaws.{put_more, put_none}
use Rattle.type_words.proofs.walk.write_words.Goals as goal

pub elements-init : goal.elements-init
elements-init g c = record {
  so = put_none (root_of c.args.schema) c.args.rules c.args.input.now _ _ _ _
      (c.keeping_values-walk.ensures (record { enters_strings = true; keeps_values = false }) c.args.rules
      c.args.input.now c.new.ensures) c.new-namer.ensures c.new-places.ensures;
}

pub pass-requires : goal.pass-requires
pass-requires g c =
    let p = c.elements.invariant.so in
    (rw c.in-Ok-Some.field-0-is at (c.in-Ok-Some.ensures.visits all_extras c.args.rules c.args.input.now p.elements p.visited)).3

pub elements-preserved-in-Continue-1 : goal.elements-preserved-in-Continue-1
elements-preserved-in-Continue-1 g c =
    let p = c.elements.invariant.so in
    let i = c.args.input.now in
    let sc = root_of c.args.schema in
    let e = c.in-Ok-Some.element in
    let next = rw c.in-Ok-Some.field-0-is at (c.in-Ok-Some.ensures.visits all_extras c.args.rules i p.elements p.visited) in
    record {
      so = put_more sc c.args.rules i _ _ _ _ _ _ _ _ _ (visited_of e) c.name_of-name.result (said_of c.pass.result) p next.0
          (c.name_of-name.ensures sc i p.elements p.named next.3) c.pass.ensures.item c.pass.ensures.places
          (rw c.in-Some.is c.in_ok-put-in-Ok-Some.ensures);
    }

pub elements-preserved : goal.elements-preserved
elements-preserved g c =
    let p = c.elements.invariant.so in
    let i = c.args.input.now in
    let sc = root_of c.args.schema in
    let e = c.in-Ok-Some.element in
    let next = rw c.in-Ok-Some.field-0-is at (c.in-Ok-Some.ensures.visits all_extras c.args.rules i p.elements p.visited) in
    record {
      so = put_more sc c.args.rules i _ _ _ _ _ _ _ _ _ (visited_of e) c.name_of-name.result (said_of c.pass.result) p next.0
          (c.name_of-name.ensures sc i p.elements p.named next.3) c.pass.ensures.item c.pass.ensures.places
          (rw c.in_default.is refl);
    }

pub returns-in-Ok-None : goal.returns-in-Ok-None
returns-in-Ok-None g c =
    let p = c.elements.invariant.so in
    let all = rw c.in-Ok-None.field-0-is at (c.in-Ok-None.ensures.visits all_extras c.args.rules c.args.input.now p.elements p.visited) in
    (p.elements, all, p.put)

pub returns-in-Err : goal.returns-in-Err
returns-in-Err g c =
    let p = c.elements.invariant.so in
    let refused = c.in-Err.ensures.visits all_extras c.args.rules c.args.input.now p.elements p.visited in
    (p.elements, (refused.never, (_, refused.first)), p.put)
