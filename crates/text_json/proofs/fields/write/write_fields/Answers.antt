use Rattle.std.proofs.Common.{false, true}
use Rattle.text_json.proofs.FieldsLaws.FieldLaws.{ends_fit, ends_whole, refused_fits, refused_whole, written_more}
use Rattle.text_json.proofs.FieldsLaws.FieldLaws.{written_none}
use Rattle.der_print.specs.Names.{table_of}
use Rattle.der_schema.specs.Known.{all_extras}
use Rattle.der_schema.specs.Meaning.{root_of}
use Rattle.text_json.proofs.fields.write.write_fields.Goals as goal

pub elements-init : goal.elements-init
elements-init g c = record {
  so = written_none (table_of c.args.own) c.args.style _
      (c.keeping_values-walk.ensures (record { enters_strings = true; keeps_values = false }) c.args.rules
      c.args.input.now c.new.ensures) c.new-namer.ensures (c.new-secrets.ensures (root_of c.args.schema) c.args.input.now);
}

pub elements-preserved : goal.elements-preserved
elements-preserved g c =
    let p = c.elements.invariant.so in
    let i = c.args.input.now in
    let sc = root_of c.args.schema in
    let e = c.in-Ok-Some.element in
    let next = rw c.in-Ok-Some.field-0-is
    at (c.in-Ok-Some.ensures.visits all_extras c.args.rules i p.elements p.visited) in
    let named = c.name_of-name.ensures sc i p.elements p.named next.3 in
    record {
      so = written_more e c.name_of-name.result _ c.pass-exposure.result _ p next.0 next.1 named c.text_of-field.ensures
          (c.pass-exposure.ensures sc i p.elements p.follows named.name) c.left_past-left.ensures
          c.in_ok-write_exposed-in-Ok-Some.ensures;
    }

pub returns-in-Ok-None-clause-writes : goal.returns-in-Ok-None-clause-writes
returns-in-Ok-None-clause-writes g c =
    let p = c.elements.invariant.so in
    let i = c.args.input.now in
    let sc = root_of c.args.schema in
    let all = rw c.in-Ok-None.field-0-is
    at (c.in-Ok-None.ensures.visits all_extras c.args.rules i p.elements p.visited) in
    let whole = c.is_whole.ensures sc i p.elements p.named in
    record {
      elements = p.elements;
      fits = ends_fit sc c.args.rules i p.elements c.elements.left c.is_whole.result c.ended.result all p.has_left whole
          c.ended.ensures;
      text = p.text;
      lines = p.lines;
      adds = p.adds;
    }

pub returns-in-Ok-None-clause-whole : goal.returns-in-Ok-None-clause-whole
returns-in-Ok-None-clause-whole g c =
    let p = c.elements.invariant.so in
    let i = c.args.input.now in
    let sc = root_of c.args.schema in
    let all = rw c.in-Ok-None.field-0-is
    at (c.in-Ok-None.ensures.visits all_extras c.args.rules i p.elements p.visited) in
    let whole = c.is_whole.ensures sc i p.elements p.named in
    ends_whole sc c.args.rules i p.elements c.elements.left c.is_whole.result c.ended.result all p.has_left whole
    c.ended.ensures

pub returns-in-Err-clause-writes : goal.returns-in-Err-clause-writes
returns-in-Err-clause-writes g c =
    let p = c.elements.invariant.so in
    let i = c.args.input.now in
    let refused = c.in-Err.ensures.visits all_extras c.args.rules i p.elements p.visited in
    record {
      elements = p.elements;
      fits = refused_fits (root_of c.args.schema) c.args.rules i p.elements c.refused.result c.next_element.new.self
          c.in-Err.refusal c.elements.left c.refused.ensures refused p.has_left.leaves;
      text = p.text;
      lines = p.lines;
      adds = p.adds;
    }

pub returns-in-Err-clause-whole : goal.returns-in-Err-clause-whole
returns-in-Err-clause-whole g c =
    let p = c.elements.invariant.so in
    let i = c.args.input.now in
    let refused = c.in-Err.ensures.visits all_extras c.args.rules i p.elements p.visited in
    refused_whole (root_of c.args.schema) c.args.rules i c.refused.result c.next_element.new.self c.in-Err.refusal
    c.elements.left c.refused.ensures refused.never
