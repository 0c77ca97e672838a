use Rattle.der_elements.specs.Walked.{visited_of}
use Rattle.text_json.proofs.FieldsLaws.FieldLaws.{ends_fit, ends_whole, refused_fits, refused_whole}
use Rattle.text_json.proofs.FieldsLaws.Fitting.{fitted_more, fitted_none}
use Rattle.der_schema.specs.Known.{all_extras}
use Rattle.der_schema.specs.Meaning.{root_of}
use Rattle.std.proofs.Common.{false, true}
use Rattle.text_json.proofs.fields.fit.fit_of.Goals as goal

pub elements-init : goal.elements-init
elements-init c = record {
  so = fitted_none
      (c.keeping_values-walk.ensures (record { enters_strings = true; keeps_values = false }) c.args.rules
      c.args.input.now c.new.ensures) c.new-namer.ensures;
}

pub elements-preserved : goal.elements-preserved
elements-preserved c =
    let p = c.elements.invariant.so in
    let i = c.args.input.now in
    let sc = root_of c.args.schema in
    let next = rw c.in-Ok-Some.field-0-is
    at (c.in-Ok-Some.ensures.visits all_extras c.args.rules i p.elements p.visited) in
    let named = c.name_of-name.ensures sc i p.elements p.named next.3 in
    record {
      so = fitted_more (visited_of c.in-Ok-Some.element) c.name_of-name.result _ p next.0 named
          c.left_past-left.ensures;
    }

pub returns-in-Ok-None-clause-fits : goal.returns-in-Ok-None-clause-fits
returns-in-Ok-None-clause-fits c =
    let p = c.elements.invariant.so in
    let i = c.args.input.now in
    let sc = root_of c.args.schema in
    let all = rw c.in-Ok-None.field-0-is
    at (c.in-Ok-None.ensures.visits all_extras c.args.rules i p.elements p.visited) in
    let whole = c.is_whole.ensures sc i p.elements p.named in (
      p.elements,
      ends_fit sc c.args.rules i p.elements c.elements.left c.is_whole.result c.ended.result all p.has_left whole
          c.ended.ensures,
    )

pub returns-in-Ok-None-clause-whole : goal.returns-in-Ok-None-clause-whole
returns-in-Ok-None-clause-whole c =
    let p = c.elements.invariant.so in
    let i = c.args.input.now in
    let sc = root_of c.args.schema in
    let all = rw c.in-Ok-None.field-0-is
    at (c.in-Ok-None.ensures.visits all_extras c.args.rules i p.elements p.visited) in
    let whole = c.is_whole.ensures sc i p.elements p.named in
    ends_whole sc c.args.rules i p.elements c.elements.left c.is_whole.result c.ended.result all p.has_left whole
    c.ended.ensures

pub returns-in-Err-clause-fits : goal.returns-in-Err-clause-fits
returns-in-Err-clause-fits c =
    let p = c.elements.invariant.so in
    let i = c.args.input.now in
    let refused = c.in-Err.ensures.visits all_extras c.args.rules i p.elements p.visited in (
      p.elements,
      refused_fits (root_of c.args.schema) c.args.rules i p.elements c.refused.result c.next_element.new.self
          c.in-Err.refusal c.elements.left c.refused.ensures refused p.has_left.leaves,
    )

pub returns-in-Err-clause-whole : goal.returns-in-Err-clause-whole
returns-in-Err-clause-whole c =
    let p = c.elements.invariant.so in
    let i = c.args.input.now in
    let refused = c.in-Err.ensures.visits all_extras c.args.rules i p.elements p.visited in
    refused_whole (root_of c.args.schema) c.args.rules i c.refused.result c.next_element.new.self c.in-Err.refusal
    c.elements.left c.refused.ensures refused.never
