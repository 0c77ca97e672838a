use Rattle.std.proofs.Common.{true, false, Option, [], ◌∷◌, ◌++◌, sym, ap, ◌∙◌}
use Rattle.std.specs.Option.{is_some}
use Rattle.der_elements.specs.Walked.{visited_of}
use Rattle.der_schema.specs.declared.matching.Name.{Name}
use Rattle.der_schema.specs.Known.{all_extras}
use Rattle.der_schema.specs.Meaning.{root_of}
use Rattle.der_schema.specs.Steps.{label_of}
use Rattle.der_schema.proofs.OfType.{named_more, no_elements, no_name, none_named, of_type, whole_at_end}
use Rattle.der_schema.proofs.known.is_of_type.Goals as goal

pub elements-init : goal.elements-init
elements-init c = (
  [],
  c.keeping_values-walk.ensures (record { enters_strings = true; keeps_values = false }) c.args.rules
      c.args.input.now c.new.ensures,
  c.new-namer.ensures,
  none_named (root_of c.args.schema) c.args.input.now,
)

pub elements-preserved : goal.elements-preserved
elements-preserved c =
    let so = c.elements.invariant in
    let e = c.in-Ok-Some.element in
    let i = c.args.input.now in
    let sc = root_of c.args.schema in
    let next = rw c.in-Ok-Some.field-0-is at (c.in-Ok-Some.ensures.visits all_extras c.args.rules i so.0 so.1) in
    let named = c.name_of.ensures sc i so.0 so.2 next.3 in (
      so.0 ++ visited_of e ∷ [],
      next.0,
      named.named,
      named_more sc i so.0 (visited_of e) so.3
          (sym (ap is_some named.name) ∙ ap (λ (o : Option Name). is_some (label_of o)) c.in-Some.is),
    )

pub returns-in-None : goal.returns-in-None
returns-in-None c =
    let so = c.elements.invariant in
    let e = c.in-Ok-Some.element in
    let i = c.args.input.now in
    let sc = root_of c.args.schema in
    let next = rw c.in-Ok-Some.field-0-is at (c.in-Ok-Some.ensures.visits all_extras c.args.rules i so.0 so.1) in
    let named = c.name_of.ensures sc i so.0 so.2 next.3 in (
      λ f. absurd (cc),
      λ t. absurd (no_name sc c.args.rules i c.next_element.new.self so.0 (visited_of e) next.0
          (sym (ap is_some named.name) ∙ ap (λ (o : Option Name). is_some (label_of o)) c.in-None.is) t),
    )

pub returns-in-Ok-None : goal.returns-in-Ok-None
returns-in-Ok-None c =
    let so = c.elements.invariant in
    let i = c.args.input.now in
    let sc = root_of c.args.schema in
    let all = rw c.in-Ok-None.field-0-is at (c.in-Ok-None.ensures.visits all_extras c.args.rules i so.0 so.1) in
    let whole = c.is_whole.ensures sc i so.0 so.2 in (
      λ it. of_type sc c.args.rules i so.0 all so.3 (sym whole ∙ it),
      λ t. whole ∙ whole_at_end sc c.args.rules i so.0 all t,
    )

pub returns-in-Err : goal.returns-in-Err
returns-in-Err c =
    let so = c.elements.invariant in
    let i = c.args.input.now in
    let sc = root_of c.args.schema in
    let refused = c.in-Err.ensures.visits all_extras c.args.rules i so.0 so.1 in (
      λ f. absurd (cc),
      λ t. absurd (no_elements sc c.args.rules i refused.never t),
    )
