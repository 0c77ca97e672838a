use Rattle.std.proofs.Common.{Bool, false, ap, true, ◌∙◌}
use Rattle.der_base.specs.declared.rules.Rules.TheVariants.{Ber}
use Rattle.der_schema.specs.Known.{all_extras}
use Rattle.der_schema.specs.Meaning.{root_of}
use Rattle.der_schema.proofs.OfType.{no_elements}
use Rattle.text_json.specs.Fields.Secrets.{is_secret}
use Rattle.der_schema.specs.Steps.{label_of}
use Rattle.der_show.proofs.LeafLaws.{shown_more, shown_none}
use Rattle.der_show.proofs.field_lines.with_lines.Goals as goal

pub elements-init : goal.elements-init
elements-init c = record {
  so = shown_none _
      (c.keeping_values-walk.ensures (record { enters_strings = true; keeps_values = false }) Ber
      c.args.octets.now c.new.ensures) c.new-namer.ensures;
}

pub elements-preserved : goal.elements-preserved
elements-preserved c =
    let p = c.elements.invariant.so in
    let i = c.args.octets.now in
    let next = rw c.in-Ok-Some.field-0-is
    at (c.in-Ok-Some.ensures.visits all_extras Ber i p.elements p.visited) in
    let named = c.name_of-name.ensures (root_of c.args.schema) i p.elements p.named next.3 in
    let secret = c.is_secret-is_secret.ensures
    ∙ ap (λ (b : Bool). is_secret (label_of c.name_of-name.result) b) c.is_some.ensures in
    record {
      so = shown_more c.in-Ok-Some.element c.name_of-name.result c.text_of-field.result.now c.is_secret-is_secret.result
          c.of-manner.result p next.0 next.1 named c.text_of-field.ensures secret c.of-manner.ensures
          c.in_ok-add_element-in-Ok-Some.ensures c.leaf_past-leaf.ensures;
    }

pub returns-in-Ok-None : goal.returns-in-Ok-None
returns-in-Ok-None c =
    let p = c.elements.invariant.so in
    let all = rw c.in-Ok-None.field-0-is
    at (c.in-Ok-None.ensures.visits all_extras Ber c.args.octets.now p.elements p.visited) in
    λ t. (p.elements, all, p.all)

pub returns-in-Err : goal.returns-in-Err
returns-in-Err c =
    let p = c.elements.invariant.so in
    let i = c.args.octets.now in
    let refused = c.in-Err.ensures.visits all_extras Ber i p.elements p.visited in
    λ t. absurd (no_elements (root_of c.args.schema) Ber i refused.never t)
