use Rattle.std.proofs.Common.{true, false, [], ◌∷◌, ◌++◌}
use Rattle.der_base.specs.declared.rules.Rules.{Rules}
use Rattle.der_elements.specs.Walked.{visited_of}
use Rattle.dumarewhi_page.specs.Content.Listed.{all_extras}
use Rattle.dumarewhi_page.proofs.content.fields.write_fields.Goals as goal

pub elements-init : goal.elements-init
elements-init g c = (
  [],
  c.keeping_values-walk.ensures (record { enters_strings = true; keeps_values = false }) Rules.Ber
      c.args.input.now c.new.ensures,
)

pub elements-preserved : goal.elements-preserved
elements-preserved g c =
    let so = c.elements.invariant in
    let next = rw c.in-Ok-Some.field-0-is at (c.in-Ok-Some.ensures.visits all_extras Rules.Ber c.args.input.now so.0 so.1) in
    (so.0 ++ visited_of c.in-Ok-Some.element ∷ [], next.0)
