use Rattle.std.proofs.Common.{subst, sym}
use Rattle.der_elements.specs.Visits.{Visits}
use Rattle.der_actions.specs.Outputs.{extras_of}
use Rattle.der_actions.proofs.Collecting.{kept_more, kept_none}
use Rattle.der_actions.proofs.diff.elements_of.Goals as goal

pub elements-init : goal.elements-init
elements-init g c = record {
  kept = kept_none _ (c.keeping_values-walk.ensures _ _ _ c.new.ensures) c.schema_of.ensures c.new-fields.ensures c.new-kept.ensures.items;
}

pub elements-preserved : goal.elements-preserved
elements-preserved g c =
    let p = c.elements.invariant.kept in
    let o = c.args.options.now in
    let i = c.args.octets.now in
    let next = rw c.in-Ok-Some.field-0-is at (c.in-Ok-Some.ensures.visits (extras_of o) o.rules i p.elements p.visited) in
    let named = c.field_of-field.ensures p.schema i p.elements p.follows next.3 next.2 in
    record { kept = kept_more _ p next.0 next.1 named.0 named.1 c.in_ok-push-in-Ok-Some.ensures.items }

pub returns-in-Ok-None : goal.returns-in-Ok-None
returns-in-Ok-None g c =
    let p = c.elements.invariant.kept in
    let o = c.args.options.now in
    let all = rw c.in-Ok-None.field-0-is at (c.in-Ok-None.ensures.visits (extras_of o) o.rules c.args.octets.now p.elements p.visited) in
    (λ asked. record {
      contents = (p.elements, all, p.kept);
      visits = subst (Visits (extras_of o) o.rules 101 0 0 c.args.octets.now) (sym p.same) all;
      as_asked = asked;
      schema = p.schema;
      named_by = p.named_by;
      named = p.named;
    })

pub returns-in-Err : goal.returns-in-Err
returns-in-Err g c =
    let p = c.elements.invariant.kept in
    let o = c.args.options.now in
    (p.elements, (_, _, c.in-Err.ensures.visits (extras_of o) o.rules c.args.octets.now p.elements p.visited))
