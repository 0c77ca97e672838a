use Rattle.std.proofs.Common.{◌≡◌, ◌∙◌, Bool, IsTrue, List, false, inl, inr, refl, subst, true, ℕ}
use Rattle.std.specs.Prelude.{◌↔◌}
use Rattle.der_elements.specs.Walked.{visited_of}
use Rattle.der_actions.specs.Outputs.{RefusesPart, WritesPart, extras_of, no_element, no_octets}
use Rattle.der_actions.specs.Parts.{AreOctetsOf, AreWrittenOf}
use Rattle.der_actions.proofs.Looking.{looked_more, looked_none}
use Rattle.der_actions.proofs.Printing.{then_reads, then_refuses}
use Rattle.der_actions.proofs.Trails.{follows, path_entered}
use Rattle.der_actions.proofs.get.write_first.Goals as goal

no_truth : {P : Type 0} {b : Bool} → b ≡ false → b ≡ true → P
no_truth p q = cc

not_so : (b : Bool) (P : Type 0) → b ≡ false → (IsTrue b ↔ P) → ¬ P
not_so b P e h = λ p. no_truth e (h.1 p)

pub elements-init : goal.elements-init
elements-init g c = record {
  looked = looked_none _ (c.keeping_values-walk.ensures _ _ _ c.new.ensures) c.new-trail.ensures c.schema_of.ensures c.new-fields.ensures;
  same = refl;
}

pub elements-preserved : goal.elements-preserved
elements-preserved g c =
    let p = c.elements.invariant.looked in
    let o = c.args.options.now in
    let i = c.args.octets.now in
    let e = c.in-Ok-Some.element in
    let next = rw c.in-Ok-Some.field-0-is at (c.in-Ok-Some.ensures.visits (extras_of o) o.rules i p.elements p.visited) in
    let entered = c.in_ok-enter-in-Ok-Some.ensures in
    let path = path_entered p.elements (visited_of e) c.elements.trail.steps.items c.enter.new.self.steps.items e.index p.path next.2 entered in
    let named = (c.field_of.ensures p.schema i p.elements p.named next.3 next.2).0 in
    record {
      looked =
          looked_more (visited_of e) e.index p next.0 next.2 entered named
          (not_so _ _ c.if-asked.false (c.in_ok-asked-in-Ok-Some.ensures p.schema i p.elements (follows o.place c.enter.new.self _ path) named));
      same = c.elements.invariant.same;
    }

pub returns-then-asked-clause-read : goal.returns-then-asked-clause-read
returns-then-asked-clause-read g c =
    let p = c.elements.invariant.looked in
    let o = c.args.options.now in
    let i = c.args.octets.now in
    let e = c.in-Ok-Some.element in
    let v = visited_of e in
    let old = g.W.Write.contents c.args.out.now in
    let mid = g.W.Write.contents c.elements.out in
    let new = g.W.Write.contents c.write_octets.new.out in
    let next = rw c.in-Ok-Some.field-0-is at (c.in-Ok-Some.ensures.visits (extras_of o) o.rules i p.elements p.visited) in
    let path = path_entered p.elements v c.elements.trail.steps.items c.enter.new.self.steps.items e.index p.path next.2 c.in_ok-enter-in-Ok-Some.ensures in
    let named = (c.field_of.ensures p.schema i p.elements p.named next.3 next.2).0 in
    let asked = (c.in_ok-asked-in-Ok-Some.ensures p.schema i p.elements (follows o.place c.enter.new.self _ path) named).0 c.if-asked.true in
    λ as_asked. then_reads c.write_octets.result (AreWrittenOf o i v mid new) (WritesPart o i old new)
    (λ w. record {
      as_asked = as_asked;
      schema = p.schema;
      named_by = p.named_by;
      before = p.elements;
      element = v;
      visits = (_, next.0);
      not_asked = p.not_asked;
      asked = asked;
      writes = subst (λ x. AreWrittenOf o i v x new) c.elements.invariant.same w;
    }) c.write_octets.ensures.read

pub returns-then-asked-clause-refused : goal.returns-then-asked-clause-refused
returns-then-asked-clause-refused g c =
    let p = c.elements.invariant.looked in
    let o = c.args.options.now in
    let i = c.args.octets.now in
    let e = c.in-Ok-Some.element in
    let v = visited_of e in
    let old = g.W.Write.contents c.args.out.now in
    let mid = g.W.Write.contents c.elements.out in
    let new = g.W.Write.contents c.write_octets.new.out in
    let next = rw c.in-Ok-Some.field-0-is at (c.in-Ok-Some.ensures.visits (extras_of o) o.rules i p.elements p.visited) in
    let path = path_entered p.elements v c.elements.trail.steps.items c.enter.new.self.steps.items e.index p.path next.2 c.in_ok-enter-in-Ok-Some.ensures in
    let named = (c.field_of.ensures p.schema i p.elements p.named next.3 next.2).0 in
    let asked = (c.in_ok-asked-in-Ok-Some.ensures p.schema i p.elements (follows o.place c.enter.new.self _ path) named).0 c.if-asked.true in
    then_refuses c.write_octets.result (((w : List ℕ) → ¬ AreOctetsOf i v w) × (new ≡ mid)) (RefusesPart o i old new)
    (λ h. no_octets p.schema p.elements v p.named_by (_, next.0) p.not_asked asked h.0 (h.1 ∙ c.elements.invariant.same)) c.write_octets.ensures.refused

pub returns-in-Ok-None-clause-refused : goal.returns-in-Ok-None-clause-refused
returns-in-Ok-None-clause-refused g c =
    let p = c.elements.invariant.looked in
    let o = c.args.options.now in
    let all = rw c.in-Ok-None.field-0-is at (c.in-Ok-None.ensures.visits (extras_of o) o.rules c.args.octets.now p.elements p.visited) in
    λ none. no_element p.schema p.elements p.named_by p.not_asked (inr all) c.elements.invariant.same

pub returns-in-Err-clause-refused : goal.returns-in-Err-clause-refused
returns-in-Err-clause-refused g c =
    let p = c.elements.invariant.looked in
    let o = c.args.options.now in
    let refused = c.in-Err.ensures.visits (extras_of o) o.rules c.args.octets.now p.elements p.visited in
    λ none. no_element p.schema p.elements p.named_by p.not_asked (inl (_, _, refused)) c.elements.invariant.same
