use Rattle.std.proofs.Common.{◌+◌, [], ◌∷◌, ◌++◌, length, sym, ap, subst, ◌∙◌, arith}
use Rattle.der_elements.specs.Walked.{visited_of}
use Rattle.der_canon.specs.Sizes.{Ends}
use Rattle.der_canon.specs.Sizing.{constructed, cost, most, primitive}
use Rattle.der_canon.proofs.Costs.{comes_more, cost_least, cost_of, push_parts}
use Rattle.der_canon.proofs.Sizings.{both_some}
use Rattle.der_canon.proofs.size.Sizes.add_element.Goals as goal

pub begin-requires : goal.begin-requires
begin-requires c = omega (arith, c.requires.depth, c.in_ok-end.ensures.around, ap (λ a. length a.items) c.in_ok-grow.ensures.around)

pub returns-then-element-clause-adds : goal.returns-then-element-clause-adds
returns-then-element-clause-adds c =
    let ended = c.end.new.self in
    constructed ended.around.items ended.here c.if-element.true c.in_ok-end.ensures.ends
    (c.begin.ensures.around ∙ ap (λ a. a.items ++ c.grow.new.self.here ∷ []) c.in_ok-grow.ensures.around ∙ ap (λ z. ended.around.items ++ z ∷ []) c.in_ok-grow.ensures.here)
    (c.begin.ensures.here ∙ c.start_size.ensures.size)

pub returns-then-element-clause-most : goal.returns-then-element-clause-most
returns-then-element-clause-most c =
    let grown = c.grow.new.self in
    let parts = push_parts c.begin.new.self.around.items grown.around.items grown.here c.begin.ensures.around in
    omega (arith, parts.0, parts.1, c.begin.ensures.here, c.start_size.ensures.most, c.in_ok-grow.ensures.most, c.in_ok-end.ensures.most, cost_least c.args.element.now c.requires)

pub returns-clause-adds : goal.returns-clause-adds
returns-clause-adds c =
    let ended = c.end.new.self in
    let a = c.args.self.now in
    let e = c.args.element.now in
    both_some c.grow-2.result _ _ _
    (λ p q. primitive ended.here c.in_ok-element.field-0 c.if-element.false
    (subst (λ v. Ends e.depth a.around.items a.here v.items ended.here) (sym (p ∙ c.in_ok-grow.ensures.around)) c.in_ok-end.ensures.ends)
    c.in_ok-element.was
    (q ∙ ap (λ z. z + c.in_ok-size.size) c.in_ok-grow.ensures.here ∙ ap (λ z. ended.here + length e.identifier.now + z) c.in_ok-size.ensures.size))
    c.grow-2.ensures.around c.grow-2.ensures.here

pub returns-clause-most : goal.returns-clause-most
returns-clause-most c =
    let e = c.args.element.now in
    let n = cost_of e c.in_ok-element.field-0 c.requires c.if-element.false c.in_ok-element.was in
    comes_more (most c.grow.new.self + c.in_ok-size.size) (most c.args.self.now + cost (visited_of e)) _ c.grow-2.result
    (omega (arith, n, c.in_ok-size.ensures.most, c.in_ok-grow.ensures.most, c.in_ok-end.ensures.most))
    c.grow-2.ensures.most
