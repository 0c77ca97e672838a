use Rattle.std.proofs.Common.{◌+◌, ap, ◌∙◌, arith}
use Rattle.der_elements.specs.Walked.{visited_of}
use Rattle.der_canon.specs.Sizing.{cost, most, primitive}
use Rattle.der_canon.proofs.Costs.{comes_more, cost_of}
use Rattle.der_canon.proofs.Sizings.{both_some}
use Rattle.der_canon.proofs.size.Sizes.add_part.Goals as goal

pub returns-clause-adds : goal.returns-clause-adds
returns-clause-adds c =
    both_some c.grow.result _ _ _
    (λ p q. primitive c.in_ok-element.field-0 c.if-element.false c.in_ok-element.was (ap (λ a. a.items) p) (q ∙ ap (λ k. c.args.self.now.here + k) c.part_size.ensures.size))
    c.grow.ensures.around c.grow.ensures.here

pub returns-clause-most : goal.returns-clause-most
returns-clause-most c =
    let e = c.args.element.now in
    let n = cost_of e c.in_ok-element.field-0 c.requires c.if-element.false c.in_ok-element.was in
    comes_more (most c.args.self.now + c.part_size.result) (most c.args.self.now + cost (visited_of e)) _ c.grow.result (omega (arith, n, c.part_size.ensures.most)) c.grow.ensures.most
