use Rattle.std.proofs.Common.{rules}
use Rattle.der_elements.proofs.CheckLaws.ElementLaws.{whole_element, nothing_left, no_element}
use Rattle.der_elements.proofs.check.elements.is_element.Goals as goal

pub returns-in-Some : goal.returns-in-Some
returns-in-Some c = (
  λ yes. whole_element c.args.rules c.args.max_depth c.args.octets.now c.in-Some.after c.in-Some.ensures.exactly (search (rules, yes)),
  λ is. let left = nothing_left c.args.rules c.args.max_depth c.args.octets.now c.in-Some.after c.in-Some.ensures.exactly is in search (rules, left),
)

pub returns-in-None : goal.returns-in-None
returns-in-None c = (λ yes. absurd (cc), λ is. absurd (no_element c.args.rules c.args.max_depth c.args.octets.now c.in-None.ensures.exactly is))
