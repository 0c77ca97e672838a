use Rattle.std.proofs.Common.{sym}
use Rattle.asn1_types.specs.Tagging.{ends, goes_on}
use Rattle.asn1_types.proofs.tags.base_of.Goals as goal

pub steps-init : goal.steps-init
steps-init c = λ b leads. leads

pub steps-preserved : goal.steps-preserved
steps-preserved c =
    λ b leads. c.steps.invariant b (goes_on c.steps.base c.in-Some.next b (sym c.in-Some.ensures) leads)

pub returns-in-None : goal.returns-in-None
returns-in-None c = c.steps.invariant c.steps.base (ends c.steps.base (sym c.in-None.ensures))
