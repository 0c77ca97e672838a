use Rattle.std.proofs.Common.{◌∙◌, ap, subst, sym}
use Rattle.asn1_types.specs.Looks.{LooksFrom, ends, goes_on, look_or}
use Rattle.asn1_types.specs.Tagging.{base_at}
use Rattle.asn1_types.proofs.look.look_of.Goals as goal

pub steps-init : goal.steps-init
steps-init c =
    λ m looks. subst (λ l. LooksFrom c.args.items.now (base_at c.args.start) l m) c.look_at-look.ensures looks

pub steps-preserved : goal.steps-preserved
steps-preserved c =
    let next = c.in-Some.next in
    let joined = c.or-look.ensures ∙ ap (look_or c.steps.look) c.look_at-further.ensures in
    λ m looks. c.steps.invariant m (goes_on c.steps.base next c.steps.look m (sym c.in-Some.ensures)
    (subst (λ l. LooksFrom c.args.items.now next l m) joined looks))

pub returns-in-None : goal.returns-in-None
returns-in-None c = c.steps.invariant c.steps.look (ends c.steps.base c.steps.look (sym c.in-None.ensures))
