use Rattle.std.proofs.Common.{◌≡◌, rules, subst, sym}
use Rattle.x509.specs.Formats.{set}
use Rattle.x509.specs.Lists.{names_left}
use Rattle.x509_rule_facts.specs.Attributes.{HasBadAttribute}
use Rattle.x509_rule_facts.proofs.MarkLaws.{MarkedSoFar, marked_all, marked_more, marked_none}
use Rattle.x509.proofs.WalkLaws.{ahead, nowhere}
use Rattle.x509_rule_facts.proofs.attributes.mark_name.Goals as goal

pub loop-relative_name-init : goal.loop-relative_name-init
loop-relative_name-init c =
    let e : names_left c.into_iter-relative_name-iterator.result ≡ c.args.name.octets.now = search rules in
    subst (λ z. MarkedSoFar (λ k. HasBadAttribute k c.args.name.octets.now) (λ k. HasBadAttribute k z) c.args.bad.now c.args.bad.now) (sym e) (marked_none c.requires)

pub mark_relative_name-requires : goal.mark_relative_name-requires
mark_relative_name-requires c = c.loop-relative_name.invariant.all

pub loop-relative_name-preserved : goal.loop-relative_name-preserved
loop-relative_name-preserved c = marked_more c.loop-relative_name.invariant c.mark_relative_name.ensures (λ k. ahead {f = set} tt c.in-Some.relative_name.octets.now c.in-Some.ensures.steps)

pub returns : goal.returns
returns c = marked_all c.loop-relative_name.invariant (λ k. nowhere {f = set} c.in-None.ensures.steps.0)
