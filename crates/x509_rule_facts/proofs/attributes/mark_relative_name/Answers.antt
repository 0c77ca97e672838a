use Rattle.std.proofs.Common.{◌≡◌, ℕ, List, rules, subst, sym}
use Rattle.x509.specs.Certificates.{attribute, attribute_of}
use Rattle.x509.specs.Lists.{Somewhere, attributes_left}
use Rattle.x509_rule_facts.specs.declared.attributes.AttributeKind.{AttributeKind}
use Rattle.x509_rule_facts.specs.Attributes.{IsBad}
use Rattle.x509.proofs.CertificateLaws.{attribute_exact}
use Rattle.x509_rule_facts.proofs.MarkLaws.{MarkedSoFar, marked_all, marked_more, marked_none}
use Rattle.x509.proofs.WalkLaws.{ahead, nowhere}
use Rattle.x509_rule_facts.proofs.attributes.mark_relative_name.Goals as goal

pub loop-attribute-init : goal.loop-attribute-init
loop-attribute-init c =
    let e : attributes_left c.into_iter-attribute-iterator.result ≡ c.args.name.octets.now = search rules in
    let P : List ℕ → AttributeKind → Type 0 = λ i k. Somewhere attribute (λ a _. IsBad k a) i in
    subst (λ z. MarkedSoFar (P c.args.name.octets.now) (P z) c.args.bad.now c.args.bad.now) (sym e) (marked_none c.requires)

pub mark_attribute-requires : goal.mark_attribute-requires
mark_attribute-requires c = c.loop-attribute.invariant.all

pub loop-attribute-preserved : goal.loop-attribute-preserved
loop-attribute-preserved c = marked_more c.loop-attribute.invariant c.mark_attribute.ensures (λ k. ahead {f = attribute} attribute_exact (attribute_of c.in-Some.attribute) c.in-Some.ensures.steps)

pub returns : goal.returns
returns c = marked_all c.loop-attribute.invariant (λ k. nowhere {f = attribute} c.in-None.ensures.steps.0)
