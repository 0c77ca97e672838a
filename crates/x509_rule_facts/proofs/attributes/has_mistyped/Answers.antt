use Rattle.std.proofs.Common.{refl}
use Rattle.std.proofs.lemmas.Bool.{false≢true}
use Rattle.x509.specs.Formats.{set}
use Rattle.x509.proofs.WalkLaws.{found_here, not_found, still_on}
use Rattle.x509_rule_facts.proofs.attributes.has_mistyped.Goals as goal

pub returns-then-has_mistyped_attribute : goal.returns-then-has_mistyped_attribute
returns-then-has_mistyped_attribute c = found_here {f = set} tt c.in-Some.relative_name.octets.now c.in-Some.ensures.steps c.loop-relative_name.invariant (c.if-has_mistyped_attribute.ensures.0 refl)

pub loop-relative_name-preserved : goal.loop-relative_name-preserved
loop-relative_name-preserved c = still_on {f = set} tt c.in-Some.relative_name.octets.now c.in-Some.ensures.steps c.loop-relative_name.invariant (λ h. false≢true (c.if-has_mistyped_attribute.ensures.1 h))

pub returns : goal.returns
returns c = not_found c.loop-relative_name.invariant c.in-None.ensures.steps.0
