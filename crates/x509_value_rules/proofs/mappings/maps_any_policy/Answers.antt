use Rattle.std.proofs.Common.{refl}
use Rattle.std.proofs.lemmas.Bool.{false≢true}
use Rattle.der_cursor.specs.Formats.{Required}
use Rattle.der_extensions.specs.PolicyExtensions.{PolicyMapping}
use Rattle.x509_rule_facts.proofs.AmongLaws.{found_here, not_found, still_on}
use Rattle.x509_value_rules.proofs.mappings.maps_any_policy.Goals as goal

pub returns-then-has_any_policy : goal.returns-then-has_any_policy
returns-then-has_any_policy c = found_here (Required PolicyMapping) c.in-Some.ensures.steps c.loop-mapping.invariant (c.if-has_any_policy.ensures.0 refl)

pub loop-mapping-preserved : goal.loop-mapping-preserved
loop-mapping-preserved c = still_on (Required PolicyMapping) c.in-Some.ensures.steps c.loop-mapping.invariant (λ h. false≢true (c.if-has_any_policy.ensures.1 h))

pub returns : goal.returns
returns c = not_found c.loop-mapping.invariant c.in-None.ensures.steps.0
