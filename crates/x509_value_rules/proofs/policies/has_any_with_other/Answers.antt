use Rattle.std.proofs.Common.{refl}
use Rattle.std.proofs.lemmas.Bool.{false≢true}
use Rattle.der_cursor.specs.Formats.{Required}
use Rattle.der_extensions.specs.Extensions.{PolicyInformation}
use Rattle.x509_rule_facts.proofs.AmongLaws.{found_here, not_found, still_on}
use Rattle.x509_value_rules.proofs.policies.has_any_with_other.Goals as goal

pub returns-then-is_any_with_other : goal.returns-then-is_any_with_other
returns-then-is_any_with_other c = found_here (Required PolicyInformation) c.in-Some.ensures.steps c.loop-policy.invariant (c.if-is_any_with_other.ensures.0 refl)

pub loop-policy-preserved : goal.loop-policy-preserved
loop-policy-preserved c = still_on (Required PolicyInformation) c.in-Some.ensures.steps c.loop-policy.invariant (λ h. false≢true (c.if-is_any_with_other.ensures.1 h))

pub returns : goal.returns
returns c = not_found c.loop-policy.invariant c.in-None.ensures.steps.0
