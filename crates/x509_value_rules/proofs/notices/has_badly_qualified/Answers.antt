use Rattle.std.proofs.Common.{refl}
use Rattle.std.proofs.lemmas.Bool.{false≢true}
use Rattle.der_cursor.specs.Formats.{Required}
use Rattle.der_extensions.specs.Extensions.{PolicyInformation}
use Rattle.x509_rule_facts.proofs.AmongLaws.{found_here, not_found, still_on}
use Rattle.x509_value_rules.proofs.notices.has_badly_qualified.Goals as goal

pub returns-then-is_badly_qualified : goal.returns-then-is_badly_qualified
returns-then-is_badly_qualified c = found_here (Required PolicyInformation) c.in-Some.ensures.steps c.loop-policy.invariant (c.if-is_badly_qualified.ensures.0 refl)

pub loop-policy-preserved : goal.loop-policy-preserved
loop-policy-preserved c = still_on (Required PolicyInformation) c.in-Some.ensures.steps c.loop-policy.invariant (λ h. false≢true (c.if-is_badly_qualified.ensures.1 h))

pub returns : goal.returns
returns c = not_found c.loop-policy.invariant c.in-None.ensures.steps.0
