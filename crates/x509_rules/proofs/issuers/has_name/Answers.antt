use Rattle.std.proofs.Common.{refl}
use Rattle.std.proofs.lemmas.Bool.{false≢true}
use Rattle.der_extensions.specs.GeneralNames.{GeneralName}
use Rattle.x509_rule_facts.proofs.AmongLaws.{found_here, not_found, still_on}
use Rattle.x509_rules.proofs.issuers.has_name.Goals as goal

pub returns-then-is_name : goal.returns-then-is_name
returns-then-is_name c = found_here GeneralName c.in-Some.ensures.steps c.loop-general_name.invariant (c.if-is_name.ensures.0 refl)

pub loop-general_name-preserved : goal.loop-general_name-preserved
loop-general_name-preserved c = still_on GeneralName c.in-Some.ensures.steps c.loop-general_name.invariant (λ h. false≢true (c.if-is_name.ensures.1 h))

pub returns : goal.returns
returns c = not_found c.loop-general_name.invariant c.in-None.ensures.steps.0
