use Rattle.std.proofs.Common.{refl}
use Rattle.std.proofs.lemmas.Bool.{false≢true}
use Rattle.der_extensions.specs.GeneralNames.{GeneralName}
use Rattle.x509_rule_facts.proofs.AmongLaws.{found_here, not_found, still_on}
use Rattle.x509_value_rules.proofs.names.has_bad_name.Goals as goal

pub returns-then-is_bad_name : goal.returns-then-is_bad_name
returns-then-is_bad_name c = found_here (GeneralName) c.in-Some.ensures.steps c.loop-name.invariant (c.if-is_bad_name.ensures.0 refl)

pub loop-name-preserved : goal.loop-name-preserved
loop-name-preserved c = still_on (GeneralName) c.in-Some.ensures.steps c.loop-name.invariant (λ h. false≢true (c.if-is_bad_name.ensures.1 h))

pub returns : goal.returns
returns c = not_found c.loop-name.invariant c.in-None.ensures.steps.0
