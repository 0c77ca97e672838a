use Rattle.std.proofs.Common.{refl}
use Rattle.std.proofs.lemmas.Bool.{false≢true}
use Rattle.der_cursor.specs.Formats.{Required}
use Rattle.der_extensions.specs.Extensions.{AccessDescription}
use Rattle.x509_rule_facts.proofs.AmongLaws.{found_here, not_found, still_on}
use Rattle.x509_value_rules.proofs.value_rules.has_other_method.Goals as goal

pub returns-then-is_other_method : goal.returns-then-is_other_method
returns-then-is_other_method c = found_here (Required AccessDescription) c.in-Some.ensures.steps c.loop-description.invariant (c.if-is_other_method.ensures.0 refl)

pub loop-description-preserved : goal.loop-description-preserved
loop-description-preserved c = still_on (Required AccessDescription) c.in-Some.ensures.steps c.loop-description.invariant (λ h. false≢true (c.if-is_other_method.ensures.1 h))

pub returns : goal.returns
returns c = not_found c.loop-description.invariant c.in-None.ensures.steps.0
