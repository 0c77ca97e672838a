use Rattle.std.proofs.Common.{refl}
use Rattle.std.proofs.lemmas.Bool.{false≢true}
use Rattle.der_cursor.specs.Formats.{Required}
use Rattle.der_extensions.specs.Extensions.{PolicyQualifierInfo}
use Rattle.x509_rule_facts.proofs.AmongLaws.{found_here, not_found, still_on}
use Rattle.x509_value_rules.proofs.policies.is_one_other.Goals as goal

pub returns-then-is_other_qualifier : goal.returns-then-is_other_qualifier
returns-then-is_other_qualifier c = found_here (Required PolicyQualifierInfo) c.in-Some.ensures.steps c.loop-qualifier.invariant (c.if-is_other_qualifier.ensures.0 refl)

pub loop-qualifier-preserved : goal.loop-qualifier-preserved
loop-qualifier-preserved c = still_on (Required PolicyQualifierInfo) c.in-Some.ensures.steps c.loop-qualifier.invariant (λ h. false≢true (c.if-is_other_qualifier.ensures.1 h))

pub returns : goal.returns
returns c = not_found c.loop-qualifier.invariant c.in-None.ensures.steps.0
