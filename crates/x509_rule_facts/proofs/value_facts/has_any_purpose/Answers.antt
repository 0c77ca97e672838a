use Rattle.std.proofs.Common.{refl}
use Rattle.std.proofs.lemmas.Bool.{false≢true}
use Rattle.der_cursor.specs.Formats.{ObjectIdentifier, Required}
use Rattle.x509_rule_facts.proofs.AmongLaws.{found_here, not_found, still_on}
use Rattle.x509_rule_facts.proofs.value_facts.has_any_purpose.Goals as goal

pub returns-then-has_octets : goal.returns-then-has_octets
returns-then-has_octets c = found_here (Required ObjectIdentifier) c.in-Some.ensures.steps c.loop-purpose.invariant (c.if-has_octets.ensures.0 refl)

pub loop-purpose-preserved : goal.loop-purpose-preserved
loop-purpose-preserved c = still_on (Required ObjectIdentifier) c.in-Some.ensures.steps c.loop-purpose.invariant (λ h. false≢true (c.if-has_octets.ensures.1 h))

pub returns : goal.returns
returns c = not_found c.loop-purpose.invariant c.in-None.ensures.steps.0
