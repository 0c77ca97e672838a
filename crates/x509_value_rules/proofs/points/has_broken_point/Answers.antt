use Rattle.std.proofs.Common.{refl}
use Rattle.std.proofs.lemmas.Bool.{false≢true}
use Rattle.der_cursor.specs.Formats.{Required}
use Rattle.der_extensions.specs.Extensions.{DistributionPoint}
use Rattle.x509_rule_facts.proofs.AmongLaws.{found_here, not_found, still_on}
use Rattle.x509_value_rules.proofs.points.has_broken_point.Goals as goal

pub returns-then-breaks_point : goal.returns-then-breaks_point
returns-then-breaks_point c = found_here (Required DistributionPoint) c.in-Some.ensures.steps c.loop-point.invariant (c.if-breaks_point.ensures.0 refl)

pub loop-point-preserved : goal.loop-point-preserved
loop-point-preserved c = still_on (Required DistributionPoint) c.in-Some.ensures.steps c.loop-point.invariant (λ h. false≢true (c.if-breaks_point.ensures.1 h))

pub returns : goal.returns
returns c = not_found c.loop-point.invariant c.in-None.ensures.steps.0
