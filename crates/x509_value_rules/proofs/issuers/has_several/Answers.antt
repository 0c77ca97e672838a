use Rattle.std.proofs.Common.{refl}
use Rattle.std.proofs.lemmas.Bool.{false≢true}
use Rattle.der_extensions.specs.GeneralNames.{GeneralName}
use Rattle.x509_value_rules.specs.Points.{IsDistinguished}
use Rattle.x509_value_rules.proofs.TwiceLaws.{not_found, one_found, still_on, two_found}
use Rattle.x509_value_rules.proofs.issuers.has_several.Goals as goal

pub returns-then-is_second : goal.returns-then-is_second
returns-then-is_second c = two_found GeneralName IsDistinguished c.in-Some.ensures.steps c.if-is_second.true c.loop-name.invariant (c.if-is_distinguished.ensures.0 refl)

pub loop-name-preserved-then-is_distinguished : goal.loop-name-preserved-then-is_distinguished
loop-name-preserved-then-is_distinguished c = one_found GeneralName IsDistinguished c.in-Some.ensures.steps c.if-is_second.false c.loop-name.invariant (c.if-is_distinguished.ensures.0 refl)

pub loop-name-preserved : goal.loop-name-preserved
loop-name-preserved c = still_on GeneralName IsDistinguished c.in-Some.ensures.steps c.loop-name.invariant (λ h. false≢true (c.if-is_distinguished.ensures.1 h))

pub returns : goal.returns
returns c = not_found GeneralName IsDistinguished c.loop-name.invariant c.in-None.ensures.steps.0
