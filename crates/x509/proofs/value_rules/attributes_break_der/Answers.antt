use Rattle.std.proofs.Common.{refl}
use Rattle.std.proofs.lemmas.Bool.{false≢true}
use Rattle.x509.specs.Formats.{sequence}
use Rattle.x509.proofs.WalkLaws.{found_here, still_on}
use Rattle.x509.proofs.value_rules.attributes_break_der.Goals as goal

pub returns-then-value_breaks_der : goal.returns-then-value_breaks_der
returns-then-value_breaks_der c = found_here {f = sequence} tt c.in-Some.attribute.content.now c.in-Some.ensures.0.0 c.loop-attribute.invariant (c.if-value_breaks_der.ensures.0 refl)

pub loop-attribute-preserved : goal.loop-attribute-preserved
loop-attribute-preserved c = still_on {f = sequence} tt c.in-Some.attribute.content.now c.in-Some.ensures.0.0 c.loop-attribute.invariant (λ h. false≢true (c.if-value_breaks_der.ensures.1 h))
