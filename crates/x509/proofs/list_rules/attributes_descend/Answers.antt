use Rattle.std.proofs.Common.{refl}
use Rattle.std.proofs.lemmas.Bool.{false≢true}
use Rattle.x509.specs.Formats.{sequence, with_octets}
use Rattle.x509.proofs.WalkLaws.{found_here, still_on}
use Rattle.x509.proofs.list_rules.attributes_descend.Goals as goal

pub returns-then-descends_next : goal.returns-then-descends_next
returns-then-descends_next c = found_here {f = with_octets sequence} tt (c.in-Some.attribute.octets.now, c.in-Some.attribute.content.now) c.in-Some.ensures.0 c.loop-attribute.invariant (c.if-descends_next.ensures.0 refl)

pub loop-attribute-preserved : goal.loop-attribute-preserved
loop-attribute-preserved c = still_on {f = with_octets sequence} tt (c.in-Some.attribute.octets.now, c.in-Some.attribute.content.now) c.in-Some.ensures.0 c.loop-attribute.invariant (λ h. false≢true (c.if-descends_next.ensures.1 h))
