use Rattle.std.proofs.Common.{refl}
use Rattle.std.proofs.lemmas.Bool.{false≢true}
use Rattle.x509.specs.Formats.{set}
use Rattle.x509.proofs.WalkLaws.{found_here, still_on}
use Rattle.x509.proofs.value_rules.name_breaks_der.Goals as goal

pub returns-then-attributes_break_der : goal.returns-then-attributes_break_der
returns-then-attributes_break_der c = found_here {f = set} tt c.in-Some.relative_name.content.now c.in-Some.ensures.0.0 c.loop-relative_name.invariant (c.if-attributes_break_der.ensures.0 refl)

pub loop-relative_name-preserved : goal.loop-relative_name-preserved
loop-relative_name-preserved c = still_on {f = set} tt c.in-Some.relative_name.content.now c.in-Some.ensures.0.0 c.loop-relative_name.invariant (λ h. false≢true (c.if-attributes_break_der.ensures.1 h))
