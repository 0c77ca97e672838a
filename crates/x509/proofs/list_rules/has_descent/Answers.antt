use Rattle.std.proofs.Common.{refl}
use Rattle.std.proofs.lemmas.Bool.{false≢true}
use Rattle.x509.specs.Formats.{set}
use Rattle.x509.proofs.WalkLaws.{found_here, still_on}
use Rattle.x509.proofs.list_rules.has_descent.Goals as goal

pub returns-then-attributes_descend : goal.returns-then-attributes_descend
returns-then-attributes_descend c = found_here {f = set} tt c.in-Some.relative_name.content.now c.in-Some.ensures.0.0 c.loop-relative_name.invariant (c.if-attributes_descend.ensures.0 refl)

pub loop-relative_name-preserved : goal.loop-relative_name-preserved
loop-relative_name-preserved c = still_on {f = set} tt c.in-Some.relative_name.content.now c.in-Some.ensures.0.0 c.loop-relative_name.invariant (λ h. false≢true (c.if-attributes_descend.ensures.1 h))
