use Rattle.x509.proofs.WalkLaws.{filled}
use Rattle.x509.proofs.list_rules.is_filled.Goals as goal

pub returns-in-Some : goal.returns-in-Some
returns-in-Some c = filled c.in-Some.list.content.now c.in-Some.ensures.0.0 c.is_filled_to_end.ensures
