use Rattle.x509.proofs.WalkLaws.{value_broken}
use Rattle.x509.proofs.value_rules.value_breaks_der.Goals as goal

pub returns-in-Some : goal.returns-in-Some
returns-in-Some c = value_broken c.in-Some.identifier.content.now c.is_der.result c.in-Some.ensures.0.0 c.is_der.ensures
