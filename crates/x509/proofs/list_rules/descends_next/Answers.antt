use Rattle.x509.proofs.WalkLaws.{next_descends}
use Rattle.x509.proofs.list_rules.descends_next.Goals as goal

pub returns-in-Some : goal.returns-in-Some
returns-in-Some c = next_descends (c.in-Some.next.octets.now, c.in-Some.next.content.now) c.in-Some.next.rest.now c.in-Some.ensures.0 c.descends.ensures
