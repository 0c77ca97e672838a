use Rattle.x509_rule_facts.specs.Uris.{ClosesLiteral}
use Rattle.x509_rule_facts.proofs.UriLaws.{begins, begins_not}
use Rattle.x509_rule_facts.proofs.uri.is_literal_and_port.Goals as goal

pub returns-in-Some : goal.returns-in-Some
returns-in-Some c = begins ClosesLiteral 91 c.in-Some.ensures c.closes_literal.ensures

pub returns-in-None : goal.returns-in-None
returns-in-None c = begins_not ClosesLiteral 91 c.in-None.ensures
