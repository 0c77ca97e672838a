use Rattle.x509_rule_facts.specs.Uris.{IsHostless}
use Rattle.std.proofs.Common.{sym, ◌∙◌}
use Rattle.x509_rule_facts.proofs.UriLaws.{begins_twice, begins_twice_not}
use Rattle.x509_rule_facts.proofs.uri.has_no_host.Goals as goal

pub returns-in-Some : goal.returns-in-Some
returns-in-Some c = begins_twice IsHostless 47 (sym c.behind.ensures ∙ c.in-Some.ensures) c.is_hostless.ensures

pub returns-in-None : goal.returns-in-None
returns-in-None c = begins_twice_not IsHostless 47 (λ x e. c.in-None.ensures x (c.behind.ensures ∙ e))
