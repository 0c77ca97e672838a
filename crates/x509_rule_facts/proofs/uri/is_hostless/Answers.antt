use Rattle.std.proofs.Common.{ap, ◌∙◌}
use Rattle.x509_rule_facts.specs.Uris.{IsHostAndPort, without_user}
use Rattle.x509_rule_facts.proofs.UriLaws.{is_none}
use Rattle.x509_rule_facts.proofs.uri.is_hostless.Goals as goal

pub returns : goal.returns
returns c = is_none IsHostAndPort (c.without_user.ensures ∙ ap without_user c.before_path.ensures) c.is_host_and_port.ensures
