use Rattle.std.proofs.Common.{IsTrue, sym, ◌∙◌, rules}
use Rattle.std.specs.List.{list_any}
use Rattle.x509_rule_facts.specs.Uris.{attributes_of, is_comma}
use Rattle.x509_rule_facts.proofs.UriLaws.{begins_twice, begins_twice_not}
use Rattle.x509_rule_facts.proofs.uri.names_several_attributes.Goals as goal

pub returns-in-Some : goal.returns-in-Some
returns-in-Some c = begins_twice (λ w. IsTrue (list_any is_comma (attributes_of w))) 47 (sym c.behind.ensures ∙ c.in-Some.ensures) (search rules)

pub returns-in-None : goal.returns-in-None
returns-in-None c = begins_twice_not (λ w. IsTrue (list_any is_comma (attributes_of w))) 47 (λ x e. c.in-None.ensures x (c.behind.ensures ∙ e))
