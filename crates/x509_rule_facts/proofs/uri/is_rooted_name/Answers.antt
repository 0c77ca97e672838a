use Rattle.std.proofs.lemmas.List.{nil_from_length}
use Rattle.x509_rule_facts.proofs.UriLaws.{no_root, rooted_ends}
use Rattle.x509_rule_facts.proofs.uri.is_rooted_name.Goals as goal

pub returns-in-Some : goal.returns-in-Some
returns-in-Some c = rooted_ends c.in-Some.name.now c.in-Some.ensures.cases c.is_rooted_by.ensures

pub returns-in-None : goal.returns-in-None
returns-in-None c = no_root (nil_from_length _ c.in-None.ensures.cases)
