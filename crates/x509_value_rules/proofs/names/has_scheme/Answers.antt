use Rattle.std.proofs.lemmas.List.{nil_from_length}
use Rattle.x509_value_rules.proofs.SchemeLaws.{no_scheme, scheme_begins}
use Rattle.x509_value_rules.proofs.names.has_scheme.Goals as goal

pub returns-in-Some : goal.returns-in-Some
returns-in-Some c = scheme_begins c.in-Some.ensures.cases.0 c.is_begun.ensures

pub returns-in-None : goal.returns-in-None
returns-in-None c = no_scheme (nil_from_length c.args.text.now c.in-None.ensures.cases)
