use Rattle.std.proofs.Common.{refl}
use Rattle.x509_value_rules.proofs.IssuerLaws.{names_none}
use Rattle.x509_rule_facts.proofs.SaidLaws.{readable, said}
use Rattle.x509_value_rules.proofs.reading.read_key_identifiers.Goals as goal

pub returns-in-Ok : goal.returns-in-Ok
returns-in-Ok c = ((readable c.in-Ok.ensures.value).0 refl, said c.in-Ok.ensures.value c.has_key_identifier.ensures, said c.in-Ok.ensures.value c.is_half.ensures, names_none c.args.value.now c.in-Ok.ensures.value c.lacks_issuer.ensures)
