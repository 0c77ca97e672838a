use Rattle.std.proofs.Common.{refl}
use Rattle.x509_rule_facts.proofs.SaidLaws.{by_value, readable, said}
use Rattle.x509_value_rules.proofs.reading.read_usage.Goals as goal

pub returns-in-Ok : goal.returns-in-Ok
returns-in-Ok c = ((readable c.in-Ok.ensures.value).0 refl, said c.in-Ok.ensures.value (by_value c.key_cert_sign.ensures), said c.in-Ok.ensures.value (by_value c.crl_sign.ensures))
