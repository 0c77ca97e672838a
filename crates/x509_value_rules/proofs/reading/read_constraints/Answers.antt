use Rattle.std.proofs.Common.{refl}
use Rattle.x509_rule_facts.proofs.SaidLaws.{itself, readable, said}
use Rattle.x509_value_rules.proofs.reading.read_constraints.Goals as goal

pub returns-in-Ok : goal.returns-in-Ok
returns-in-Ok c = ((readable c.in-Ok.ensures.value).0 refl, said c.in-Ok.ensures.value itself, said c.in-Ok.ensures.value c.has_path_length.ensures)
