use Rattle.x509_rule_facts.proofs.SaidLaws.{not_said, said}
use Rattle.x509_value_rules.proofs.value_rules.breaks_whole_seconds.Goals as goal

pub returns-in-Ok : goal.returns-in-Ok
returns-in-Ok c = said c.in-Ok.ensures.value c.has_fraction.ensures

pub returns-in-Err : goal.returns-in-Err
returns-in-Err c = not_said c.in-Err.ensures.value
