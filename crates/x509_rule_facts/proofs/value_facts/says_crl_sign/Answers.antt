use Rattle.x509_rule_facts.proofs.SaidLaws.{by_value, not_said, said}
use Rattle.x509_rule_facts.proofs.value_facts.says_crl_sign.Goals as goal

pub returns-in-Ok : goal.returns-in-Ok
returns-in-Ok c = said c.in-Ok.ensures.value (by_value c.crl_sign.ensures)

pub returns-in-Err : goal.returns-in-Err
returns-in-Err c = not_said c.in-Err.ensures.value
