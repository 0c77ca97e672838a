use Rattle.x509_rule_facts.proofs.SaidLaws.{not_said, said}
use Rattle.x509_rule_facts.proofs.value_facts.says_ocsp_responder.Goals as goal

pub returns-in-Ok : goal.returns-in-Ok
returns-in-Ok c = said c.in-Ok.ensures.value c.has_ocsp_responder.ensures

pub returns-in-Err : goal.returns-in-Err
returns-in-Err c = not_said c.in-Err.ensures.value
