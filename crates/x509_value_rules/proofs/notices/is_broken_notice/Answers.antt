use Rattle.x509_rule_facts.proofs.SaidLaws.{not_said, said}
use Rattle.x509_value_rules.proofs.notices.is_broken_notice.Goals as goal

pub returns-in-Ok : goal.returns-in-Ok
returns-in-Ok c = said c.in-Ok.ensures c.breaks_displayed.ensures

pub returns-in-Err : goal.returns-in-Err
returns-in-Err c = not_said c.in-Err.ensures
