use Rattle.x509_rule_facts.proofs.SaidLaws.{not_readable, readable}
use Rattle.x509_value_rules.proofs.party_name.is_party.Goals as goal

pub returns-in-Ok : goal.returns-in-Ok
returns-in-Ok c = readable c.in-Ok.ensures

pub returns-in-Err : goal.returns-in-Err
returns-in-Err c = not_readable c.in-Err.ensures
