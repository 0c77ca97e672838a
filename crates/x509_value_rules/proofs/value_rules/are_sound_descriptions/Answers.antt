use Rattle.x509_rule_facts.proofs.SaidLaws.{negated}
use Rattle.x509_value_rules.proofs.SoundLaws.{sound_descriptions}
use Rattle.x509_value_rules.proofs.value_rules.are_sound_descriptions.Goals as goal

pub returns-in-Ok : goal.returns-in-Ok
returns-in-Ok c = λ h. sound_descriptions c.args.value.now c.in-Ok.ensures.value ((negated c.has_bad_location.ensures).0 h)
