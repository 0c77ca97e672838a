use Rattle.x509_rule_facts.proofs.SaidLaws.{negated}
use Rattle.x509_value_rules.proofs.SoundLaws.{sound_names}
use Rattle.x509_value_rules.proofs.reading.are_sound_names.Goals as goal

pub returns-in-Ok : goal.returns-in-Ok
returns-in-Ok c = λ h. sound_names c.args.value.now c.in-Ok.ensures.value ((negated c.has_bad_name.ensures).0 h)
