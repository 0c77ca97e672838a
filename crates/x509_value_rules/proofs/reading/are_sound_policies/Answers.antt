use Rattle.std.proofs.lemmas.Bool.{false≢true}
use Rattle.x509_rule_facts.proofs.SaidLaws.{negated}
use Rattle.x509_value_rules.proofs.SoundLaws.{sound_policies}
use Rattle.x509_value_rules.proofs.reading.are_sound_policies.Goals as goal

pub returns-then-not-has_remark : goal.returns-then-not-has_remark
returns-then-not-has_remark c = λ h. sound_policies c.args.value.now c.in-Ok.ensures.value (λ a. false≢true (c.if-not-has_remark.ensures.1 a)) ((negated c.are_indistinct.ensures).0 h)
