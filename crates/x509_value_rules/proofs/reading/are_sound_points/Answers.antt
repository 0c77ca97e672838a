use Rattle.std.proofs.Common.{refl}
use Rattle.x509_rule_facts.proofs.SaidLaws.{negated}
use Rattle.x509_value_rules.proofs.SoundLaws.{sound_points}
use Rattle.x509_value_rules.proofs.reading.are_sound_points.Goals as goal

pub returns-then-has_whole_point : goal.returns-then-has_whole_point
returns-then-has_whole_point c = λ h. sound_points c.args.value.now c.in-Ok.ensures.value (c.if-has_whole_point.ensures.0 refl) ((negated c.has_bad_point.ensures).0 h)
