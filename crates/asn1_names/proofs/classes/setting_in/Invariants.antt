use Rattle.std.proofs.Common.{length}
use Rattle.asn1_names.proofs.classes.setting_in.Given as goal

abbrev pub decreases-loop-word : goal.decreases-loop-word
decreases-loop-word l = length l.syntax
