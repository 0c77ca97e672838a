use Rattle.std.proofs.Common.{length}
use Rattle.asn1_names.proofs.comments.read_words.Given as goal

abbrev pub decreases-loop-part : goal.decreases-loop-part
decreases-loop-part l = length l.rest.octets.now
