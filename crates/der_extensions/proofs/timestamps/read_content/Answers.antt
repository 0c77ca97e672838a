use Rattle.der_extensions.proofs.VectorLaws.{content_read, no_list, no_vector}
use Rattle.std.proofs.Common.{rules}
use Rattle.der_extensions.proofs.timestamps.read_content.Goals as goal

pub returns-in_default : goal.returns-in_default
returns-in_default c = no_vector c.args.content c.remaining.ensures c.in_default.ensures

pub returns-then-not-are_vectors : goal.returns-then-not-are_vectors
returns-then-not-are_vectors c = no_list c.args.content c.remaining.ensures c.in-Some.ensures (λ h. let e = c.are_vectors.ensures.1 h in cc)

pub returns : goal.returns
returns c = content_read c.args.content c.remaining.ensures c.in-Some.ensures (c.are_vectors.ensures.0 (search rules))
