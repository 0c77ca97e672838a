use Rattle.std.proofs.Common.{arith}
use Rattle.der_uses.proofs.ObjectLaws.{met, through_counts}
use Rattle.der_uses.proofs.shown.object_count.Goals as goal

pub returns : goal.returns
returns c = omega (arith, through_counts (λ d. d.objects) met c.run.ensures)
