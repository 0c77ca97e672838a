use Rattle.std.proofs.Common.{Bor, List, ℕ}
use Rattle.x509.proofs.RepetitionLaws.{one_further}
use Rattle.x509.proofs.repetition.have_equal_neighbours.Goals as goal

pub loop-place-preserved : goal.loop-place-preserved
loop-place-preserved c = one_further (λ (t : Bor (List ℕ)). t.now) c.args.texts.now c.loop-place.place _ _ c.loop-place.auto.place c.loop-place-test.true c.if-eq.ensures c.loop-place.invariant
