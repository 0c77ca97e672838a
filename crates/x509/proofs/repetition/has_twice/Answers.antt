use Rattle.std.proofs.Common.{Bor, List, ℕ}
use Rattle.x509.proofs.RepetitionLaws.{twice}
use Rattle.x509.proofs.repetition.has_twice.Goals as goal

pub returns : goal.returns
returns c = twice (λ (t : Bor (List ℕ)). t.now) c.args.texts.now c.sort_unstable.new.self c.have_equal_neighbours.result c.sort_unstable.ensures.permutation c.sort_unstable.ensures.sorted c.have_equal_neighbours.ensures
