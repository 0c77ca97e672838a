use Rattle.std.proofs.Common.{arith}
use Rattle.der_base.proofs.Answers.Exactness.{exactly}
use Rattle.der_readers.proofs.TypesLaws.ContentLaws.{object_shows_one}
use Rattle.der_readers.proofs.types.content.ber_object_from_any.Goals as goal

pub returns : goal.returns
returns c = exactly c.object_from_any.result (object_shows_one c.args.any (omega arith)) (λ n h m. absurd h) c.object_from_any.ensures
