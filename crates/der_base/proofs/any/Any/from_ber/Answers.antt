use Rattle.der_base.proofs.Answers.Exactness.{exactly}
use Rattle.der_base.proofs.Framing.AnyLaws.{any_shows_one}
use Rattle.der_base.proofs.any.Any.from_ber.Goals as goal

pub returns : goal.returns
returns c = exactly c.read_ber.result (any_shows_one c.args.i.now) (λ n l m. m) c.read_ber.ensures
