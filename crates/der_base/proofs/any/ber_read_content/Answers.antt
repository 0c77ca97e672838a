use Rattle.der_base.proofs.Answers.Exactness.{exactly}
use Rattle.der_base.proofs.Framing.AnyLaws.{content_shows_one}
use Rattle.der_base.proofs.any.ber_read_content.Goals as goal

pub returns : goal.returns
returns c = exactly c.read_content.result (content_shows_one c.args.length c.args.budget c.args.i.now) (λ n l m. m) c.read_content.ensures
