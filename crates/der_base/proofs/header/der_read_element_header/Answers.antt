use Rattle.der_base.proofs.Answers.Exactness.{exactly}
use Rattle.der_base.proofs.Headers.DerHeaders.{der_header_shows_one}
use Rattle.der_base.proofs.header.der_read_element_header.Goals as goal

pub returns : goal.returns
returns c = exactly c.read_der_header.result (der_header_shows_one c.args.i.now) (λ n l m. m) c.read_der_header.ensures
