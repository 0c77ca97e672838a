use Rattle.der_base.proofs.Answers.Exactness.{exactly}
use Rattle.der_base.proofs.Headers.BerHeaders.{ber_header_shows_one}
use Rattle.der_base.proofs.header.ber_read_element_header.Goals as goal

pub returns : goal.returns
returns c = exactly c.read_ber_header.result (ber_header_shows_one c.args.i.now) (λ n l m. m) c.read_ber_header.ensures
