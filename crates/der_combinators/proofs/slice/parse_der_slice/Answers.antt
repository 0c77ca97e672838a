use Rattle.der_base.specs.declared.rules.Rules.TheVariants.{Der}
use Rattle.der_base.proofs.Answers.Exactness.{exactly}
use Rattle.der_combinators.proofs.Slices.{slice_shows_one}
use Rattle.der_combinators.proofs.slice.parse_der_slice.Goals as goal

pub returns : goal.returns
returns c = exactly c.read_slice.result (slice_shows_one Der c.args.tag.0 c.args.i.now) (λ n h m. m) c.read_slice.ensures
