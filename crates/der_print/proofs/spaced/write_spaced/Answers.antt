use Rattle.std.proofs.Common.{refl}
use Rattle.der_print.proofs.SpacedLaws.{spaced}
use Rattle.der_print.proofs.spaced.write_spaced.Goals as goal

pub returns : goal.returns
returns g c = spaced _ _ _ _ _ _ (λ plain. c.in_ok-write_str.ensures.writes plain refl) c.fmt.ensures.writes
