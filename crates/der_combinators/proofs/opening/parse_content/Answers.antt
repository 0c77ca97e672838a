use Rattle.std.proofs.Common.{refl, inl, inr}
use Rattle.der_base.specs.Containers.{refused, stopped, accepted}
use Rattle.der_combinators.proofs.opening.parse_content.Goals as goal

pub returns-in-Err-clause-run : goal.returns-in-Err-clause-run
returns-in-Err-clause-run g c = rw c.in-Err.is (inl (refused refl))

pub returns-in-Err-f-clause-run : goal.returns-in-Err-f-clause-run
returns-in-Err-f-clause-run g c = rw c.in-Ok.is (inr (stopped (refl, refl, refl) c.in-Err-f.ensures refl))

pub returns-in-Ok-f-clause-run : goal.returns-in-Ok-f-clause-run
returns-in-Ok-f-clause-run g c = rw c.in-Ok.is (inr (accepted (refl, refl, refl) c.in-Ok-f.ensures refl))
