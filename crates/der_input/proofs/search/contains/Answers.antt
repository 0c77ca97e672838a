use Rattle.std.proofs.Common.{arith, refl}
use Rattle.der_input.proofs.search.contains.Goals as goal

pub returns-in-Some : goal.returns-in-Some
returns-in-Some c = (λ t. (_, c.in-Some.ensures.1), λ h. refl)

pub returns-in-None : goal.returns-in-None
returns-in-None c = (λ t. cc, λ h. absurd (c.in-None.ensures h.0 (omega arith) (omega (arith, h.1.fits)) h.1))
