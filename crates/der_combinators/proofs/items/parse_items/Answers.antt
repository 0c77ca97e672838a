use Rattle.std.proofs.Common.{refl, inl, inr}
use Rattle.der_base.specs.Containers.{refused, stopped, accepted}
use Rattle.der_combinators.proofs.items.parse_items.Goals as goal

pub returns-in-Err-clause-run : goal.returns-in-Err-clause-run
returns-in-Err-clause-run g c = rw c.in-Err.is (inl (refused refl))

pub returns-in-Err-read_items-clause-run : goal.returns-in-Err-read_items-clause-run
returns-in-Err-read_items-clause-run g c = rw c.in-Ok.is (inr (stopped {content = c.in-Ok.parts.1} (refl, refl, refl) c.in-Err-read_items.ensures.err refl))

pub returns-in-Ok-read_items-clause-run : goal.returns-in-Ok-read_items-clause-run
returns-in-Ok-read_items-clause-run g c = rw c.in-Ok.is (inr (accepted {content = c.in-Ok.parts.1} {left = c.in-Ok.parts.1} (refl, refl, refl) c.in-Ok-read_items.ensures.ok refl))
