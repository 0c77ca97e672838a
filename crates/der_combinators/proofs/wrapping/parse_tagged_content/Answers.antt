use Rattle.std.proofs.Common.{refl, inl, inr}
use Rattle.der_base.specs.Containers.{refused, stopped, accepted, not_made, made, enough, no_room}
use Rattle.der_combinators.proofs.wrapping.parse_tagged_content.Goals as goal

pub returns-in-Err-clause-run : goal.returns-in-Err-clause-run
returns-in-Err-clause-run g c = rw c.in-Err.is (inl (refused refl))

pub returns-in-Err-f-clause-run : goal.returns-in-Err-f-clause-run
returns-in-Err-f-clause-run g c = rw c.in-Ok.is (inr (stopped (refl, refl, refl) (enough (not_made c.in-Err-f.ensures)) refl))

pub returns-in-Some-clause-run : goal.returns-in-Some-clause-run
returns-in-Some-clause-run g c = rw c.in-Ok.is (inr (accepted (refl, refl, refl) (enough (made c.in-Ok-f.ensures c.in-Some.ensures)) refl))

pub returns-in-None-clause-run : goal.returns-in-None-clause-run
returns-in-None-clause-run g c = rw c.in-Ok.is (inr (stopped (refl, refl, refl) (no_room c.in-Ok-f.ensures) refl))
