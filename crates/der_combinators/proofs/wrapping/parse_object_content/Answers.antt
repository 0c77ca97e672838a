use Rattle.std.proofs.Common.{refl, inl, inr}
use Rattle.der_base.specs.Containers.{refused, stopped, accepted, not_made, made}
use Rattle.der_combinators.proofs.wrapping.parse_object_content.Goals as goal

pub returns-in-Err-clause-run : goal.returns-in-Err-clause-run
returns-in-Err-clause-run g c = rw c.in-Err.is (inl (refused refl))

pub returns-in-Err-f-clause-run : goal.returns-in-Err-f-clause-run
returns-in-Err-f-clause-run g c =
    rw c.in-Ok.is (inr (stopped {content = c.in-Ok.parts.1} (refl, refl, refl) (c.with_length-header.result, c.with_length-header.ensures, not_made (_, refl, c.in-Err-f.ensures)) refl))

pub returns-in-Ok-f-clause-run : goal.returns-in-Ok-f-clause-run
returns-in-Ok-f-clause-run g c =
    let x = c.from_header_and_content.ensures in
    rw c.in-Ok.is
    (inr (accepted {content = c.in-Ok.parts.1} (refl, refl, refl) (c.with_length-header.result, c.with_length-header.ensures, made (_, refl, c.in-Ok-f.ensures) (x.header, x.content)) refl))
