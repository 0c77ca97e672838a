use Rattle.std.proofs.Common.{inl, inr}
use Rattle.der_cursor.specs.Elements.{element_of}
use Rattle.extension_text.proofs.NamesLaws.WriteLaws.{one, restated}
use Rattle.certificate_text.proofs.request.write_password.Goals as goal

pub returns-in-Ok : goal.returns-in-Ok
returns-in-Ok g c = restated (λ t x. inl (element_of c.in-Ok.element, c.in-Ok.ensures.found, x)) (one c.write.ensures.writes)

pub returns-in-Err : goal.returns-in-Err
returns-in-Err g c = restated (λ t x. inr ((λ e so. c.in-Err.ensures.only e so), x)) c.write_other.ensures
