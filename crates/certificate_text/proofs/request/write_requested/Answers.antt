use Rattle.std.proofs.Common.{inl, inr}
use Rattle.extension_text.proofs.NamesLaws.WriteLaws.{restated}
use Rattle.certificate_text.proofs.request.write_requested.Goals as goal

pub returns-in-Ok : goal.returns-in-Ok
returns-in-Ok g c = restated (λ t x. inl (c.in-Ok.extensions.octets.now, c.in-Ok.ensures.found, x)) c.write_extensions.ensures

pub returns-in-Err : goal.returns-in-Err
returns-in-Err g c = restated (λ t x. inr ((λ e so. c.in-Err.ensures.only e so), x)) c.write_other.ensures
