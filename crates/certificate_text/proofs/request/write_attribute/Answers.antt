use Rattle.std.proofs.Common.{inl, inr}
use Rattle.extension_text.proofs.NamesLaws.WriteLaws.{restated}
use Rattle.certificate_text.proofs.request.write_attribute.Goals as goal

pub returns-then-is_extension_request : goal.returns-then-is_extension_request
returns-then-is_extension_request g c =
    restated (λ t x. inl (c.is_extension_request.ensures.0 c.if-is_extension_request.true, x)) c.write_requested.ensures

pub returns : goal.returns
returns g c = restated (λ t x. inr ((λ e. let h = c.is_extension_request.ensures.1 e in cc), x)) c.write_unrequested.ensures
