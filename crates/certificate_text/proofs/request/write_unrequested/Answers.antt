use Rattle.std.proofs.Common.{inl, inr}
use Rattle.extension_text.proofs.NamesLaws.WriteLaws.{restated}
use Rattle.certificate_text.proofs.request.write_unrequested.Goals as goal

pub returns-then-is_challenge_password : goal.returns-then-is_challenge_password
returns-then-is_challenge_password g c =
    restated (λ t x. inl (c.is_challenge_password.ensures.0 c.if-is_challenge_password.true, x)) c.write_password.ensures

pub returns : goal.returns
returns g c = restated (λ t x. inr ((λ e. let h = c.is_challenge_password.ensures.1 e in cc), x)) c.write_other.ensures
