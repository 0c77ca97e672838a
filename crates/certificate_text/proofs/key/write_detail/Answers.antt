use Rattle.std.proofs.Common.{inl, inr}
use Rattle.extension_text.proofs.NamesLaws.WriteLaws.{one, restated}
use Rattle.certificate_text.proofs.key.write_detail.Goals as goal

pub returns-then-is_rsa : goal.returns-then-is_rsa
returns-then-is_rsa g c = restated (λ t x. inl (c.is_rsa.ensures.0 c.if-is_rsa.true, x)) c.write_size.ensures

pub returns-then-is_elliptic : goal.returns-then-is_elliptic
returns-then-is_elliptic g c = restated (λ t x. inr (inl (c.is_elliptic.ensures.0 c.if-is_elliptic.true, x))) c.write_curve.ensures

pub returns : goal.returns
returns g c = restated (λ t x. inr (inr ((λ e. let h = c.is_rsa.ensures.1 e in cc), (λ e. let h = c.is_elliptic.ensures.1 e in cc), x))) (one c.write.ensures.writes)
