use Rattle.std.proofs.Common.{inl, inr}
use Rattle.extension_text.proofs.NamesLaws.WriteLaws.{one, restated}
use Rattle.extension_text.proofs.notice.write_detail.Goals as goal

pub returns-then-is_user_notice : goal.returns-then-is_user_notice
returns-then-is_user_notice g c = restated (λ t x. inl (c.is_user_notice.ensures.0 c.if-is_user_notice.true, x)) c.write_notice_detail.ensures

pub returns : goal.returns
returns g c = restated (λ t x. inr ((λ e. let h = c.is_user_notice.ensures.1 e in cc), x)) (one c.write_other_detail.ensures)
