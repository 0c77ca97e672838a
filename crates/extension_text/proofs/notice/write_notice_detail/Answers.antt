use Rattle.std.proofs.Common.{inl, inr}
use Rattle.extension_text.proofs.NamesLaws.WriteLaws.{one, restated}
use Rattle.der_extensions.specs.Notices.{notice_of}
use Rattle.extension_text.proofs.notice.write_notice_detail.Goals as goal

pub returns-in-Ok : goal.returns-in-Ok
returns-in-Ok g c = restated (λ t x. inl (notice_of c.in-Ok.notice, c.in-Ok.ensures.found, x)) c.write_notice.ensures

pub returns-in-Err : goal.returns-in-Err
returns-in-Err g c = restated (λ t x. inr ((λ n k. c.in-Err.ensures.only n k), x)) (one c.write_other_detail.ensures)
