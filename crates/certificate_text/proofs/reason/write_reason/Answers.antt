use Rattle.std.proofs.Common.{Err, Ok, ap, codes, ◌∙◌}
use Rattle.extension_text.specs.Names.Values.{line}
use Rattle.extension_text.proofs.NamesLaws.WriteLaws.{one, restated}
use Rattle.extension_text.proofs.UnreadLaws.{unread_text}
use Rattle.certificate_text.proofs.reason.write_reason.Goals as goal

pub returns-in-Ok : goal.returns-in-Ok
returns-in-Ok g c =
    let name = ap (line (codes "        Reason: ")) c.reason_name.ensures in
    restated (λ t x. (Ok c.in-Ok.reason, c.in-Ok.ensures, x ∙ name)) (one c.write.ensures.writes)

pub returns-in-Err : goal.returns-in-Err
returns-in-Err g c =
    let error = c.error_in.ensures in
    restated (λ t x. (Err c.in-Err.e, c.in-Err.ensures, unread_text error.refusal error.why x)) c.write_unread.ensures
