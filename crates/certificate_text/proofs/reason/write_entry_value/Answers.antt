use Rattle.std.proofs.Common.{Err, Ok}
use Rattle.extension_text.proofs.NamesLaws.WriteLaws.{restated}
use Rattle.extension_text.proofs.UnreadLaws.{unread_text}
use Rattle.certificate_text.proofs.reason.write_entry_value.Goals as goal

pub returns-in-Ok : goal.returns-in-Ok
returns-in-Ok g c = restated (λ t x. (Ok c.in-Ok.value, c.in-Ok.ensures, x)) c.write_read_value.ensures

pub returns-in-Err : goal.returns-in-Err
returns-in-Err g c =
    let error = c.error_in.ensures in
    restated (λ t x. (Err c.in-Err.e, c.in-Err.ensures, unread_text error.refusal error.why x)) c.write_unread.ensures
