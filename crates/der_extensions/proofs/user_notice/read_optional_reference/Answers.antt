use Rattle.std.proofs.Common.{rules}
use Rattle.std.proofs.lemmas.Result.{err_from_is_err_and}
use Rattle.der_cursor.proofs.FormatLaws.{is_read, is_refused, not_next}
use Rattle.der_extensions.specs.Notices.{NoticeReference, reference_of}
use Rattle.der_extensions.proofs.user_notice.read_optional_reference.Goals as goal

pub returns-in_err-reference : goal.returns-in_err-reference
returns-in_err-reference c =
    let q = err_from_is_err_and c.from_residual.result c.from_residual.ensures.1 in
    rw (q.1, q.2) (is_refused NoticeReference (search rules) c.in_err-reference.ensures)

pub returns-then-not-is_next : goal.returns-then-not-is_next
returns-then-not-is_next c = not_next NoticeReference {view = reference_of} (search rules)

pub returns : goal.returns
returns c = is_read NoticeReference (search rules) c.in_ok-reference.ensures
