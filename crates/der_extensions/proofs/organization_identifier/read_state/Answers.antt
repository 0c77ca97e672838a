use Rattle.std.proofs.Common.{rules}
use Rattle.std.proofs.lemmas.Result.{err_from_is_err_and}
use Rattle.der_cursor.specs.Formats.{Implicit}
use Rattle.der_cursor.proofs.FormatLaws.{is_read, is_refused, not_next}
use Rattle.der_extensions.specs.WebExtensions.{StateOrProvince}
use Rattle.der_extensions.proofs.organization_identifier.read_state.Goals as goal

pub returns-in_err-state : goal.returns-in_err-state
returns-in_err-state c =
    let q = err_from_is_err_and c.from_residual.result c.from_residual.ensures.1 in
    rw (q.1, q.2) (is_refused (Implicit 0 StateOrProvince) (search rules) c.in_err-state.ensures)

pub returns-then-not-is_next : goal.returns-then-not-is_next
returns-then-not-is_next c = not_next (Implicit 0 StateOrProvince) (search rules)

pub returns : goal.returns
returns c = is_read (Implicit 0 StateOrProvince) (search rules) c.in_ok-state.ensures
