use Rattle.std.proofs.Common.{arith}
use Rattle.std.proofs.lemmas.Result.{err_from_is_err_and}
use Rattle.der_cursor.proofs.FormatLaws.{limited_read, limited_stops, not_limited}
use Rattle.der_extensions.proofs.organization_identifier.read_tagged_state.Goals as goal

pub returns-in_err-state : goal.returns-in_err-state
returns-in_err-state c =
    let q = err_from_is_err_and c.from_residual.result c.from_residual.ensures.1 in
    rw (q.1, q.2) (limited_stops _ _ c.in_err-state.ensures)

pub returns-then-state-gt-LONGEST_STATE : goal.returns-then-state-gt-LONGEST_STATE
returns-then-state-gt-LONGEST_STATE c = not_limited _ _ (λ h. omega (arith, h)) c.in_ok-state.ensures

pub returns : goal.returns
returns c = limited_read _ _ (omega arith) c.in_ok-state.ensures
