use Rattle.std.proofs.Common.{rules}
use Rattle.std.proofs.lemmas.Result.{err_from_is_err_and}
use Rattle.der_cursor.proofs.FormatLaws.{limited_read, limited_stops, not_limited}
use Rattle.messages.specs.Ldap.Filters.{AnyPieces, AreInOrder}
use Rattle.messages.proofs.ldap.filter_items.read_pieces.Goals as goal

pub returns-in_err-pieces : goal.returns-in_err-pieces
returns-in_err-pieces c =
    let q = err_from_is_err_and c.from_residual.result c.from_residual.ensures.1 in
    rw (q.1, q.2) (limited_stops AreInOrder AnyPieces c.in_err-pieces.ensures)

pub returns-then-not-are_in_order : goal.returns-then-not-are_in_order
returns-then-not-are_in_order c = not_limited AreInOrder AnyPieces (λ h. let e = c.are_in_order.ensures in absurd (search rules)) c.in_ok-pieces.ensures

pub returns : goal.returns
returns c = limited_read AreInOrder AnyPieces (search rules) c.in_ok-pieces.ensures
