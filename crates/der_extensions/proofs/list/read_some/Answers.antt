use Rattle.std.proofs.Common.{refl, rules}
use Rattle.std.proofs.lemmas.List.{nil_from_length}
use Rattle.std.proofs.lemmas.Result.{err_from_is_err_and}
use Rattle.der_extensions.proofs.ListLaws.{none_there, some_read, some_stops}
use Rattle.der_extensions.proofs.list.read_some.Goals as goal

pub returns-in_err-octets : goal.returns-in_err-octets
returns-in_err-octets g c =
    let q = err_from_is_err_and c.from_residual.result c.from_residual.ensures.1 in
    rw (q.1, q.2) (some_stops g.T.Item.field _ _ c.in_err-octets.ensures)

pub returns-then-is_empty : goal.returns-then-is_empty
returns-then-is_empty g c = none_there g.T.Item.field _ _ (nil_from_length _ (search rules)) c.in_ok-octets.ensures

pub returns : goal.returns
returns g c = some_read g.T.Item.field _ _ (search rules) refl c.in_ok-octets.ensures
