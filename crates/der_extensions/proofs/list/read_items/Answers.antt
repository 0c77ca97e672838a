use Rattle.std.proofs.Common.{rules}
use Rattle.std.proofs.lemmas.Result.{err_from_is_err_and}
use Rattle.der_cursor.proofs.FormatLaws.{inside_of, unopened_of}
use Rattle.der_extensions.specs.Lists.{ListOf}
use Rattle.der_extensions.proofs.ListLaws.{list_content, list_stops, reaches_more}
use Rattle.der_extensions.proofs.list.read_items.Goals as goal

pub returns-in-Err : goal.returns-in-Err
returns-in-Err g c = unopened_of (ListOf g.T.Item.field) c.in-Err.ensures

pub returns-in_err-read : goal.returns-in_err-read
returns-in_err-read g c =
    let q = err_from_is_err_and c.from_residual.result c.from_residual.ensures.1 in
    rw (q.1, q.2) (inside_of (ListOf g.T.Item.field) c.in-Ok.ensures (list_stops g.T.Item.field c.loop-items.invariant (search rules) c.in_err-read.ensures))

pub loop-items-preserved : goal.loop-items-preserved
loop-items-preserved g c = reaches_more c.loop-items.invariant (search rules) c.in_ok-read.ensures

pub returns : goal.returns
returns g c = inside_of (ListOf g.T.Item.field) c.in-Ok.ensures (list_content g.T.Item.field c.loop-items.invariant (search rules) c.remaining.ensures)
