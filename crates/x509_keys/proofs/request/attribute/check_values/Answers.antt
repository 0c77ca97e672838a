use Rattle.std.proofs.Common.{rules}
use Rattle.std.proofs.lemmas.Result.{err_from_is_err_and}
use Rattle.x509.proofs.ReaderLaws.{none_read, reaches_end, reaches_more, reaches_refused, reaches_start, some_read}
use Rattle.x509_keys.proofs.request.attribute.check_values.Goals as goal

pub loop-list-init : goal.loop-list-init
loop-list-init c = reaches_start

pub returns-in_err-read_value : goal.returns-in_err-read_value
returns-in_err-read_value c =
    let q = err_from_is_err_and c.from_residual.result c.from_residual.ensures.1 in
    rw (q.1, q.2) (some_read (search rules) (reaches_refused c.loop-list.invariant (search rules) c.in_err-read_value.ensures.reads))

pub loop-list-preserved : goal.loop-list-preserved
loop-list-preserved c = reaches_more c.loop-list.invariant (search rules) c.in_ok-read_value.ensures.reads

pub returns : goal.returns
returns c = some_read (search rules) (reaches_end c.loop-list.invariant (search rules))

pub returns-then-is_empty : goal.returns-then-is_empty
returns-then-is_empty c = none_read (search rules) c.refuse.ensures
