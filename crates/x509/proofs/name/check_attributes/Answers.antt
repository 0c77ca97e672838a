use Rattle.std.proofs.Common.{rules}
use Rattle.std.proofs.lemmas.Result.{err_from_is_err_and}
use Rattle.x509.proofs.ReaderLaws.{none_read, reaches_end, reaches_more, reaches_refused, reaches_start, some_read}
use Rattle.x509.proofs.name.check_attributes.Goals as goal

pub loop-attributes-init : goal.loop-attributes-init
loop-attributes-init c = reaches_start

pub returns-in_err-read_attribute : goal.returns-in_err-read_attribute
returns-in_err-read_attribute c =
    let q = err_from_is_err_and c.from_residual.result c.from_residual.ensures.1 in
    rw (q.1, q.2) (some_read (search rules) (reaches_refused c.loop-attributes.invariant (search rules) c.in_err-read_attribute.ensures.reads))

pub loop-attributes-preserved : goal.loop-attributes-preserved
loop-attributes-preserved c = reaches_more c.loop-attributes.invariant (search rules) c.in_ok-read_attribute.ensures.reads

pub returns : goal.returns
returns c = some_read (search rules) (reaches_end c.loop-attributes.invariant (search rules))

pub returns-then-is_empty : goal.returns-then-is_empty
returns-then-is_empty c = none_read (search rules) c.refuse.ensures
