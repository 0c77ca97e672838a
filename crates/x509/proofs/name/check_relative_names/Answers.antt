use Rattle.std.proofs.Common.{rules}
use Rattle.std.proofs.lemmas.Result.{err_from_is_err_and}
use Rattle.x509.proofs.ReaderLaws.{reaches_end, reaches_more, reaches_refused, reaches_start}
use Rattle.x509.proofs.name.check_relative_names.Goals as goal

pub loop-names-init : goal.loop-names-init
loop-names-init c = reaches_start

pub returns-in_err-read_relative_name : goal.returns-in_err-read_relative_name
returns-in_err-read_relative_name c =
    let q = err_from_is_err_and c.from_residual.result c.from_residual.ensures.1 in
    rw (q.1, q.2) (reaches_refused c.loop-names.invariant (search rules) c.in_err-read_relative_name.ensures.reads)

pub loop-names-preserved : goal.loop-names-preserved
loop-names-preserved c = reaches_more c.loop-names.invariant (search rules) c.in_ok-read_relative_name.ensures.reads

pub returns : goal.returns
returns c = reaches_end c.loop-names.invariant (search rules)
