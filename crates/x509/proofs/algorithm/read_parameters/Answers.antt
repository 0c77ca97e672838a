use Rattle.std.proofs.Common.{rules}
use Rattle.std.proofs.lemmas.Result.{err_from_is_err_and}
use Rattle.x509.proofs.ReaderLaws.{last_absent, last_read, last_refused}
use Rattle.x509.proofs.algorithm.read_parameters.Goals as goal

pub returns-in_err-any : goal.returns-in_err-any
returns-in_err-any c =
    let q = err_from_is_err_and c.from_residual.result c.from_residual.ensures.1 in
    rw (q.1, q.2) (last_refused (search rules) c.in_err-any.ensures)

pub returns : goal.returns
returns c = last_read (search rules) c.in_ok-any.ensures c.end.ensures

pub returns-then-is_empty : goal.returns-then-is_empty
returns-then-is_empty c = last_absent (search rules)
