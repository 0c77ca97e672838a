use Rattle.std.proofs.Common.{refl, rules}
use Rattle.std.proofs.lemmas.Result.{err_from_is_err_and}
use Rattle.der_values.specs.Kinds.{times}
use Rattle.x509.proofs.ReaderLaws.{finished, first, second, step, stop, value_read}
use Rattle.x509.proofs.time.read_time.Goals as goal

pub returns-then-is_next : goal.returns-then-is_next
returns-then-is_next c = first (search rules) (step (value_read (λ r. times r 24) 24 c.in_ok-generalized_time.ensures) (finished refl))

pub returns : goal.returns
returns c = second (search rules) (step (value_read (λ r. times r 23) 23 c.in_ok-utc_time.ensures) (finished refl))

pub returns-in_err-generalized_time : goal.returns-in_err-generalized_time
returns-in_err-generalized_time c =
    let q = err_from_is_err_and c.from_residual.result c.from_residual.ensures.1 in
    rw (q.1, q.2) (first (search rules) (stop (value_read (λ r. times r 24) 24 c.in_err-generalized_time.ensures)))

pub returns-in_err-utc_time : goal.returns-in_err-utc_time
returns-in_err-utc_time c =
    let q = err_from_is_err_and c.from_residual-in_err-utc_time.result c.from_residual-in_err-utc_time.ensures.1 in
    rw (q.1, q.2) (second (search rules) (stop (value_read (λ r. times r 23) 23 c.in_err-utc_time.ensures)))
