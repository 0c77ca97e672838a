use Rattle.std.proofs.Common.{true}
use Rattle.std.proofs.lemmas.Result.{err_from_is_err_and}
use Rattle.x509.proofs.ReaderLaws.{finished, opened, step, stop, type_read, within_whole}
use Rattle.x509.proofs.name.read_name.Goals as goal

pub returns-in_err-names : goal.returns-in_err-names
returns-in_err-names c =
    let q = err_from_is_err_and c.from_residual.result c.from_residual.ensures.1 in
    rw (q.1, q.2) (stop (type_read true 16 c.in_err-names.ensures))

pub returns-in_err-check_relative_names : goal.returns-in_err-check_relative_names
returns-in_err-check_relative_names c =
    let q = err_from_is_err_and c.from_residual-in_err-check_relative_names.result c.from_residual-in_err-check_relative_names.ensures.1 in
    rw (q.1, q.2) (opened true 16 c.in_ok-names.ensures (λ i. stop (within_whole i c.in_err-check_relative_names.ensures)))

pub returns : goal.returns
returns c = opened true 16 c.in_ok-names.ensures (λ i. step (within_whole i c.in_ok-check_relative_names.ensures) (finished c.remaining.ensures))
