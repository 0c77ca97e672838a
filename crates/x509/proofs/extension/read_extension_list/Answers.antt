use Rattle.std.proofs.Common.{true}
use Rattle.std.proofs.lemmas.Result.{err_from_is_err_and}
use Rattle.x509.proofs.ReaderLaws.{finished, opened, step, stop, type_read, within_whole}
use Rattle.x509.proofs.extension.read_extension_list.Goals as goal

pub returns-in_err-list : goal.returns-in_err-list
returns-in_err-list c =
    let q = err_from_is_err_and c.from_residual.result c.from_residual.ensures.1 in
    rw (q.1, q.2) (stop (type_read true 16 c.in_err-list.ensures))

pub returns-in_err-check_extensions : goal.returns-in_err-check_extensions
returns-in_err-check_extensions c =
    let q = err_from_is_err_and c.from_residual-in_err-check_extensions.result c.from_residual-in_err-check_extensions.ensures.1 in
    rw (q.1, q.2) (opened true 16 c.in_ok-list.ensures (λ i. stop (within_whole i c.in_err-check_extensions.ensures)))

pub returns : goal.returns
returns c = opened true 16 c.in_ok-list.ensures (λ i. step (within_whole i c.in_ok-check_extensions.ensures) (finished c.remaining.ensures))
