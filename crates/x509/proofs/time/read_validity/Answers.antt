use Rattle.std.proofs.Common.{true, refl}
use Rattle.std.proofs.lemmas.Result.{err_from_is_err_and}
use Rattle.x509.proofs.ReaderLaws.{end_read, finished, opened, step, stop, type_read, within}
use Rattle.x509.proofs.time.read_validity.Goals as goal

pub returns-in_err-parts : goal.returns-in_err-parts
returns-in_err-parts c =
    let q = err_from_is_err_and c.from_residual.result c.from_residual.ensures.1 in
    rw (q.1, q.2) (stop (type_read true 16 c.in_err-parts.ensures))

pub returns-in_err-not_before : goal.returns-in_err-not_before
returns-in_err-not_before c =
    let q = err_from_is_err_and c.from_residual-in_err-not_before.result c.from_residual-in_err-not_before.ensures.1 in
    rw (q.1, q.2) (opened true 16 c.in_ok-parts.ensures (λ i. within i (stop c.in_err-not_before.ensures)))

pub returns-in_err-not_after : goal.returns-in_err-not_after
returns-in_err-not_after c =
    let q = err_from_is_err_and c.from_residual-in_err-not_after.result c.from_residual-in_err-not_after.ensures.1 in
    rw (q.1, q.2) (opened true 16 c.in_ok-parts.ensures (λ i. within i (step c.in_ok-not_before.ensures (stop c.in_err-not_after.ensures))))

pub returns-in_err-end : goal.returns-in_err-end
returns-in_err-end c =
    let q = err_from_is_err_and c.from_residual-in_err-end.result c.from_residual-in_err-end.ensures.1 in
    rw (q.1, q.2) (opened true 16 c.in_ok-parts.ensures (λ i. within i (step c.in_ok-not_before.ensures (step c.in_ok-not_after.ensures (stop (end_read c.in_err-end.ensures))))))

pub returns : goal.returns
returns c = opened true 16 c.in_ok-parts.ensures (λ i. within i (step c.in_ok-not_before.ensures (step c.in_ok-not_after.ensures (step (end_read c.in_ok-end.ensures) (finished refl)))))
