use Rattle.std.proofs.Common.{refl}
use Rattle.std.proofs.lemmas.Result.{err_from_is_err_and}
use Rattle.x509.proofs.ReaderLaws.{end_read, finished, step, stop, tag_read, tag_refused, within}
use Rattle.x509.proofs.certificate.read_version.Goals as goal

pub returns-in_err-inside : goal.returns-in_err-inside
returns-in_err-inside c =
    let q = err_from_is_err_and c.from_residual.result c.from_residual.ensures.1 in
    rw (q.1, q.2) (tag_refused 0 c.in_err-inside.ensures)

pub returns-in_err-version : goal.returns-in_err-version
returns-in_err-version c =
    let q = err_from_is_err_and c.from_residual-in_err-version.result c.from_residual-in_err-version.ensures.1 in
    rw (q.1, q.2) (tag_read 0 _ c.in_ok-inside.ensures c.in-Some.is (λ i. within i (stop c.in_err-version.ensures)))

pub returns-in_err-end : goal.returns-in_err-end
returns-in_err-end c =
    let q = err_from_is_err_and c.from_residual-in_err-end.result c.from_residual-in_err-end.ensures.1 in
    rw (q.1, q.2) (tag_read 0 _ c.in_ok-inside.ensures c.in-Some.is (λ i. within i (step c.in_ok-version.ensures (stop (end_read c.in_err-end.ensures)))))

pub returns : goal.returns
returns c = tag_read 0 _ c.in_ok-inside.ensures c.in-Some.is (λ i. within i (step c.in_ok-version.ensures (step (end_read c.in_ok-end.ensures) (finished refl))))
