use Rattle.std.proofs.Common.{refl}
use Rattle.std.proofs.lemmas.Result.{err_from_is_err_and}
use Rattle.x509_keys.proofs.RequestLaws.RequestLaws.{extensions_from_start}
use Rattle.x509.proofs.ReaderLaws.{end_read, finished, step, stop, whole}
use Rattle.x509_keys.proofs.request.extension_request.read_extension_request.Goals as goal

pub returns-in_err-extensions : goal.returns-in_err-extensions
returns-in_err-extensions c =
    let q = err_from_is_err_and c.from_residual.result c.from_residual.ensures.1 in
    rw (q.1, q.2) (extensions_from_start c.args.values.octets.now c.new-input.result _ c.new-input.ensures (whole (stop (c.in_err-extensions.ensures))))

pub returns-in_err-end : goal.returns-in_err-end
returns-in_err-end c =
    let q = err_from_is_err_and c.from_residual-in_err-end.result c.from_residual-in_err-end.ensures.1 in
    rw (q.1, q.2) (extensions_from_start c.args.values.octets.now c.new-input.result _ c.new-input.ensures (whole (step (c.in_ok-extensions.ensures) (stop (end_read c.in_err-end.ensures)))))

pub returns : goal.returns
returns c = extensions_from_start c.args.values.octets.now c.new-input.result _ c.new-input.ensures (whole (step (c.in_ok-extensions.ensures) (step (end_read c.in_ok-end.ensures) (finished refl))))
