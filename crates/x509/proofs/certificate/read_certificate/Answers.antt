use Rattle.std.proofs.Common.{refl}
use Rattle.std.proofs.lemmas.Result.{err_from_is_err_and}
use Rattle.x509.specs.declared.error.Field.TheVariants as field
use Rattle.x509.proofs.CertificateLaws.{read_from_start}
use Rattle.x509.proofs.ReaderLaws.{end_read, finished, named_read, step, stop, whole}
use Rattle.x509.proofs.certificate.read_certificate.Goals as goal

pub returns-in_err-certificate : goal.returns-in_err-certificate
returns-in_err-certificate c =
    let q = err_from_is_err_and c.from_residual.result c.from_residual.ensures.1 in
    rw (q.1, q.2) (read_from_start c.args.octets.now c.new-input.result _ c.new-input.ensures (whole (stop c.in_err-certificate.ensures)))

pub returns-in_err-of : goal.returns-in_err-of
returns-in_err-of c =
    let q = err_from_is_err_and c.from_residual-in_err-of.result c.from_residual-in_err-of.ensures.1 in
    rw (q.1, q.2) (read_from_start c.args.octets.now c.new-input.result _ c.new-input.ensures (whole (step c.in_ok-certificate.ensures (stop (named_read field.Certificate _ c.in_err-of.ensures (end_read c.end.ensures))))))

pub returns : goal.returns
returns c = read_from_start c.args.octets.now c.new-input.result _ c.new-input.ensures (whole (step c.in_ok-certificate.ensures (step (named_read field.Certificate _ c.in_ok-of.ensures (end_read c.end.ensures)) (finished refl))))
