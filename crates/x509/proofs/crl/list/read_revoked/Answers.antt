use Rattle.std.proofs.Common.{refl, rules}
use Rattle.std.proofs.lemmas.Result.{err_from_is_err_and}
use Rattle.x509.proofs.ReaderLaws.{finished, first, step, stop}
use Rattle.x509.proofs.crl.list.read_revoked.Goals as goal

pub returns-in_err-read_revoked_certificates : goal.returns-in_err-read_revoked_certificates
returns-in_err-read_revoked_certificates c =
    let q = err_from_is_err_and c.from_residual.result c.from_residual.ensures.1 in
    rw (q.1, q.2) (first (search rules) (stop c.in_err-read_revoked_certificates.ensures))

pub returns : goal.returns
returns c = first (search rules) (step c.in_ok-read_revoked_certificates.ensures (finished refl))
