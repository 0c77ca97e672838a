use Rattle.std.proofs.Common.{rules}
use Rattle.std.proofs.lemmas.Result.{err_from_is_err_and}
use Rattle.x509.proofs.ReaderLaws.{reaches_end, reaches_more, reaches_refused, reaches_start}
use Rattle.x509.proofs.crl.entry.check_entries.Goals as goal

pub loop-list-init : goal.loop-list-init
loop-list-init c = reaches_start

pub returns-in_err-read_revoked_certificate : goal.returns-in_err-read_revoked_certificate
returns-in_err-read_revoked_certificate c =
    let q = err_from_is_err_and c.from_residual.result c.from_residual.ensures.1 in
    rw (q.1, q.2) (reaches_refused c.loop-list.invariant (search rules) c.in_err-read_revoked_certificate.ensures.reads)

pub loop-list-preserved : goal.loop-list-preserved
loop-list-preserved c = reaches_more c.loop-list.invariant (search rules) c.in_ok-read_revoked_certificate.ensures.reads

pub returns : goal.returns
returns c = reaches_end c.loop-list.invariant (search rules)
