use Rattle.der_show.specs.declared.known.Known.TheVariants.{Certificate, CertificateList, CertificationRequest}
use Rattle.der_show.proofs.UnreadLaws.{furthest_of}
use Rattle.der_show.proofs.unread.why_refused.Goals as goal

pub returns-in_err-certificate : goal.returns-in_err-certificate
returns-in_err-certificate c = let e = c.in_err-certificate.ensures in rw c.from_residual.ensures (Certificate e.0, e.1)

pub returns-in_err-list : goal.returns-in_err-list
returns-in_err-list c = let e = c.in_err-list.ensures in rw c.from_residual-in_err-list.ensures (CertificateList e.0, e.1)

pub returns-in_err-request : goal.returns-in_err-request
returns-in_err-request c = let e = c.in_err-request.ensures in rw c.from_residual-in_err-request.ensures (CertificationRequest e.0, e.1)

pub returns : goal.returns
returns c =
    furthest_of _ _ _ _ _ _ (c.in_ok-certificate.ensures) (c.in_ok-list.ensures) (c.in_ok-request.ensures) c.or_further.ensures c.or_further-2.ensures
