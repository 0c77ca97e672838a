use Rattle.std.proofs.Common.{refl}
use Rattle.extension_text.proofs.NamesLaws.WriteLaws.{next}
use Rattle.der_show.proofs.shown.write_known.Goals as goal

pub returns-in_ok-write_certificate-in-Certificate-clause-text : goal.returns-in_ok-write_certificate-in-Certificate-clause-text
returns-in_ok-write_certificate-in-Certificate-clause-text g c = rw c.in-Certificate.is (next c.in_ok-write_certificate-in-Certificate.ensures refl c.write_rules.ensures.text)

pub returns-in_ok-write_certificate-in-Certificate-clause-rules : goal.returns-in_ok-write_certificate-in-Certificate-clause-rules
returns-in_ok-write_certificate-in-Certificate-clause-rules g c = rw c.in-Certificate.is c.write_rules.ensures.rules

pub returns-in_ok-write_list-in-CertificateList-clause-text : goal.returns-in_ok-write_list-in-CertificateList-clause-text
returns-in_ok-write_list-in-CertificateList-clause-text g c = rw c.in-CertificateList.is (next c.in_ok-write_list-in-CertificateList.ensures refl c.write_list_rules.ensures.text)

pub returns-in_ok-write_list-in-CertificateList-clause-rules : goal.returns-in_ok-write_list-in-CertificateList-clause-rules
returns-in_ok-write_list-in-CertificateList-clause-rules g c = rw c.in-CertificateList.is c.write_list_rules.ensures.rules

pub returns-in_ok-write_request-in-CertificationRequest-clause-text : goal.returns-in_ok-write_request-in-CertificationRequest-clause-text
returns-in_ok-write_request-in-CertificationRequest-clause-text g c = rw c.in-CertificationRequest.is c.in_ok-write_request-in-CertificationRequest.ensures

pub returns-in_ok-write_request-in-CertificationRequest-clause-rules : goal.returns-in_ok-write_request-in-CertificationRequest-clause-rules
returns-in_ok-write_request-in-CertificationRequest-clause-rules g c = rw c.in-CertificationRequest.is ((λ t. tt), (λ u. refl))
