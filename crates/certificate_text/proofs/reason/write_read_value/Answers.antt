use Rattle.certificate_text.proofs.reason.write_read_value.Goals as goal

pub returns-in-ReasonCode : goal.returns-in-ReasonCode
returns-in-ReasonCode g c = rw c.in-ReasonCode.is c.write_reason.ensures

pub returns-in-CertificateIssuer : goal.returns-in-CertificateIssuer
returns-in-CertificateIssuer g c = rw c.in-CertificateIssuer.is c.write_general_names.ensures
