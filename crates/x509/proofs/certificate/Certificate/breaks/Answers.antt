use Rattle.x509.proofs.certificate.Certificate.breaks.Goals as goal

pub returns-in-DerValues : goal.returns-in-DerValues
returns-in-DerValues c = rw c.in-DerValues.is c.breaks_der_values.ensures
