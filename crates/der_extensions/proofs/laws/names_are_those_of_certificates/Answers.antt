use Rattle.der_extensions.proofs.CertificateNames.{name_back, name_to}
use Rattle.der_extensions.proofs.laws.names_are_those_of_certificates.Goals as goal

pub returns : goal.returns
returns c = λ i v rest. (name_to i v rest, name_back i v rest)
