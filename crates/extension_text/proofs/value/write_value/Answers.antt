use Rattle.extension_text.proofs.NamesLaws.WriteLaws.{restated}
use Rattle.extension_text.proofs.ItemLaws.{of_values}
use Rattle.extension_text.proofs.value.write_value.Goals as goal

pub returns-in-AuthorityKeyIdentifier : goal.returns-in-AuthorityKeyIdentifier
returns-in-AuthorityKeyIdentifier g c = rw c.in-AuthorityKeyIdentifier.is c.write_authority.ensures

pub returns-in-CertificatePolicies : goal.returns-in-CertificatePolicies
returns-in-CertificatePolicies g c = rw c.in-CertificatePolicies.is (restated (λ t x. of_values x) c.write_items.ensures)

pub returns-in-SubjectAltName : goal.returns-in-SubjectAltName
returns-in-SubjectAltName g c = rw c.in-SubjectAltName.is c.write_general_names.ensures

pub returns-in-IssuerAltName : goal.returns-in-IssuerAltName
returns-in-IssuerAltName g c = rw c.in-IssuerAltName.is c.write_general_names-in-IssuerAltName.ensures

pub returns-in-NameConstraints : goal.returns-in-NameConstraints
returns-in-NameConstraints g c = rw c.in-NameConstraints.is c.write_name_constraints.ensures

pub returns-in-ExtendedKeyUsage : goal.returns-in-ExtendedKeyUsage
returns-in-ExtendedKeyUsage g c = rw c.in-ExtendedKeyUsage.is (restated (λ t x. of_values x) c.write_items-in-ExtendedKeyUsage.ensures)

pub returns-in-CrlDistributionPoints : goal.returns-in-CrlDistributionPoints
returns-in-CrlDistributionPoints g c = rw c.in-CrlDistributionPoints.is (restated (λ t x. of_values x) c.write_items-in-CrlDistributionPoints.ensures)

pub returns-in-FreshestCrl : goal.returns-in-FreshestCrl
returns-in-FreshestCrl g c = rw c.in-FreshestCrl.is (restated (λ t x. of_values x) c.write_items-in-FreshestCrl.ensures)

pub returns-in-AuthorityInfoAccess : goal.returns-in-AuthorityInfoAccess
returns-in-AuthorityInfoAccess g c = rw c.in-AuthorityInfoAccess.is (restated (λ t x. of_values x) c.write_items-in-AuthorityInfoAccess.ensures)

pub returns-in-SubjectInfoAccess : goal.returns-in-SubjectInfoAccess
returns-in-SubjectInfoAccess g c = rw c.in-SubjectInfoAccess.is (restated (λ t x. of_values x) c.write_items-in-SubjectInfoAccess.ensures)

pub returns-in-PolicyMappings : goal.returns-in-PolicyMappings
returns-in-PolicyMappings g c = rw c.in-PolicyMappings.is (restated (λ t x. of_values x) c.write_items-in-PolicyMappings.ensures)

pub returns-in-SubjectDirectoryAttributes : goal.returns-in-SubjectDirectoryAttributes
returns-in-SubjectDirectoryAttributes g c = rw c.in-SubjectDirectoryAttributes.is (restated (λ t x. of_values x) c.write_items-in-SubjectDirectoryAttributes.ensures)

pub returns-in-IssuingDistributionPoint : goal.returns-in-IssuingDistributionPoint
returns-in-IssuingDistributionPoint g c = rw c.in-IssuingDistributionPoint.is c.write_issuing_point.ensures

pub returns-in-CertificateIssuer : goal.returns-in-CertificateIssuer
returns-in-CertificateIssuer g c = rw c.in-CertificateIssuer.is c.write_general_names-in-CertificateIssuer.ensures

pub returns-in-TlsFeatures : goal.returns-in-TlsFeatures
returns-in-TlsFeatures g c = rw c.in-TlsFeatures.is (restated (λ t x. of_values x) c.write_items-in-TlsFeatures.ensures)

pub returns-in-QcStatements : goal.returns-in-QcStatements
returns-in-QcStatements g c = rw c.in-QcStatements.is (restated (λ t x. of_values x) c.write_items-in-QcStatements.ensures)

pub returns-in-SignedCertificateTimestamps : goal.returns-in-SignedCertificateTimestamps
returns-in-SignedCertificateTimestamps g c = rw c.in-SignedCertificateTimestamps.is c.write_timestamps.ensures
