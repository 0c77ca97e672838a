-- Which extension identifiers and numbers are of.
use Rattle.std.proofs.Common.{◌≡◌, ℕ, ◌+◌, ◌<◌, ◌==◌, if◌then◌else◌, List, [], ◌∷◌, refl, sym, ap, ◌∙◌, arith}
use Rattle.der_extensions.specs.declared.known.KnownExtension.{KnownExtension}
use Rattle.der_extensions.specs.declared.known.KnownExtension.TheVariants as known
use Rattle.der_extensions.specs.Known.{known_number, octets_of}

-- the last octet, and how many there are before it
code : List ℕ → ℕ
code [] = 0
code (x ∷ []) = x
code (x ∷ y ∷ ys) = 256 + code (y ∷ ys)

coded : ℕ → KnownExtension
coded n = if n == 547 then known.AuthorityKeyIdentifier
    else if n == 526 then known.SubjectKeyIdentifier
    else if n == 527 then known.KeyUsage
    else if n == 544 then known.CertificatePolicies
    else if n == 545 then known.PolicyMappings
    else if n == 529 then known.SubjectAltName
    else if n == 530 then known.IssuerAltName
    else if n == 521 then known.SubjectDirectoryAttributes
    else if n == 531 then known.BasicConstraints
    else if n == 542 then known.NameConstraints
    else if n == 548 then known.PolicyConstraints
    else if n == 549 then known.ExtendedKeyUsage
    else if n == 543 then known.CrlDistributionPoints
    else if n == 566 then known.InhibitAnyPolicy
    else if n == 558 then known.FreshestCrl
    else if n == 1793 then known.AuthorityInfoAccess
    else if n == 1803 then known.SubjectInfoAccess
    else if n == 532 then known.CrlNumber
    else if n == 539 then known.DeltaCrlIndicator
    else if n == 540 then known.IssuingDistributionPoint
    else if n == 533 then known.ReasonCode
    else if n == 536 then known.InvalidityDate
    else if n == 541 then known.CertificateIssuer
    else if n == 1795 then known.QcStatements
    else if n == 2053 then known.OcspNoCheck
    else if n == 2307 then known.PrecertificatePoison
    else if n == 2306 then known.SignedCertificateTimestamps
    else if n == 568 then known.NoRevAvail
    else if n == 1025 then known.OrganizationIdentifier
    else known.TlsFeature

coded_back : (k : KnownExtension) → coded (code (octets_of k)) ≡ k
unfolding coded code
coded_back known.AuthorityKeyIdentifier = refl
coded_back known.SubjectKeyIdentifier = refl
coded_back known.KeyUsage = refl
coded_back known.CertificatePolicies = refl
coded_back known.PolicyMappings = refl
coded_back known.SubjectAltName = refl
coded_back known.IssuerAltName = refl
coded_back known.SubjectDirectoryAttributes = refl
coded_back known.BasicConstraints = refl
coded_back known.NameConstraints = refl
coded_back known.PolicyConstraints = refl
coded_back known.ExtendedKeyUsage = refl
coded_back known.CrlDistributionPoints = refl
coded_back known.InhibitAnyPolicy = refl
coded_back known.FreshestCrl = refl
coded_back known.AuthorityInfoAccess = refl
coded_back known.SubjectInfoAccess = refl
coded_back known.CrlNumber = refl
coded_back known.DeltaCrlIndicator = refl
coded_back known.IssuingDistributionPoint = refl
coded_back known.ReasonCode = refl
coded_back known.InvalidityDate = refl
coded_back known.CertificateIssuer = refl
coded_back known.QcStatements = refl
coded_back known.OcspNoCheck = refl
coded_back known.PrecertificatePoison = refl
coded_back known.SignedCertificateTimestamps = refl
coded_back known.TlsFeature = refl
coded_back known.NoRevAvail = refl
coded_back known.OrganizationIdentifier = refl

-- two extensions have two identifiers
pub one_extension : (j k : KnownExtension) → octets_of j ≡ octets_of k → j ≡ k
one_extension j k e = sym (coded_back j) ∙ ap (λ w. coded (code w)) e ∙ coded_back k

numbered : ℕ → KnownExtension
numbered n = if n == 0 then known.AuthorityKeyIdentifier
    else if n == 1 then known.SubjectKeyIdentifier
    else if n == 2 then known.KeyUsage
    else if n == 3 then known.CertificatePolicies
    else if n == 4 then known.PolicyMappings
    else if n == 5 then known.SubjectAltName
    else if n == 6 then known.IssuerAltName
    else if n == 7 then known.SubjectDirectoryAttributes
    else if n == 8 then known.BasicConstraints
    else if n == 9 then known.NameConstraints
    else if n == 10 then known.PolicyConstraints
    else if n == 11 then known.ExtendedKeyUsage
    else if n == 12 then known.CrlDistributionPoints
    else if n == 13 then known.InhibitAnyPolicy
    else if n == 14 then known.FreshestCrl
    else if n == 15 then known.AuthorityInfoAccess
    else if n == 16 then known.SubjectInfoAccess
    else if n == 17 then known.CrlNumber
    else if n == 18 then known.DeltaCrlIndicator
    else if n == 19 then known.IssuingDistributionPoint
    else if n == 20 then known.ReasonCode
    else if n == 21 then known.InvalidityDate
    else if n == 22 then known.CertificateIssuer
    else if n == 23 then known.QcStatements
    else if n == 24 then known.OcspNoCheck
    else if n == 25 then known.PrecertificatePoison
    else if n == 26 then known.SignedCertificateTimestamps
    else if n == 28 then known.NoRevAvail
    else if n == 29 then known.OrganizationIdentifier
    else known.TlsFeature

numbered_back : (k : KnownExtension) → numbered (known_number k) ≡ k
unfolding numbered
numbered_back known.AuthorityKeyIdentifier = refl
numbered_back known.SubjectKeyIdentifier = refl
numbered_back known.KeyUsage = refl
numbered_back known.CertificatePolicies = refl
numbered_back known.PolicyMappings = refl
numbered_back known.SubjectAltName = refl
numbered_back known.IssuerAltName = refl
numbered_back known.SubjectDirectoryAttributes = refl
numbered_back known.BasicConstraints = refl
numbered_back known.NameConstraints = refl
numbered_back known.PolicyConstraints = refl
numbered_back known.ExtendedKeyUsage = refl
numbered_back known.CrlDistributionPoints = refl
numbered_back known.InhibitAnyPolicy = refl
numbered_back known.FreshestCrl = refl
numbered_back known.AuthorityInfoAccess = refl
numbered_back known.SubjectInfoAccess = refl
numbered_back known.CrlNumber = refl
numbered_back known.DeltaCrlIndicator = refl
numbered_back known.IssuingDistributionPoint = refl
numbered_back known.ReasonCode = refl
numbered_back known.InvalidityDate = refl
numbered_back known.CertificateIssuer = refl
numbered_back known.QcStatements = refl
numbered_back known.OcspNoCheck = refl
numbered_back known.PrecertificatePoison = refl
numbered_back known.SignedCertificateTimestamps = refl
numbered_back known.TlsFeature = refl
numbered_back known.NoRevAvail = refl
numbered_back known.OrganizationIdentifier = refl

-- and two numbers
pub one_number : (j k : KnownExtension) → known_number j ≡ known_number k → j ≡ k
one_number j k e = sym (numbered_back j) ∙ ap numbered e ∙ numbered_back k

pub few_extensions : (k : KnownExtension) → known_number k < 30
few_extensions known.AuthorityKeyIdentifier = omega arith
few_extensions known.SubjectKeyIdentifier = omega arith
few_extensions known.KeyUsage = omega arith
few_extensions known.CertificatePolicies = omega arith
few_extensions known.PolicyMappings = omega arith
few_extensions known.SubjectAltName = omega arith
few_extensions known.IssuerAltName = omega arith
few_extensions known.SubjectDirectoryAttributes = omega arith
few_extensions known.BasicConstraints = omega arith
few_extensions known.NameConstraints = omega arith
few_extensions known.PolicyConstraints = omega arith
few_extensions known.ExtendedKeyUsage = omega arith
few_extensions known.CrlDistributionPoints = omega arith
few_extensions known.InhibitAnyPolicy = omega arith
few_extensions known.FreshestCrl = omega arith
few_extensions known.AuthorityInfoAccess = omega arith
few_extensions known.SubjectInfoAccess = omega arith
few_extensions known.CrlNumber = omega arith
few_extensions known.DeltaCrlIndicator = omega arith
few_extensions known.IssuingDistributionPoint = omega arith
few_extensions known.ReasonCode = omega arith
few_extensions known.InvalidityDate = omega arith
few_extensions known.CertificateIssuer = omega arith
few_extensions known.QcStatements = omega arith
few_extensions known.OcspNoCheck = omega arith
few_extensions known.PrecertificatePoison = omega arith
few_extensions known.SignedCertificateTimestamps = omega arith
few_extensions known.TlsFeature = omega arith
few_extensions known.NoRevAvail = omega arith
few_extensions known.OrganizationIdentifier = omega arith
