-- The extensions that are known, and the content octets of their identifiers (RFC 5280 A.2, and those of the web).
use Rattle.std.specs.Prelude.{◌≡◌, ◌≢◌, ℕ, List, [], ◌∷◌, Option, MatchOption}
use Rattle.der_extensions.specs.declared.known.KnownExtension.{KnownExtension}
use Rattle.der_extensions.specs.declared.known.KnownExtension.TheVariants as known

-- id-ce OBJECT IDENTIFIER ::= { joint-iso-ccitt(2) ds(5) 29 }
abbrev pub id_ce : ℕ → List ℕ
id_ce n = 85 ∷ 29 ∷ n ∷ []

-- id-pe OBJECT IDENTIFIER ::= { id-pkix 1 }, where id-pkix is 1.3.6.1.5.5.7
abbrev pub id_pe : ℕ → List ℕ
id_pe n = 43 ∷ 6 ∷ 1 ∷ 5 ∷ 5 ∷ 7 ∷ 1 ∷ n ∷ []

-- id-pkix-ocsp-nocheck OBJECT IDENTIFIER ::= { id-pkix-ocsp 5 }, where id-pkix-ocsp is 1.3.6.1.5.5.7.48.1 (RFC 6960)
abbrev pub ocsp_nocheck : List ℕ
ocsp_nocheck = 43 ∷ 6 ∷ 1 ∷ 5 ∷ 5 ∷ 7 ∷ 48 ∷ 1 ∷ 5 ∷ []

-- 1.3.6.1.4.1.11129.2.4.n (RFC 6962 3.1, 3.3)
abbrev pub transparency : ℕ → List ℕ
transparency n = 43 ∷ 6 ∷ 1 ∷ 4 ∷ 1 ∷ 214 ∷ 121 ∷ 2 ∷ 4 ∷ n ∷ []

-- 2.23.140.3.1 (CA/B Forum, EV Guidelines 9.8.2)
abbrev pub cabf_organization_identifier : List ℕ
cabf_organization_identifier = 103 ∷ 129 ∷ 12 ∷ 3 ∷ 1 ∷ []

abbrev pub octets_of : KnownExtension → List ℕ
octets_of known.AuthorityKeyIdentifier = id_ce 35
octets_of known.SubjectKeyIdentifier = id_ce 14
octets_of known.KeyUsage = id_ce 15
octets_of known.CertificatePolicies = id_ce 32
octets_of known.PolicyMappings = id_ce 33
octets_of known.SubjectAltName = id_ce 17
octets_of known.IssuerAltName = id_ce 18
octets_of known.SubjectDirectoryAttributes = id_ce 9
octets_of known.BasicConstraints = id_ce 19
octets_of known.NameConstraints = id_ce 30
octets_of known.PolicyConstraints = id_ce 36
octets_of known.ExtendedKeyUsage = id_ce 37
octets_of known.CrlDistributionPoints = id_ce 31
octets_of known.InhibitAnyPolicy = id_ce 54
octets_of known.FreshestCrl = id_ce 46
octets_of known.AuthorityInfoAccess = id_pe 1
octets_of known.SubjectInfoAccess = id_pe 11
octets_of known.CrlNumber = id_ce 20
octets_of known.DeltaCrlIndicator = id_ce 27
octets_of known.IssuingDistributionPoint = id_ce 28
octets_of known.ReasonCode = id_ce 21
octets_of known.InvalidityDate = id_ce 24
octets_of known.CertificateIssuer = id_ce 29
octets_of known.QcStatements = id_pe 3
octets_of known.OcspNoCheck = ocsp_nocheck
octets_of known.PrecertificatePoison = transparency 3
octets_of known.SignedCertificateTimestamps = transparency 2
octets_of known.TlsFeature = id_pe 24
octets_of known.NoRevAvail = id_ce 56
octets_of known.OrganizationIdentifier = cabf_organization_identifier

-- their places in that order
abbrev pub known_number : KnownExtension → ℕ
known_number known.AuthorityKeyIdentifier = 0
known_number known.SubjectKeyIdentifier = 1
known_number known.KeyUsage = 2
known_number known.CertificatePolicies = 3
known_number known.PolicyMappings = 4
known_number known.SubjectAltName = 5
known_number known.IssuerAltName = 6
known_number known.SubjectDirectoryAttributes = 7
known_number known.BasicConstraints = 8
known_number known.NameConstraints = 9
known_number known.PolicyConstraints = 10
known_number known.ExtendedKeyUsage = 11
known_number known.CrlDistributionPoints = 12
known_number known.InhibitAnyPolicy = 13
known_number known.FreshestCrl = 14
known_number known.AuthorityInfoAccess = 15
known_number known.SubjectInfoAccess = 16
known_number known.CrlNumber = 17
known_number known.DeltaCrlIndicator = 18
known_number known.IssuingDistributionPoint = 19
known_number known.ReasonCode = 20
known_number known.InvalidityDate = 21
known_number known.CertificateIssuer = 22
known_number known.QcStatements = 23
known_number known.OcspNoCheck = 24
known_number known.PrecertificatePoison = 25
known_number known.SignedCertificateTimestamps = 26
known_number known.TlsFeature = 27
known_number known.NoRevAvail = 28
known_number known.OrganizationIdentifier = 29

abbrev pub known_count : ℕ
known_count = 30

-- the extension whose identifier has these octets; None if none has
abbrev pub IdentifiesExtension : List ℕ → Option KnownExtension → Type 0
IdentifiesExtension w r = MatchOption r ((k : KnownExtension) → w ≢ octets_of k) (λ k. w ≡ octets_of k)
