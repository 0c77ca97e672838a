-- Certificates, CRLs and certification requests (RFC 5280, RFC 2986).
use Rattle.std.specs.Prelude.{◌≡◌, ◌⊎◌, ℕ, Option, Some, None, List, []}
use Rattle.std.specs.List.{All}
use Rattle.x509.specs.declared.crl.list.CertificateList.{CertificateList as ListStruct}
use Rattle.x509.specs.Crl.Lists.{Signed as SignedList, certificate_list_of, whole_list}
use Rattle.x509_keys.specs.declared.request.CertificationRequest.{CertificationRequest as RequestStruct}
use Rattle.x509_keys.specs.Request.Requests.{request_of, whole_request}
use Rattle.x509.specs.declared.certificate.Certificate.{Certificate as CertificateStruct}
use Rattle.x509.specs.Certificates.{Signed as SignedCertificate, certificate_of, whole_certificate}
use Rattle.x509.specs.Formats.{Format, spells}
use Rattle.x509_rules.specs.declared.certificate.TheConstants.{MUST_RULES}
use Rattle.x509_rules.specs.declared.crl.revoked.TheConstants.{MUST_LIST_RULES}
use Rattle.x509_rules.specs.Crl.ListRules.{BreaksList}
use Rattle.x509_rules.specs.Rules.{Breaks}
use Rattle.der_show.specs.declared.known.Known.{Known}
use Rattle.der_show.specs.declared.known.Known.TheVariants.{Certificate, CertificateList, CertificationRequest}

-- all the octets are this
abbrev pub Is : List ℕ → Known → Type 0
Is i (Certificate c) = spells whole_certificate i (certificate_of c) []
Is i (CertificateList l) = spells whole_list i (certificate_list_of l) []
Is i (CertificationRequest r) = spells whole_request i (request_of r) []

-- the octets aren't a value of the format
abbrev pub IsNo : {E V : Type 0} → Format E V → List ℕ → Type 0
IsNo {E} {V} f i = (v : V) → ¬ spells f i v []

-- the certification request that the octets are, if they are one
abbrev pub IsKnownRequest : List ℕ → Option Known → Type 0
IsKnownRequest i known = ((r : RequestStruct) × Is i (CertificationRequest r) × (known ≡ Some (CertificationRequest r)))
    ⊎ (IsNo whole_request i × (known ≡ None))

-- the CRL that the octets are, or else the certification request
abbrev pub IsKnownList : List ℕ → Option Known → Type 0
IsKnownList i known = ((l : ListStruct) × Is i (CertificateList l) × (known ≡ Some (CertificateList l)))
    ⊎ (IsNo whole_list i × IsKnownRequest i known)

-- the certificate that the octets are, or else the CRL or the certification request
abbrev pub IsKnown : List ℕ → Option Known → Type 0
IsKnown i known = ((c : CertificateStruct) × Is i (Certificate c) × (known ≡ Some (Certificate c)))
    ⊎ (IsNo whole_certificate i × IsKnownList i known)

-- a certificate keeps every MUST rule of RFC 5280 beyond its ASN.1
abbrev pub NoRuleBroken : SignedCertificate → Type 0
NoRuleBroken c = All (λ r. ¬ Breaks r c) MUST_RULES.now

-- a CRL keeps every MUST rule of RFC 5280 beyond its ASN.1
abbrev pub NoListRuleBroken : SignedList → Type 0
NoListRuleBroken l = All (λ r. ¬ BreaksList r l) MUST_LIST_RULES.now

-- a certificate or CRL keeps these rules; there are none for a certification request
abbrev pub KeepsRules : Known → Type 0
KeepsRules (Certificate c) = NoRuleBroken (certificate_of c)
KeepsRules (CertificateList l) = NoListRuleBroken (certificate_list_of l)
KeepsRules (CertificationRequest r) = Unit {0}
