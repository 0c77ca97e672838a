-- The rules of a certificate as a whole.
use Rattle.std.specs.Prelude.{◌≡◌, ◌≢◌, ℕ, ◌⊎◌, None, List, []}
use Rattle.x509.specs.Certificates.{ExtensionValue, Signed, extension}
use Rattle.x509.specs.Lists.{Somewhere}
use Rattle.x509.specs.Rules.{IsSelfIssued}
use Rattle.x509_rule_facts.specs.declared.attributes.AttributeKind.TheVariants as kind
use Rattle.x509_value_rules.specs.declared.facts.Fact.TheVariants.{Present, Critical, NotCritical}
use Rattle.der_extensions.specs.declared.known.KnownExtension.{KnownExtension}
use Rattle.der_extensions.specs.declared.known.KnownExtension.TheVariants as known
use Rattle.x509_rule_facts.specs.declared.value_facts.ValueFact.TheVariants.{AnyPurpose, CrlSign, KeyCertSign}
use Rattle.x509_rule_facts.specs.declared.value_facts.ValueFact.TheVariants.{KeyIdentifier, Mailbox, OcspResponder}
use Rattle.x509_rule_facts.specs.declared.value_facts.ValueFact.TheVariants.{PathLength}
use Rattle.x509_rules.specs.declared.whole.WholeRule.{WholeRule}
use Rattle.x509_rules.specs.declared.whole.WholeRule.TheVariants as rule
use Rattle.x509_rule_facts.specs.Attributes.{HasKind}
use Rattle.x509_value_rules.specs.Facts.{Has, IsAuthority, MaySignCertificates, Tells}
use Rattle.der_extensions.specs.Known.{octets_of}
use Rattle.x509_rules.specs.Issuers.{PointsTo}

-- the subject has no name
abbrev pub HasNoName : Signed → Type 0
HasNoName c = c.tbs_certificate.subject ≡ []

-- the certificate says where lists of revoked certificates are
abbrev pub HasPoints : Signed → Type 0
HasPoints c = Has known.CrlDistributionPoints Present c ⊎ Has known.FreshestCrl Present c

-- the subject has an emailAddress
abbrev pub HasEmailAddress : Signed → Type 0
HasEmailAddress c = HasKind kind.EmailAddress c.tbs_certificate.subject

-- one of the extensions is this one, and a point of it has the issuer of the certificate in its cRLIssuer
abbrev pub PointsToIssuer : KnownExtension → List ℕ → ExtensionValue → Type 0
PointsToIssuer k issuer e = (e.identifier ≡ octets_of k) × PointsTo issuer e.value

abbrev pub HasPointOfIssuer : KnownExtension → Signed → Type 0
HasPointOfIssuer k c =
    let t = c.tbs_certificate in Somewhere extension (λ e _. PointsToIssuer k t.issuer e) t.extensions

-- the certificate breaks the rule
abbrev pub BreaksWhole : WholeRule → Signed → Type 0
BreaksWhole rule.NoUniqueIdentifier c = let t = c.tbs_certificate in (t.issuer_id ≢ None) ⊎ (t.subject_id ≢ None)
BreaksWhole rule.NamedAuthority c = HasNoName c × IsAuthority c
BreaksWhole rule.NamedCrlIssuer c = HasNoName c × Tells CrlSign c
BreaksWhole rule.MailboxInAltName c = HasEmailAddress c × (¬ Tells Mailbox c)
BreaksWhole rule.KeyIdentifierOfIssuer c = (¬ IsSelfIssued c) × (¬ Tells KeyIdentifier c)
BreaksWhole rule.KeyIdentifierOfAuthority c = IsAuthority c × (¬ Has known.SubjectKeyIdentifier Present c)
BreaksWhole rule.KeyIdentifierOfEndEntity c = (¬ Has known.SubjectKeyIdentifier Present c) × (¬ IsAuthority c)
BreaksWhole rule.KeyUsageOfAuthority c = IsAuthority c × (¬ Has known.KeyUsage Present c)
BreaksWhole rule.CertSignOfAuthority c = Tells KeyCertSign c × (¬ IsAuthority c)
BreaksWhole rule.AltNameNotCritical c = (¬ HasNoName c) × Has known.SubjectAltName Critical c
BreaksWhole rule.CriticalConstraints c = MaySignCertificates c × Has known.BasicConstraints NotCritical c
BreaksWhole rule.PathLengthOfAuthority c = Tells PathLength c × (¬ IsAuthority c)
BreaksWhole rule.PathLengthOfCertSign c = Tells PathLength c × (¬ Tells KeyCertSign c)
BreaksWhole rule.NameConstraintsOfAuthority c = Has known.NameConstraints Present c × (¬ IsAuthority c)
BreaksWhole rule.AnyPurposeNotCritical c = Has known.ExtendedKeyUsage Critical c × Tells AnyPurpose c
BreaksWhole rule.OtherCrlIssuer c =
    HasPointOfIssuer known.CrlDistributionPoints c ⊎ HasPointOfIssuer known.FreshestCrl c
BreaksWhole rule.NoRevAvailOfEndEntity c = IsAuthority c × Has known.NoRevAvail Present c
BreaksWhole rule.NoRevAvailWithoutPoints c = Has known.NoRevAvail Present c × HasPoints c
BreaksWhole rule.NoRevAvailWithoutOcsp c = Has known.NoRevAvail Present c × Tells OcspResponder c
