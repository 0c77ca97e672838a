-- The types that the values of extensions are of, by DER.
use Rattle.std.specs.Prelude.{ℕ, List}
use Rattle.der_base.specs.declared.rules.Rules.TheVariants.{Der}
use Rattle.x509.specs.Crl.Reasons.{CRLReason}
use Rattle.der_cursor.specs.Formats.{Format, GeneralizedTime, Integer, Null, OctetString, Only, Required}
use Rattle.der_extensions.specs.Extensions.{AuthorityInfoAccessSyntax, AuthorityKeyIdentifier, BasicConstraints}
use Rattle.der_extensions.specs.Extensions.{CRLDistributionPoints, CertificatePolicies, ExtKeyUsageSyntax, KeyUsage}
use Rattle.der_extensions.specs.Extensions.{NameConstraints}
use Rattle.der_extensions.specs.GeneralNames.{GeneralNames}
use Rattle.der_extensions.specs.PolicyExtensions.{PolicyConstraints, PolicyMappings, SubjectDirectoryAttributes}
use Rattle.der_extensions.specs.Revocation.{IssuingDistributionPoint}
use Rattle.der_extensions.specs.WebExtensions.{Features, QCStatements, Timestamps}
use Rattle.x509_rule_facts.specs.declared.types.ValueType.{ValueType}
use Rattle.x509_rule_facts.specs.declared.types.ValueType.TheVariants as kind

-- the octets are a value of the type, and nothing follows it
abbrev pub IsValueOf : {V : Type 0} → Format V → List ℕ → Type 0
IsValueOf {V} F w = (v : V) × Only (Required F) Der w v

abbrev pub IsOfType : ValueType → List ℕ → Type 0
IsOfType kind.KeyIdentifiers w = IsValueOf AuthorityKeyIdentifier w
IsOfType kind.Octets w = IsValueOf OctetString w
IsOfType kind.KeyUsage w = IsValueOf KeyUsage w
IsOfType kind.Policies w = IsValueOf CertificatePolicies w
IsOfType kind.Names w = IsValueOf GeneralNames w
IsOfType kind.Constraints w = IsValueOf BasicConstraints w
IsOfType kind.NameConstraints w = IsValueOf NameConstraints w
IsOfType kind.Purposes w = IsValueOf ExtKeyUsageSyntax w
IsOfType kind.Points w = IsValueOf CRLDistributionPoints w
IsOfType kind.Descriptions w = IsValueOf AuthorityInfoAccessSyntax w
IsOfType kind.Number w = IsValueOf Integer w
IsOfType kind.Reason w = IsValueOf CRLReason w
IsOfType kind.Date w = IsValueOf GeneralizedTime w
IsOfType kind.Mappings w = IsValueOf PolicyMappings w
IsOfType kind.DirectoryAttributes w = IsValueOf SubjectDirectoryAttributes w
IsOfType kind.PolicyConstraints w = IsValueOf PolicyConstraints w
IsOfType kind.IssuingPoint w = IsValueOf IssuingDistributionPoint w
IsOfType kind.Statements w = IsValueOf QCStatements w
IsOfType kind.Timestamps w = IsValueOf Timestamps w
IsOfType kind.Features w = IsValueOf Features w
IsOfType kind.Null w = IsValueOf Null w
