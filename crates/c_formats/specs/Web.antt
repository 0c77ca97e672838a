-- Values of extensions of the web, as C sees them.
use Rattle.std.specs.Prelude.{◌≡◌, ℕ, List, [], is_some}
use Rattle.std.specs.Option.{unwrap_or}
use Rattle.der_extensions.specs.declared.list.SequenceOf.{SequenceOf}
use Rattle.der_extensions.specs.declared.organization_identifier.OrganizationIdentifier.{OrganizationIdentifier}
use Rattle.der_extensions.specs.declared.qc_statements.QcStatement.{QcStatement}
use Rattle.der_extensions.specs.declared.timestamps.SignedCertificateTimestamps.{SignedCertificateTimestamps}
use Rattle.der_extensions.specs.declared.tls_feature.TlsFeature.{TlsFeature}
use Rattle.der_extensions.specs.Lists.{list_octets}
use Rattle.der_extensions.specs.WebExtensions.{OrganizationValue, StatementValue, organization_identifier_of}
use Rattle.der_extensions.specs.WebExtensions.{statement_of, timestamps_octets}
use Rattle.c_values.specs.declared.octets.DmOctets.{DmOctets}
use Rattle.c_values.specs.AnyElements.{HasAnyOrNone}
use Rattle.c_values.specs.Elements.{bit}
use Rattle.c_formats.specs.declared.web.DmOrganizationIdentifier.{DmOrganizationIdentifier}
use Rattle.c_formats.specs.declared.web.DmQcStatement.{DmQcStatement}

-- the timestamps of a list, each behind its number of octets (RFC 6962 3.3)
abbrev pub IsTimestamps : SignedCertificateTimestamps → DmOctets → Type 0
IsTimestamps x d = d.octets.now ≡ timestamps_octets x

-- the encodings of features, one after another, and of statements
abbrev pub features_octets : SequenceOf TlsFeature → List ℕ
features_octets x = list_octets x

abbrev pub IsFeature : TlsFeature → ℕ → Type 0
IsFeature x n = n ≡ x.number

abbrev pub statements_octets : SequenceOf QcStatement → List ℕ
statements_octets x = list_octets x

-- the fields are those of the statement (RFC 3739 3.2.6)
pub record HasStatement (x : StatementValue) (d : DmQcStatement) : Type 0 where
  pub identifier : d.identifier.now ≡ x.0
  pub info : HasAnyOrNone x.1.0 d.info
  pub has_info : d.has_info ≡ bit (is_some x.1.0)
  pub reserved : d.reserved ≡ 0

abbrev pub IsStatement : QcStatement → DmQcStatement → Type 0
IsStatement x d = HasStatement (statement_of x) d

-- the texts are those of the identifier (EV Guidelines 9.8.2); one that is absent has no octets
pub record HasOrganization (x : OrganizationValue) (d : DmOrganizationIdentifier) : Type 0 where
  pub scheme : d.scheme.now ≡ x.0
  pub country : d.country.now ≡ x.1.0
  pub state_or_province : d.state_or_province.now ≡ unwrap_or x.1.1.0 []
  pub has_state_or_province : d.has_state_or_province ≡ bit (is_some x.1.1.0)
  pub reference : d.reference.now ≡ x.1.1.1.0
  pub reserved : d.reserved ≡ 0

abbrev pub IsOrganization : OrganizationIdentifier → DmOrganizationIdentifier → Type 0
IsOrganization x d = HasOrganization (organization_identifier_of x) d
