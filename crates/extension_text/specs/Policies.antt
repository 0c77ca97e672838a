-- Policies in words (RFC 5280 4.2.1.4, 4.2.1.5, 4.2.1.11).
use Rattle.std.specs.Prelude.{ℕ, Option, Some, None, List, [], ◌++◌, codes}
use Rattle.der_base.specs.declared.rules.Rules.TheVariants.{Der}
use Rattle.der_cursor.specs.Formats.{Required}
use Rattle.der_extensions.specs.declared.policy_constraints.PolicyConstraints.{PolicyConstraints}
use Rattle.der_extensions.specs.Extensions.{PolicyInformation, PolicyQualifierInfo, PolicyValue, QualifierValue}
use Rattle.der_extensions.specs.PolicyExtensions.{MappingValue, PolicyMapping}
use Rattle.extension_text.specs.Names.Identifiers.{IsIdentifier, IsIdentifierLine}
use Rattle.extension_text.specs.Names.Pieces.{Each, Exactly, ◌⨾◌}
use Rattle.extension_text.specs.Names.Values.{optional_number}
use Rattle.extension_text.specs.Notices.{IsDetail}

-- CertificatePolicies (4.2.1.4)
abbrev pub IsQualifier : QualifierValue → List ℕ → Type 0
IsQualifier q = Exactly (codes "        Qualifier: ") ⨾ (IsIdentifier q.0 ⨾ IsDetail q)

abbrev pub AreQualifiers : List ℕ → List ℕ → Type 0
AreQualifiers i = Each (Required PolicyQualifierInfo Der) IsQualifier i

abbrev pub AreOptionalQualifiers : Option (List ℕ) → List ℕ → Type 0
AreOptionalQualifiers (Some i) = AreQualifiers i
AreOptionalQualifiers None = Exactly []

abbrev pub IsPolicy : PolicyValue → List ℕ → Type 0
IsPolicy p = IsIdentifierLine (codes "      Policy: ") p.0 ⨾ AreOptionalQualifiers p.1.0

abbrev pub ArePolicies : List ℕ → List ℕ → Type 0
ArePolicies i = Each (Required PolicyInformation Der) IsPolicy i

-- PolicyMappings (4.2.1.5)
abbrev pub IsMapping : MappingValue → List ℕ → Type 0
IsMapping m = IsIdentifierLine (codes "      Policy of the issuer: ") m.0
    ⨾ IsIdentifierLine (codes "        Policy of the subject: ") m.1.0

abbrev pub AreMappings : List ℕ → List ℕ → Type 0
AreMappings i = Each (Required PolicyMapping Der) IsMapping i

-- PolicyConstraints (4.2.1.11)
abbrev pub policy_constraints_text : PolicyConstraints → List ℕ
policy_constraints_text x = optional_number (codes "      Require explicit policy: ") x.require_explicit_policy
    ++ optional_number (codes "      Inhibit policy mapping: ") x.inhibit_policy_mapping
