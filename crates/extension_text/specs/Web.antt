-- The extensions of the web, and attributes of the subject, in words.
use Rattle.std.specs.Prelude.{ℕ, ◌==◌, ℤ, nat_abs, if◌then◌else◌, List, ◌++◌, codes, decimal}
use Rattle.der_base.specs.declared.rules.Rules.TheVariants.{Der}
use Rattle.der_cursor.specs.Formats.{AnyElement, Element, Required}
use Rattle.der_extensions.specs.PolicyExtensions.{DirectoryAttribute, DirectoryAttributeValue}
use Rattle.der_extensions.specs.WebExtensions.{Feature, OrganizationValue, QCStatement, StatementValue}
use Rattle.extension_text.specs.Names.Identifiers.{IsIdentifierLine}
use Rattle.extension_text.specs.Names.Pieces.{Each, Exactly, ◌⨾◌}
use Rattle.extension_text.specs.Names.Values.{any_text, line, optional_any, optional_plain, plain_line}

-- SubjectDirectoryAttributes (RFC 5280 4.2.1.8)
abbrev pub IsAttributeValue : Element → List ℕ → Type 0
IsAttributeValue e = Exactly (line (codes "        Value: ") (any_text e))

abbrev pub AreAttributeValues : List ℕ → List ℕ → Type 0
AreAttributeValues i = Each (AnyElement Der) IsAttributeValue i

abbrev pub IsDirectoryAttribute : DirectoryAttributeValue → List ℕ → Type 0
IsDirectoryAttribute a = IsIdentifierLine (codes "      Attribute: ") a.0 ⨾ AreAttributeValues a.1.0

abbrev pub AreDirectoryAttributes : List ℕ → List ℕ → Type 0
AreDirectoryAttributes i = Each (Required DirectoryAttribute Der) IsDirectoryAttribute i

-- TLS features (RFC 7633), extensions of TLS by their numbers (RFC 6066 1.1, RFC 6961 2.2)
abbrev pub feature_text : ℕ → List ℕ
feature_text n =
    if n == 5 then codes "status_request (5)" else if n == 17 then codes "status_request_v2 (17)" else decimal n

abbrev pub IsFeature : ℤ → List ℕ → Type 0
IsFeature n = Exactly (line (codes "      Feature: ") (feature_text (nat_abs n)))

abbrev pub AreFeatures : List ℕ → List ℕ → Type 0
AreFeatures i = Each (Required Feature Der) IsFeature i

-- QCStatements (RFC 3739 3.2.6)
abbrev pub IsStatement : StatementValue → List ℕ → Type 0
IsStatement s = IsIdentifierLine (codes "      Statement: ") s.0
    ⨾ Exactly (optional_any (codes "        Information: ") s.1.0)

abbrev pub AreStatements : List ℕ → List ℕ → Type 0
AreStatements i = Each (Required QCStatement Der) IsStatement i

-- CABFOrganizationIdentifier (EV Guidelines 9.8.2)
abbrev pub organization_text : OrganizationValue → List ℕ
organization_text x = plain_line (codes "      Scheme: ") x.0 ++ (plain_line (codes "      Country: ") x.1.0
    ++ (optional_plain (codes "      State or province: ") x.1.1.0
    ++ plain_line (codes "      Reference: ") x.1.1.1.0))
