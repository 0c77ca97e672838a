-- What RFC 5280 asks of certificate policies (4.2.1.4) and of policy mappings (4.2.1.5).
use Rattle.std.specs.Prelude.{◌≡◌, ◌≢◌, ℕ, ◌⊎◌, Option, Some, None, List, [], ◌∷◌}
use Rattle.der_cursor.specs.Formats.{Required}
use Rattle.der_extensions.specs.Extensions.{PolicyQualifierInfo, PolicyValue, QualifierValue}
use Rattle.der_extensions.specs.Notices.{user_notice}
use Rattle.der_extensions.specs.PolicyExtensions.{MappingValue}
use Rattle.x509_rule_facts.specs.Lists.{Among}

-- anyPolicy OBJECT IDENTIFIER ::= { id-ce-certificatePolicies 0 }, which is 2.5.29.32.0
abbrev pub any_policy : List ℕ
any_policy = 85 ∷ 29 ∷ 32 ∷ 0 ∷ []

-- id-qt-cps OBJECT IDENTIFIER ::= { id-qt 1 }, where id-qt is 1.3.6.1.5.5.7.2
abbrev pub cps : List ℕ
cps = 43 ∷ 6 ∷ 1 ∷ 5 ∷ 5 ∷ 7 ∷ 2 ∷ 1 ∷ []

-- a qualifier that is neither a CPS pointer nor a user notice
abbrev pub IsOtherQualifier : QualifierValue → Type 0
IsOtherQualifier v = (v.0 ≢ cps) × (v.0 ≢ user_notice)

-- one of the qualifiers is such a one, if there are any
abbrev pub HasOtherQualifier : Option (List ℕ) → Type 0
HasOtherQualifier None = ⊥
HasOtherQualifier (Some w) = Among (Required PolicyQualifierInfo) IsOtherQualifier w

-- anyPolicy with such a qualifier
abbrev pub IsAnyWithOther : PolicyValue → Type 0
IsAnyWithOther v = (v.0 ≡ any_policy) × HasOtherQualifier v.1.0

-- anyPolicy is mapped, or mapped to
abbrev pub HasAnyPolicy : MappingValue → Type 0
HasAnyPolicy v = (v.0 ≡ any_policy) ⊎ (v.1.0 ≡ any_policy)
