-- What RFC 5280 asks of an issuing distribution point (5.2.5).
use Rattle.std.specs.Prelude.{◌≡◌, ◌⊎◌, true}
use Rattle.std.specs.Option.{IsSomeAnd}
use Rattle.der_extensions.specs.Revocation.{IssuingPointValue}
use Rattle.x509_value_rules.specs.declared.issuing_point.IssuingPointRule.{IssuingPointRule}
use Rattle.x509_value_rules.specs.declared.issuing_point.IssuingPointRule.TheVariants.{OneKind}
use Rattle.x509_value_rules.specs.declared.issuing_point.IssuingPointRule.TheVariants.{NoAttributeCertificates}
use Rattle.x509_value_rules.specs.declared.issuing_point.IssuingPointRule.TheVariants.{FullNames}
use Rattle.x509_value_rules.specs.Points.{IsFullNameBroken}

-- onlyContainsUserCerts, onlyContainsCACerts and onlyContainsAttributeCerts
abbrev pub IsOfUsers : IssuingPointValue → Type 0
IsOfUsers v = v.1.0 ≡ true

abbrev pub IsOfAuthorities : IssuingPointValue → Type 0
IsOfAuthorities v = v.1.1.0 ≡ true

abbrev pub IsOfAttributes : IssuingPointValue → Type 0
IsOfAttributes v = v.1.1.1.1.1.0 ≡ true

-- two of them are TRUE
abbrev pub HasTwoKinds : IssuingPointValue → Type 0
HasTwoKinds v = (IsOfUsers v × IsOfAuthorities v) ⊎ (IsOfUsers v × IsOfAttributes v)
    ⊎ (IsOfAuthorities v × IsOfAttributes v)

-- the point breaks the rule
abbrev pub BreaksIssuingPoint : IssuingPointRule → IssuingPointValue → Type 0
BreaksIssuingPoint OneKind v = HasTwoKinds v
BreaksIssuingPoint NoAttributeCertificates v = IsOfAttributes v
BreaksIssuingPoint (FullNames r) v = IsSomeAnd v.0 (IsFullNameBroken r)
