-- What RFC 5280 asks of distribution points (4.2.1.13).
use Rattle.std.specs.Prelude.{◌≡◌, ◌≢◌, ℕ, ◌⊎◌, Option, Some, None, List}
use Rattle.std.specs.Option.{IsSomeAnd}
use Rattle.der_extensions.specs.Extensions.{PointNameValue, PointValue, full_name, name_relative_to_issuer}
use Rattle.der_extensions.specs.GeneralNames.{GeneralName, NameValue, directory_name}
use Rattle.x509_value_rules.specs.declared.points.PointRule.{PointRule}
use Rattle.x509_value_rules.specs.declared.points.PointRule.TheVariants.{Named, FullName, NameAlone, NamedIssuers}
use Rattle.x509_value_rules.specs.declared.points.PointRule.TheVariants.{RelativeToOneIssuer, Issuers, FullNames}
use Rattle.x509_value_rules.specs.declared.names.NameRule.{NameRule}
use Rattle.x509_rule_facts.specs.Lists.{Among, Twice}
use Rattle.x509_value_rules.specs.Names.{BreaksName, SomeNameBreaks, IsBadName}

-- neither distributionPoint nor cRLIssuer is there
abbrev pub IsUnnamed : PointValue → Type 0
IsUnnamed p = (p.0 ≡ None) × (p.1.1.0 ≡ None)

abbrev pub IsRelative : PointNameValue → Type 0
IsRelative (full_name w) = ⊥
IsRelative (name_relative_to_issuer w) = Unit {0}

-- distributionPoint is a nameRelativeToCRLIssuer
abbrev pub HasRelativeName : PointValue → Type 0
HasRelativeName p = IsSomeAnd p.0 IsRelative

-- reasons or cRLIssuer is there
abbrev pub HasMoreThanName : PointValue → Type 0
HasMoreThanName p = (p.1.0 ≢ None) ⊎ (p.1.1.0 ≢ None)

-- the point has no reasons, so its list is for all of them
abbrev pub IsForAllReasons : PointValue → Type 0
IsForAllReasons p = p.1.0 ≡ None

-- a directoryName, which is a distinguished name
abbrev pub IsDistinguished : NameValue → Type 0
IsDistinguished (directory_name w) = Unit {0}
IsDistinguished _ = ⊥

-- of the names of cRLIssuer, if it is there, two are
abbrev pub HasSeveralIssuers : Option (List ℕ) → Type 0
HasSeveralIssuers None = ⊥
HasSeveralIssuers (Some w) = Twice GeneralName IsDistinguished w

-- one of them isn't
abbrev pub HasOtherIssuer : Option (List ℕ) → Type 0
HasOtherIssuer None = ⊥
HasOtherIssuer (Some w) = Among GeneralName (λ n. ¬ IsDistinguished n) w

-- a name of a fullName breaks the rule
abbrev pub IsFullNameBroken : NameRule → PointNameValue → Type 0
IsFullNameBroken r (full_name w) = Among GeneralName (BreaksName r) w
IsFullNameBroken r (name_relative_to_issuer w) = ⊥

-- the point breaks the rule
abbrev pub BreaksPoint : PointRule → PointValue → Type 0
BreaksPoint Named p = IsUnnamed p
BreaksPoint FullName p = HasRelativeName p
BreaksPoint NameAlone p = HasMoreThanName p
BreaksPoint NamedIssuers p = HasOtherIssuer p.1.1.0
BreaksPoint RelativeToOneIssuer p = HasRelativeName p × HasSeveralIssuers p.1.1.0
BreaksPoint (Issuers r) p = SomeNameBreaks r p.1.1.0
BreaksPoint (FullNames r) p = IsSomeAnd p.0 (IsFullNameBroken r)

-- one of the names of a fullName is such a one
abbrev pub IsBadFullName : PointNameValue → Type 0
IsBadFullName (full_name w) = Among GeneralName IsBadName w
IsBadFullName (name_relative_to_issuer w) = ⊥

-- a point that has anything but a fullName whose names keep the rules of names
abbrev pub IsBadPoint : PointValue → Type 0
IsBadPoint p = IsUnnamed p ⊎ HasRelativeName p ⊎ HasMoreThanName p ⊎ IsSomeAnd p.0 IsBadFullName
