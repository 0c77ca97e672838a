-- Whether the issuer of a certificate is one of lists at a distribution point (RFC 5280 4.2.1.13).
use Rattle.std.specs.Prelude.{◌≡◌, ℕ, Option, Some, None, List}
use Rattle.der_cursor.specs.Formats.{Required}
use Rattle.der_extensions.specs.Extensions.{CRLDistributionPoints, DistributionPoint, PointValue}
use Rattle.der_extensions.specs.GeneralNames.{GeneralName, NameValue, directory_name}
use Rattle.x509_rule_facts.specs.Lists.{Among}
use Rattle.x509_rule_facts.specs.Values.{Says}

-- a directoryName is the name with these octets
abbrev pub IsName : List ℕ → NameValue → Type 0
IsName name (directory_name w) = w ≡ name
IsName name _ = ⊥

-- one of these names is, if there are any
abbrev pub SomeName : List ℕ → Option (List ℕ) → Type 0
SomeName name None = ⊥
SomeName name (Some w) = Among GeneralName (IsName name) w

-- the point has that name in its cRLIssuer
abbrev pub IsOfIssuer : List ℕ → PointValue → Type 0
IsOfIssuer name p = SomeName name p.1.1.0

-- the value has such a point
abbrev pub PointsTo : List ℕ → List ℕ → Type 0
PointsTo name w = Says CRLDistributionPoints (λ v. Among (Required DistributionPoint) (IsOfIssuer name) v) w
