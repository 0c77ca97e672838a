-- The values of extensions of CRLs (RFC 5280 5.2), as their ASN.1 has them, and the values of the structs in the code.
use Rattle.std.specs.Prelude.{ℕ, pos, ◌<ℤ◌, Bool, false, Option, List}
use Rattle.std.specs.Option.{option_map}
use Rattle.der_base.specs.Octets.{integer_value}
use Rattle.der_cursor.specs.Formats.{Boolean, Default, End, Format, Implicit, Integer, Limited, Only, Optional}
use Rattle.der_cursor.specs.Formats.{OptionalTagged, Sequence, ◌⨾◌}
use Rattle.der_extensions.specs.declared.issuing_distribution_point.IssuingDistributionPoint as issuing
use Rattle.der_extensions.specs.Extensions.{DistributionPointName, PointNameValue, ReasonFlags, point_name_of}
use Rattle.x509.specs.Certificates.{bits_of}

-- the number isn't negative
abbrev pub IsNatural : List ℕ → Type 0
IsNatural v = ¬ (integer_value v <ℤ pos 0)

-- CRLNumber ::= INTEGER (0..MAX)                                         (5.2.3)
-- BaseCRLNumber ::= CRLNumber                                            (5.2.4)
abbrev pub CRLNumber : Format (List ℕ)
CRLNumber = Limited IsNatural Integer

abbrev pub IssuingPointValue : Type 0
IssuingPointValue = Option PointNameValue
    × (Bool × (Bool × (Option (ℕ × List ℕ) × (Bool × (Bool × Unit {0})))))

-- IssuingDistributionPoint ::= SEQUENCE {                                (5.2.5)
-- A tag of a choice is explicit.
abbrev pub IssuingDistributionPoint : Format IssuingPointValue
IssuingDistributionPoint = Sequence (
    OptionalTagged 0 (Only DistributionPointName)  -- distributionPoint          [0] DistributionPointName OPTIONAL,
    ⨾ (Default (Implicit 1 Boolean) false  -- onlyContainsUserCerts      [1] BOOLEAN DEFAULT FALSE,
    ⨾ (Default (Implicit 2 Boolean) false  -- onlyContainsCACerts        [2] BOOLEAN DEFAULT FALSE,
    ⨾ (Optional (Implicit 3 ReasonFlags)  -- onlySomeReasons            [3] ReasonFlags OPTIONAL,
    ⨾ (Default (Implicit 4 Boolean) false  -- indirectCRL                [4] BOOLEAN DEFAULT FALSE,
    ⨾ (Default (Implicit 5 Boolean) false  -- onlyContainsAttributeCerts [5] BOOLEAN DEFAULT FALSE }
    ⨾ End))))))

abbrev pub issuing_point_of : issuing.IssuingDistributionPoint → IssuingPointValue
issuing_point_of x = (
  option_map point_name_of x.distribution_point,
  (
    x.only_contains_user_certs,
    (
      x.only_contains_ca_certs,
      (option_map bits_of x.only_some_reasons, (x.indirect_crl, (x.only_contains_attribute_certs, tt))),
    ),
  ),
)

-- InvalidityDate ::= GeneralizedTime                                     (5.3.2)
-- CertificateIssuer ::= GeneralNames                                     (5.3.3)
