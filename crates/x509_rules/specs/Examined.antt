-- A certificate, and what was found of it.
use Rattle.std.specs.Prelude.{◌≡◌, IfSome}
use Rattle.x509.specs.Certificates.{Signed, certificate_of}
use Rattle.x509_rules.specs.declared.examined.Examined.{Examined}
use Rattle.x509_rule_facts.specs.Attributes.{AreBadKinds}
use Rattle.x509_value_rules.specs.Sorted.{IsSorted}

abbrev pub signed_of : Examined → Signed
signed_of x = certificate_of x.signed.now

-- what was found is so
pub record IsExamined (x : Examined) : Type 0 where
  pub its_own : x.extensions.extensions.octets.now ≡ (signed_of x).tbs_certificate.extensions
  pub sorted : IsSorted x.extensions
  pub attributes : IfSome x.bad_kinds (λ bad. AreBadKinds (signed_of x) bad)
