-- A summary of what was read of a rejected certificate.
use Rattle.std.specs.Prelude.{◌≡◌, ℕ, ◌⊎◌, Option, Some, None, List, IsSome}
use Rattle.certificate_text.specs.Partials.{IsPartialText}
use Rattle.x509.specs.declared.certificate.Version.{Version}
use Rattle.x509.specs.declared.certificate.Version.TheVariants.{V1, V2, V3}
use Rattle.x509.specs.Partial.Partials.{IsPartial, Partial}
use Rattle.der_show.specs.declared.refused.Refused.{Refused}
use Rattle.der_show.specs.Refused.{IsOfCertificate}

-- the version is encoded, so it isn't version 1
abbrev pub IsLater : Option Version → Type 0
IsLater (Some V1) = ⊥
IsLater (Some V2) = Unit {0}
IsLater (Some V3) = Unit {0}
IsLater None = ⊥

-- The fields are those of a certificate. A CRL (RFC 5280 5.1) has an issuer at the same position, but no version under
-- a tag and no validity.
abbrev pub ShowsCertificate : Partial → Type 0
ShowsCertificate p = IsSome p.issuer × (IsLater p.version ⊎ IsSome p.validity)

-- the summary of these fields; None if they may be those of another type
abbrev pub IsPartialFound : Option ℕ → Partial → Option (List ℕ) → Type 0
IsPartialFound now p (Some text) = ShowsCertificate p × IsPartialText now p text
IsPartialFound now p None = ¬ ShowsCertificate p

-- the summary of what was read of a certificate; None if the error is that of another type
abbrev pub IsRefusedText : Option ℕ → List ℕ → Refused → Option (List ℕ) → Type 0
IsRefusedText now i r text = (IsOfCertificate r × (p : Partial) × IsPartial i p × IsPartialFound now p text)
    ⊎ ((¬ IsOfCertificate r) × (text ≡ None))
