-- What was read of a certificate, in words: the lines of the fields that were read (RFC 5280 4.1).
use Rattle.std.specs.Prelude.{ℕ, List, [], ◌++◌, codes, Option, Some, None}
use Rattle.x509.specs.declared.certificate.Version.{Version}
use Rattle.x509.specs.declared.time.Validity.{Validity}
use Rattle.x509.specs.Certificates.{Algorithm, KeyInfo}
use Rattle.x509.specs.Partial.Partials.{Partial}
use Rattle.extension_text.specs.Names.Identifiers.{IsIdentifierLine}
use Rattle.extension_text.specs.Names.Names.{IsNameLine}
use Rattle.extension_text.specs.Names.Pieces.{Exactly, ◌⨾◌}
use Rattle.extension_text.specs.Extensions.{IsExtensionList}
use Rattle.certificate_text.specs.Certificates.{optional_id, serial_line, version_text}
use Rattle.certificate_text.specs.Keys.{IsKey}
use Rattle.certificate_text.specs.Values.{validity_text}

abbrev pub partial_version : Option Version → List ℕ
partial_version (Some v) = version_text v
partial_version None = []

abbrev pub partial_serial : Option (List ℕ) → List ℕ
partial_serial (Some w) = serial_line w
partial_serial None = []

abbrev pub partial_validity : Option ℕ → Option Validity → List ℕ
partial_validity now (Some v) = validity_text now v
partial_validity now None = []

abbrev pub IsAlgorithmLine : Option Algorithm → List ℕ → Type 0
IsAlgorithmLine (Some a) = IsIdentifierLine (codes "  Signature algorithm: ") a.algorithm
IsAlgorithmLine None = Exactly []

abbrev pub IsPartialName : List ℕ → Option (List ℕ) → List ℕ → Type 0
IsPartialName label (Some n) = IsNameLine label n
IsPartialName label None = Exactly []

abbrev pub IsPartialKey : Option KeyInfo → List ℕ → Type 0
IsPartialKey (Some k) = IsKey k
IsPartialKey None = Exactly []

abbrev pub partial_ids : Partial → List ℕ
partial_ids p = optional_id (codes "  Issuer unique ID: ") p.issuer_id
    ++ optional_id (codes "  Subject unique ID: ") p.subject_id

-- who issued it, under which number
abbrev pub IsPartialIdentity : Partial → List ℕ → Type 0
IsPartialIdentity p = Exactly (partial_version p.version) ⨾ (Exactly (partial_serial p.serial_number)
    ⨾ (IsAlgorithmLine p.signature ⨾ IsPartialName (codes "  Issuer: ") p.issuer))

-- whose key it has, and when it is valid
abbrev pub IsPartialHolder : Option ℕ → Partial → List ℕ → Type 0
IsPartialHolder now p = Exactly (partial_validity now p.validity) ⨾ IsPartialName (codes "  Subject: ") p.subject

abbrev pub IsPartialText : Option ℕ → Partial → List ℕ → Type 0
IsPartialText now p = Exactly (codes "Certificate, up to the error\n")
    ⨾ (IsPartialIdentity p ⨾ (IsPartialHolder now p ⨾ (IsPartialKey p.key_info ⨾ (Exactly (partial_ids p)
    ⨾ IsExtensionList (codes "  Extensions\n") p.extensions))))
