-- Certificates in words (RFC 5280 4.1).
use Rattle.std.specs.Prelude.{ℕ, Option, Some, None, List, [], ◌++◌, codes, decimal}
use Rattle.x509.specs.declared.certificate.Version.{Version}
use Rattle.x509.specs.declared.certificate.Version.TheVariants.{V1, V2, V3}
use Rattle.x509.specs.Certificates.{Signed, Tbs}
use Rattle.extension_text.specs.Names.Identifiers.{IsIdentifierLine}
use Rattle.extension_text.specs.Names.Names.{IsNameLine}
use Rattle.extension_text.specs.Names.Pieces.{Exactly, ◌⨾◌}
use Rattle.extension_text.specs.Names.Values.{line, octets_line, serial_text}
use Rattle.extension_text.specs.Extensions.{IsExtensionList}
use Rattle.certificate_text.specs.Keys.{IsKey}
use Rattle.certificate_text.specs.Values.{digests_text, signature_text, validity_text}

-- the number by which a version is known, one more than its encoding
abbrev pub version_number : Version → ℕ
version_number V1 = 1
version_number V2 = 2
version_number V3 = 3

abbrev pub version_text : Version → List ℕ
version_text v = line (codes "  Version: ") (decimal (version_number v))

abbrev pub serial_line : List ℕ → List ℕ
serial_line w = line (codes "  Serial number: ") (serial_text w)

-- who issued it, under which number
abbrev pub IsIdentity : Tbs → List ℕ → Type 0
IsIdentity t = Exactly (version_text t.version)
    ⨾ (Exactly (serial_line t.serial_number)
    ⨾ (IsIdentifierLine (codes "  Signature algorithm: ") t.signature.algorithm
    ⨾ IsNameLine (codes "  Issuer: ") t.issuer))

-- whose key it has, and when it is valid
abbrev pub IsHolder : Option ℕ → Tbs → List ℕ → Type 0
IsHolder now t = Exactly (validity_text now t.validity) ⨾ IsNameLine (codes "  Subject: ") t.subject

abbrev pub optional_id : List ℕ → Option (ℕ × List ℕ) → List ℕ
optional_id label (Some v) = octets_line label v.1
optional_id label None = []

abbrev pub unique_ids : Tbs → List ℕ
unique_ids t = optional_id (codes "  Issuer unique ID: ") t.issuer_id
    ++ optional_id (codes "  Subject unique ID: ") t.subject_id

-- the fields that are signed
abbrev pub IsBody : Option ℕ → Tbs → List ℕ → Type 0
IsBody now t = IsIdentity t ⨾ (IsHolder now t ⨾ (IsKey t.key_info ⨾ (Exactly (unique_ids t)
    ⨾ IsExtensionList (codes "  Extensions\n") t.extensions)))

-- the signature, and the digests of the whole
abbrev pub IsSeal : List ℕ → Signed → List ℕ → Type 0
IsSeal i c = Exactly (signature_text c.signature.1) ⨾ Exactly (digests_text i)

-- a certificate that was read from i
abbrev pub IsCertificateText : Option ℕ → List ℕ → Signed → List ℕ → Type 0
IsCertificateText now i c = Exactly (codes "Certificate\n")
    ⨾ (IsBody now c.tbs_certificate ⨾ IsSeal i c)
