-- Certification requests in words (RFC 2986).
use Rattle.std.specs.Prelude.{◌≡◌, ◌≢◌, ℕ, ◌⊎◌, List, [], ◌∷◌, codes}
use Rattle.der_cursor.specs.Elements.{Element}
use Rattle.x509_keys.specs.Request.Requests.{Attribute, Info, Signed, attribute, challenge_password, extension_request}
use Rattle.x509.specs.Formats.{any, spells}
use Rattle.extension_text.specs.Names.Identifiers.{IsIdentifierLine}
use Rattle.extension_text.specs.Names.Names.{IsNameLine}
use Rattle.extension_text.specs.Names.Pieces.{Each, Exactly, ◌⨾◌}
use Rattle.extension_text.specs.Names.Values.{any_text, line}
use Rattle.extension_text.specs.Extensions.{IsExtensionList}
use Rattle.certificate_text.specs.Keys.{IsKey}
use Rattle.certificate_text.specs.Values.{signature_text}

abbrev pub value_line : Element → List ℕ
value_line e = line (codes "    Value: ") (any_text e)

abbrev pub AreValues : List ℕ → List ℕ → Type 0
AreValues i = Each (spells any) (λ e. Exactly (value_line e)) i

abbrev pub IsOtherAttribute : Attribute → List ℕ → Type 0
IsOtherAttribute a = IsIdentifierLine (codes "  Attribute: ") a.identifier ⨾ AreValues a.values

-- the extensions that are requested, or the values that are none
abbrev pub IsRequested : Attribute → List ℕ → Type 0
IsRequested a text = ((e : List ℕ) × spells extension_request a.values e []
    × IsExtensionList (codes "  Requested extensions\n") e text)
    ⊎ (((e : List ℕ) → ¬ spells extension_request a.values e []) × IsOtherAttribute a text)

-- extensionRequest, 1.2.840.113549.1.9.14 (RFC 2985 5.4.2)
abbrev pub extension_request_octets : List ℕ
extension_request_octets = 0x2a ∷ 0x86 ∷ 0x48 ∷ 0x86 ∷ 0xf7 ∷ 0x0d ∷ 1 ∷ 9 ∷ 14 ∷ []

-- the password by which a certificate may be revoked, or the values that are none
abbrev pub password_line : Element → List ℕ
password_line e = line (codes "  Challenge password: ") (any_text e)

abbrev pub IsPassword : Attribute → List ℕ → Type 0
IsPassword a text = ((e : Element) × spells challenge_password a.values e [] × (text ≡ password_line e))
    ⊎ (((e : Element) → ¬ spells challenge_password a.values e []) × IsOtherAttribute a text)

-- challengePassword, 1.2.840.113549.1.9.7 (RFC 2985 5.4.1)
abbrev pub challenge_password_octets : List ℕ
challenge_password_octets = 0x2a ∷ 0x86 ∷ 0x48 ∷ 0x86 ∷ 0xf7 ∷ 0x0d ∷ 1 ∷ 9 ∷ 7 ∷ []

-- an attribute that requests no extensions
abbrev pub IsUnrequested : Attribute → List ℕ → Type 0
IsUnrequested a text = ((a.identifier ≡ challenge_password_octets) × IsPassword a text)
    ⊎ ((a.identifier ≢ challenge_password_octets) × IsOtherAttribute a text)

abbrev pub IsRequestAttribute : Attribute → List ℕ → Type 0
IsRequestAttribute a text = ((a.identifier ≡ extension_request_octets) × IsRequested a text)
    ⊎ ((a.identifier ≢ extension_request_octets) × IsUnrequested a text)

abbrev pub AreAttributes : List ℕ → List ℕ → Type 0
AreAttributes i = Each (spells attribute) IsRequestAttribute i

-- the fields that are signed; the version is the only one
abbrev pub IsRequestBody : Info → List ℕ → Type 0
IsRequestBody t = Exactly (codes "  Version: 1\n") ⨾ (IsNameLine (codes "  Subject: ") t.subject
    ⨾ (IsKey t.key_info ⨾ AreAttributes t.attributes))

abbrev pub IsRequestText : Signed → List ℕ → Type 0
IsRequestText c = Exactly (codes "Certification request\n") ⨾ (IsRequestBody c.info
    ⨾ (IsIdentifierLine (codes "  Signature algorithm: ") c.algorithm.algorithm
    ⨾ Exactly (signature_text c.signature.1)))
