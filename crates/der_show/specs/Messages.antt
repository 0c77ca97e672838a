-- Keys and messages, and their summaries.
use Rattle.std.specs.Prelude.{◌≡◌, ◌⊎◌, ℕ, Option, Some, None, List, [], codes}
use Rattle.std.specs.Global.{Vec}
use Rattle.std.specs.Option.{option_map}
use Rattle.der_base.specs.declared.rules.Rules.{Rules}
use Rattle.der_base.specs.declared.rules.Rules.TheVariants.{Ber, Der}
use Rattle.der_cursor.specs.Formats.{Format, Only, Required}
use Rattle.der_known.specs.declared.known.KnownTypes.{KnownTypes}
use Rattle.x509.specs.Formats.{Format as KeyFormat, spells}
use Rattle.messages.specs.Kerberos.Requests.{AsReq, RequestValue}
use Rattle.messages.specs.Ldap.Messages.{Message as LdapMessage, MessageValue as LdapValue}
use Rattle.certificate_text.specs.declared.algorithm.EncryptedKeyText.{EncryptedKeyText}
use Rattle.certificate_text.specs.declared.curve_key.EcKeyText.{EcKeyText}
use Rattle.certificate_text.specs.declared.private_key.PrivateKeyText.{PrivateKeyText}
use Rattle.certificate_text.specs.declared.public_key.PublicKeyText.{PublicKeyText}
use Rattle.certificate_text.specs.Algorithms.{IsEncrypted, encrypted_text}
use Rattle.certificate_text.specs.CurveKeys.{IsCurveKey as IsCurveFields, ec_key_text}
use Rattle.certificate_text.specs.PrivateKeys.{IsPrivateKey as IsKeyShown, private_key_text}
use Rattle.certificate_text.specs.PublicKeys.{IsPublicKey as IsPublicShown, public_key_text}
use Rattle.certificate_text.specs.RsaKeys.{rsa_key_text}
use Rattle.der_show.specs.declared.words.Words.{Words}
use Rattle.der_show.specs.ByTypes.{ShowsByType}
use Rattle.x509_keys.specs.Fields.{KeyFault}
use Rattle.x509_keys.specs.Keys.{key_of, rsa_of, whole_key, whole_rsa_key}
use Rattle.x509_keys.specs.OtherKeys.{ec_of, encrypted_of, key_info_of, whole_ec_key, whole_encrypted_key}
use Rattle.x509_keys.specs.OtherKeys.{whole_public_key}
use Rattle.messages.specs.Snmp.Messages.{Message as SnmpMessage, MessageValue as SnmpValue}

-- a text in memory, if there is one
abbrev pub text_in : Option (Vec ℕ) → Option (List ℕ)
text_in found = option_map (λ v. v.items) found

-- The summary of the value that all the octets are, if they are one. `view` gives the value for the result of a reader.
abbrev pub Shows : {T V : Type 0} → (List ℕ → V → Type 0) → (T → V) → (T → List ℕ → Type 0) → List ℕ
    → Option (List ℕ) → Type 0
Shows {T} {V} Is view IsText i (Some text) = (x : T) × Is i (view x) × IsText x text
Shows {T} {V} Is view IsText i None = (v : V) → ¬ Is i v

-- the octets are a value of the type
abbrev pub Is : {V : Type 0} → Rules → Format V → List ℕ → V → Type 0
Is r F i v = Only (Required F) r i v

-- the octets are a key
abbrev pub IsKey : {V : Type 0} → KeyFormat KeyFault V → List ℕ → V → Type 0
IsKey f i v = spells f i v []

-- Keys, by DER.

abbrev pub IsPrivateKey : List ℕ → Option (List ℕ) → Type 0
IsPrivateKey = Shows (IsKey whole_key) key_of
    (λ k text. (x : PrivateKeyText) × IsKeyShown k x × (text ≡ private_key_text x))

abbrev pub IsEncryptedKey : List ℕ → Option (List ℕ) → Type 0
IsEncryptedKey = Shows (IsKey whole_encrypted_key) encrypted_of
    (λ k text. (x : EncryptedKeyText) × IsEncrypted k x × (text ≡ encrypted_text x))

abbrev pub IsRsaKey : List ℕ → Option (List ℕ) → Type 0
IsRsaKey = Shows (IsKey whole_rsa_key) rsa_of (λ k text. text ≡ rsa_key_text k)

abbrev pub IsCurveKey : List ℕ → Option (List ℕ) → Type 0
IsCurveKey = Shows (IsKey whole_ec_key) ec_of
    (λ k text. (x : EcKeyText) × IsCurveFields k x.fields × (text ≡ ec_key_text x))

abbrev pub IsPublicKey : List ℕ → Option (List ℕ) → Type 0
IsPublicKey = Shows (IsKey whole_public_key) key_info_of
    (λ k text. (x : PublicKeyText) × IsPublicShown k x × (text ≡ public_key_text x))

-- Messages: of Kerberos by DER, the others by BER.

abbrev pub IsKerberos : KnownTypes → List ℕ → Option Words → Type 0
IsKerberos types = ShowsByType (λ i. (x : RequestValue) × Is Der AsReq i x) types (codes "AS-REQ")

abbrev pub IsSnmp : KnownTypes → List ℕ → Option Words → Type 0
IsSnmp types = ShowsByType (λ i. (m : SnmpValue) × Is Ber SnmpMessage i m) types (codes "Message")

abbrev pub IsLdap : KnownTypes → List ℕ → Option Words → Type 0
IsLdap types = ShowsByType (λ i. (m : LdapValue) × Is Ber LdapMessage i m) types (codes "LDAPMessage")

infixr 20 ◌⊳◌
-- what the first finds, or the second if the first finds none
abbrev pub ◌⊳◌ : {T : Type 0} → (List ℕ → Option T → Type 0) → (List ℕ → Option T → Type 0) → List ℕ → Option T
    → Type 0
◌⊳◌ {T} P Q i found = ((x : T) × P i (Some x) × (found ≡ Some x)) ⊎ (P i None × Q i found)

-- the text of the first of these keys that the octets are, from each on
abbrev pub FromCurveKey : List ℕ → Option (List ℕ) → Type 0
FromCurveKey = IsCurveKey ⊳ IsPublicKey

abbrev pub FromRsaKey : List ℕ → Option (List ℕ) → Type 0
FromRsaKey = IsRsaKey ⊳ FromCurveKey

abbrev pub FromEncryptedKey : List ℕ → Option (List ℕ) → Type 0
FromEncryptedKey = IsEncryptedKey ⊳ FromRsaKey

abbrev pub IsKeyText : List ℕ → Option (List ℕ) → Type 0
IsKeyText = IsPrivateKey ⊳ FromEncryptedKey

-- the summary of the first of these messages that the octets are
abbrev pub FromSnmp : KnownTypes → List ℕ → Option Words → Type 0
FromSnmp types = IsSnmp types ⊳ IsLdap types

abbrev pub IsMessage : KnownTypes → List ℕ → Option Words → Type 0
IsMessage types = IsKerberos types ⊳ FromSnmp types
