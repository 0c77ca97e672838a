-- Public keys in words (RFC 5280 4.1.2.7).
use Rattle.std.specs.Prelude.{◌≡◌, ◌≢◌, ◌==◌, if◌then◌else◌, ℕ, ◌-◌, ◌*◌, ◌⊎◌, List, [], ◌∷◌, ◌++◌, codes, decimal, length}
use Rattle.std.specs.Int.{leading_zeros, w8}
use Rattle.der_base.specs.declared.rules.Rules.TheVariants.{Der}
use Rattle.der_cursor.specs.Formats.{ObjectIdentifier, Only, Required}
use Rattle.der_print.specs.Values.{without_leading_zero}
use Rattle.x509.specs.Certificates.{KeyInfo}
use Rattle.x509.specs.Formats.{spells}
use Rattle.x509_keys.specs.OtherKeys.{RsaPublicValue, whole_rsa_public_key}
use Rattle.type_words.specs.Texts.{count_text}
use Rattle.extension_text.specs.Names.Identifiers.{IsIdentifierLine}
use Rattle.extension_text.specs.Names.Pieces.{Then}
use Rattle.extension_text.specs.Names.Values.{line, octets_line}

-- the bits of a natural number with these digits of base 256
abbrev pub bits_of_digits : List ℕ → ℕ
bits_of_digits [] = 0
bits_of_digits (a ∷ w) = length (a ∷ w) * 8 - leading_zeros w8 a

-- those of the content octets of an INTEGER
abbrev pub bit_length : List ℕ → ℕ
bit_length w = bits_of_digits (without_leading_zero w)

abbrev pub size_text : List ℕ → List ℕ
size_text modulus = codes "    Size: " ++ (decimal (bit_length modulus) ++ codes " bits\n")

-- the octets are a key of RSA, or none
abbrev pub IsSize : List ℕ → List ℕ → Type 0
IsSize w text = ((k : RsaPublicValue) × spells whole_rsa_public_key w k [] × (text ≡ size_text k.0))
    ⊎ (((k : RsaPublicValue) → ¬ spells whole_rsa_public_key w k []) × (text ≡ octets_line (codes "    Octets: ") w))

-- a SEQUENCE has the parameters of a curve (RFC 3279 2.3.5)
abbrev pub label_by : ℕ → List ℕ
label_by b = if b == 0x30 then codes "    Explicit curve: " else codes "    Parameters: "

abbrev pub parameters_label : List ℕ → List ℕ
parameters_label [] = codes "    Parameters: "
parameters_label (b ∷ w) = label_by b

-- the parameters are the identifier of a curve (RFC 5480 2.1.1), or not
abbrev pub IsCurve : List ℕ → List ℕ → Type 0
IsCurve w text =
    ((x : List ℕ) × Only (Required ObjectIdentifier) Der w x × IsIdentifierLine (codes "    Curve: ") x text)
    ⊎ (((x : List ℕ) → ¬ Only (Required ObjectIdentifier) Der w x)
    × (text ≡ octets_line (parameters_label w) w))

-- rsaEncryption, 1.2.840.113549.1.1.1 (RFC 8017 A.1), and id-ecPublicKey, 1.2.840.10045.2.1 (RFC 5480 2.1.1)
abbrev pub rsa_encryption : List ℕ
rsa_encryption = 0x2a ∷ 0x86 ∷ 0x48 ∷ 0x86 ∷ 0xf7 ∷ 0x0d ∷ 1 ∷ 1 ∷ 1 ∷ []

abbrev pub ec_public_key : List ℕ
ec_public_key = 0x2a ∷ 0x86 ∷ 0x48 ∷ 0xce ∷ 0x3d ∷ 2 ∷ 1 ∷ []

abbrev pub IsDetail : KeyInfo → List ℕ → Type 0
IsDetail k text = let a = k.algorithm.algorithm in let w = k.key.1 in
    ((a ≡ rsa_encryption) × IsSize w text)
    ⊎ ((a ≡ ec_public_key) × IsCurve k.algorithm.parameters text)
    ⊎ ((a ≢ rsa_encryption) × (a ≢ ec_public_key) × (text ≡ line (codes "    Size: ") (count_text (length w))))

abbrev pub IsKey : KeyInfo → List ℕ → Type 0
IsKey k = Then (IsIdentifierLine (codes "  Public key: ") k.algorithm.algorithm) (IsDetail k)
