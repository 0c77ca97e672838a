-- The texts of private keys (RFC 5208 5, RFC 5958 2), without their secret numbers.
use Rattle.std.specs.Prelude.{◌≡◌, ◌≢◌, ℕ, Option, Some, None, List, [], ◌∷◌, ◌++◌, codes, decimal, length}
use Rattle.std.specs.Option.{option_copied, option_map}
use Rattle.der_cursor.specs.declared.cursor.Cursor.{Cursor}
use Rattle.der_cursor.specs.Cursors.{octets_left}
use Rattle.x509.specs.Formats.{Format, spells}
use Rattle.x509_keys.specs.declared.curve.EcPrivateKey.{EcPrivateKey as EcStruct}
use Rattle.x509_keys.specs.declared.key.PrivateKeyInfo.{PrivateKeyInfo}
use Rattle.x509_keys.specs.Fields.{KeyFault}
use Rattle.x509_keys.specs.Keys.{bits_of, rsa_of, whole_rsa_key}
use Rattle.x509_keys.specs.OtherKeys.{ec_of, whole_ec_key}
use Rattle.certificate_text.specs.declared.private_key.Inside.{Inside}
use Rattle.certificate_text.specs.declared.private_key.Inside.TheVariants.{Rsa, Curve, Other}
use Rattle.certificate_text.specs.declared.private_key.PrivateKeyText.{PrivateKeyText}
use Rattle.certificate_text.specs.Algorithms.{IsAlgorithm, algorithm_text}
use Rattle.certificate_text.specs.CurveKeys.{IsCurveKey, curve_fields_text, key_octets, public_text}
use Rattle.certificate_text.specs.RsaKeys.{private_numbers_text}
use Rattle.type_words.specs.Texts.{count_text}

-- rsaEncryption: 1.2.840.113549.1.1.1 (RFC 8017 A.1)
abbrev pub rsa_encryption : List ℕ
rsa_encryption = 0x2a ∷ 0x86 ∷ 0x48 ∷ 0x86 ∷ 0xf7 ∷ 0x0d ∷ 0x01 ∷ 0x01 ∷ 0x01 ∷ []

-- id-ecPublicKey: 1.2.840.10045.2.1 (RFC 5480 2.1.1)
abbrev pub ec_public_key : List ℕ
ec_public_key = 0x2a ∷ 0x86 ∷ 0x48 ∷ 0xce ∷ 0x3d ∷ 0x02 ∷ 0x01 ∷ []

-- octets are a value of this format, all of them
abbrev pub Is : {V : Type 0} → Format KeyFault V → List ℕ → V → Type 0
Is f w v = spells f w v []

-- the value that octets are, if they are one
abbrev pub Finds : {V : Type 0} → Format KeyFault V → List ℕ → Option V → Type 0
Finds f w (Some v) = Is f w v
Finds {V} f w None = (v : V) → ¬ Is f w v

-- the key of RSA that octets are, or how many they are
abbrev pub IsRsaInside : List ℕ → Inside → Type 0
IsRsaInside w (Rsa k) = Finds whole_rsa_key w (Some (rsa_of k))
IsRsaInside w (Curve k) = ⊥
IsRsaInside w (Other n) = Finds whole_rsa_key w None × (n ≡ length w)

-- the same of a key of a curve
abbrev pub IsCurveInside : List ℕ → Inside → Type 0
IsCurveInside w (Rsa k) = ⊥
IsCurveInside w (Curve x) = (k : EcStruct) × Finds whole_ec_key w (Some (ec_of k)) × IsCurveKey k x
IsCurveInside w (Other n) = Finds whole_ec_key w None × (n ≡ length w)

-- what the octets of a private key are, by the identifier of its algorithm
pub record IsInside (a w : List ℕ) (x : Inside) : Type 0 where
  pub rsa : a ≡ rsa_encryption → IsRsaInside w x
  pub curve : a ≡ ec_public_key → IsCurveInside w x
  pub other : a ≢ rsa_encryption → a ≢ ec_public_key → x ≡ Other (length w)

abbrev pub inside_text : Inside → List ℕ
inside_text (Rsa k) = private_numbers_text k
inside_text (Curve x) = curve_fields_text x
inside_text (Other n) = codes "  Private key: " ++ count_text n ++ codes "\n"

-- how many octets the attributes have
abbrev pub attributes_size : Option Cursor → Option ℕ
attributes_size attributes = option_map (λ c. length (octets_left c)) attributes

-- the fields of the key are these
pub record IsPrivateKey (k : PrivateKeyInfo) (x : PrivateKeyText) : Type 0 where
  pub version : x.version ≡ k.version
  pub algorithm : IsAlgorithm k.algorithm x.algorithm
  pub inside : IsInside k.algorithm.identifier.octets.now k.private_key.now x.inside
  pub attributes : x.attributes ≡ attributes_size k.attributes
  pub public_key : option_copied x.public_key ≡ key_octets (option_map bits_of k.public_key)

-- the line of attributes
abbrev pub attributes_text : Option ℕ → List ℕ
attributes_text (Some n) = codes "  Attributes: " ++ count_text n ++ codes "\n"
attributes_text None = []

abbrev pub private_key_text : PrivateKeyText → List ℕ
private_key_text x = codes "Private key (PKCS #8):\n  Version: " ++ decimal x.version ++ codes "\n"
    ++ algorithm_text x.algorithm ++ inside_text x.inside ++ attributes_text x.attributes
    ++ public_text (option_copied x.public_key)
