-- Keys in other structures, as their ASN.1 has them, by DER, and what the structs of the code stand for.
use Rattle.std.specs.Prelude.{◌≡◌, ℕ, ℤ, pos, Option, List, codes}
use Rattle.std.specs.Option.{option_map}
use Rattle.der_base.specs.declared.header.Class.TheVariants.{Universal}
use Rattle.der_base.specs.declared.rules.Rules.TheVariants.{Der}
use Rattle.der_base.specs.Refusal.{wrong_value}
use Rattle.der_cursor.specs.Elements.{Element, element_of}
use Rattle.der_values.specs.Kinds.{bit_strings}
use Rattle.x509.specs.Formats.{Fault, Format, ◌>>=◌, any, done, end_of_content, inside, primitive, requiring}
use Rattle.x509.specs.Formats.{sequence, wrong_at}
use Rattle.x509_keys.specs.Fields.{KeyFault, field, optional_explicit, whole}
use Rattle.x509_keys.specs.Keys.{AlgorithmValue, algorithm_identifier, algorithm_of, bits_of, integer, number}
use Rattle.x509_keys.specs.Keys.{octet_string}
use Rattle.x509_keys.specs.declared.curve.EcPrivateKey.{EcPrivateKey as EcStruct}
use Rattle.x509_keys.specs.declared.encrypted.EncryptedPrivateKeyInfo.{EncryptedPrivateKeyInfo as EncryptedStruct}
use Rattle.x509_keys.specs.declared.public.RsaPublicKey.{RsaPublicKey as RsaStruct}
use Rattle.x509_keys.specs.declared.public.SubjectPublicKeyInfo.{SubjectPublicKeyInfo as KeyInfoStruct}

abbrev pub bit_string : Format Fault (ℕ × List ℕ)
bit_string = primitive Universal 3 (bit_strings Der)

-- INTEGER { ecPrivkeyVer1(1) } (ecPrivkeyVer1)                                (RFC 5915 3)
abbrev pub ec_version : Format Fault ℤ
ec_version = requiring (λ n. n ≡ pos 1) (wrong_at wrong_value) number

abbrev pub EcValue : Type 0
EcValue = ℤ × (List ℕ × (Option Element × (Option (ℕ × List ℕ) × Unit {0})))

-- ECPrivateKey ::= SEQUENCE {                                                 (RFC 5915 3, SEC 1 C.4)
-- The parameters may be any element.
abbrev pub ec_private_key : Format KeyFault EcValue
ec_private_key = field (codes "ECPrivateKey") sequence >>= λ content. inside content (do
  version ← field (codes "version") ec_version  -- version     INTEGER { ecPrivkeyVer1(1) } (ecPrivkeyVer1),
  key ← field (codes "privateKey") octet_string  -- privateKey  OCTET STRING,
  -- parameters  [0] ECParameters {{ NamedCurve }} OPTIONAL,
  parameters ← field (codes "parameters") (optional_explicit 0 any)
  -- publicKey   [1] BIT STRING OPTIONAL }
  public ← field (codes "publicKey") (optional_explicit 1 bit_string)
  _ ← field (codes "ECPrivateKey") end_of_content
  done (version, (key, (parameters, (public, tt)))))

abbrev pub whole_ec_key : Format KeyFault EcValue
whole_ec_key = whole (codes "ECPrivateKey") ec_private_key

abbrev pub EncryptedValue : Type 0
EncryptedValue = AlgorithmValue × (List ℕ × Unit {0})

-- EncryptedPrivateKeyInfo ::= SEQUENCE {                                      (RFC 5208 6, RFC 5958 3)
abbrev pub encrypted_private_key_info : Format KeyFault EncryptedValue
encrypted_private_key_info = field (codes "EncryptedPrivateKeyInfo") sequence >>= λ content. inside content (do
  -- encryptionAlgorithm  AlgorithmIdentifier,
  algorithm ← field (codes "encryptionAlgorithm") algorithm_identifier
  encrypted ← field (codes "encryptedData") octet_string  -- encryptedData        OCTET STRING }
  _ ← field (codes "EncryptedPrivateKeyInfo") end_of_content
  done (algorithm, (encrypted, tt)))

abbrev pub whole_encrypted_key : Format KeyFault EncryptedValue
whole_encrypted_key = whole (codes "EncryptedPrivateKeyInfo") encrypted_private_key_info

abbrev pub KeyInfoValue : Type 0
KeyInfoValue = AlgorithmValue × ((ℕ × List ℕ) × Unit {0})

-- SubjectPublicKeyInfo ::= SEQUENCE {                                         (RFC 5280 4.1.2.7)
abbrev pub subject_public_key_info : Format KeyFault KeyInfoValue
subject_public_key_info = field (codes "SubjectPublicKeyInfo") sequence >>= λ content. inside content (do
  algorithm ← field (codes "algorithm") algorithm_identifier  -- algorithm         AlgorithmIdentifier,
  key ← field (codes "subjectPublicKey") bit_string  -- subjectPublicKey  BIT STRING }
  _ ← field (codes "SubjectPublicKeyInfo") end_of_content
  done (algorithm, (key, tt)))

abbrev pub whole_public_key : Format KeyFault KeyInfoValue
whole_public_key = whole (codes "SubjectPublicKeyInfo") subject_public_key_info

abbrev pub RsaPublicValue : Type 0
RsaPublicValue = List ℕ × (List ℕ × Unit {0})

-- RSAPublicKey ::= SEQUENCE {                                                 (RFC 8017 A.1.1)
abbrev pub rsa_public_key : Format KeyFault RsaPublicValue
rsa_public_key = field (codes "RSAPublicKey") sequence >>= λ content. inside content (do
  n ← field (codes "modulus") integer  -- modulus         INTEGER,
  e ← field (codes "publicExponent") integer  -- publicExponent  INTEGER }
  _ ← field (codes "RSAPublicKey") end_of_content
  done (n, (e, tt)))

abbrev pub whole_rsa_public_key : Format KeyFault RsaPublicValue
whole_rsa_public_key = whole (codes "RSAPublicKey") rsa_public_key

abbrev pub ec_of : EcStruct → EcValue
ec_of k = (
  pos k.version,
  (
    k.private_key.now,
    (
      option_map element_of k.parameters,
      (option_map bits_of k.public_key, tt),
    ),
  ),
)

abbrev pub encrypted_of : EncryptedStruct → EncryptedValue
encrypted_of k = (algorithm_of k.algorithm, (k.encrypted_data.now, tt))

abbrev pub key_info_of : KeyInfoStruct → KeyInfoValue
key_info_of k = (algorithm_of k.algorithm, (bits_of k.public_key, tt))

abbrev pub rsa_public_of : RsaStruct → RsaPublicValue
rsa_public_of k = (k.modulus.now, (k.public_exponent.now, tt))
