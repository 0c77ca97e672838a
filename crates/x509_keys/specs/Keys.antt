-- Private keys, as their ASN.1 has them, by DER, and what the structs of the code stand for.
use Rattle.std.specs.Prelude.{◌≡◌, ◌≢◌, ℕ, ℤ, pos, ◌≤ℤ◌, Bool, true, false, is_some, Option, List, [], ◌∷◌, codes}
use Rattle.std.specs.Option.{option_map}
use Rattle.der_base.specs.declared.header.Class.TheVariants.{ContextSpecific, Universal}
use Rattle.der_base.specs.declared.rules.Rules.TheVariants.{Der}
use Rattle.der_base.specs.Numbers.{unsigned}
use Rattle.der_base.specs.Refusal.{wrong_value}
use Rattle.der_cursor.specs.Cursors.{octets_left}
use Rattle.der_cursor.specs.Elements.{BeginsWithTag, Element, IsNext, element_of}
use Rattle.der_values.specs.declared.bits.BitString.{BitString as BitStruct}
use Rattle.der_values.specs.Kinds.{bit_strings, borrowed_octets, identifiers, integers, numbers, octet_strings}
use Rattle.x509.specs.Formats.{Fault, Format, Spot, ◌>>=◌, any, done, element, end_of_content, inside}
use Rattle.x509.specs.Formats.{optional_implicit, primitive, requiring, sequence, wrong_at}
use Rattle.x509_keys.specs.declared.key.Algorithm.{Algorithm}
use Rattle.x509_keys.specs.declared.key.PrivateKeyInfo.{PrivateKeyInfo as KeyStruct}
use Rattle.x509_keys.specs.declared.rsa.RsaExponents.{RsaExponents as ExponentsStruct}
use Rattle.x509_keys.specs.declared.rsa.RsaPrimes.{RsaPrimes as PrimesStruct}
use Rattle.x509_keys.specs.declared.rsa.RsaPrivateKey.{RsaPrivateKey as RsaStruct}
use Rattle.x509_keys.specs.Fields.{KeyFault, field, optional, whole}

abbrev pub number : Format Fault ℤ
number = primitive Universal 2 (numbers Der (unsigned 32))

abbrev pub integer : Format Fault (List ℕ)
integer = primitive Universal 2 (integers Der)

abbrev pub octet_string : Format Fault (List ℕ)
octet_string = primitive Universal 4 octet_strings

-- Version ::= INTEGER { v1(0), v2(1) } (v1, v2)                               (RFC 5958 2)
-- Version ::= INTEGER { two-prime(0), multi(1) }                              (RFC 8017 A.1.2)
abbrev pub version : Format Fault ℤ
version = requiring (λ n. n ≤ℤ pos 1) (wrong_at wrong_value) number

-- the version of a key that has a further part, or doesn't
abbrev pub version_with : Bool → ℕ
version_with true = 1
version_with false = 0

-- the version is wrong, which is the first field
abbrev pub wrong_version : Spot → KeyFault
wrong_version s = (codes "version" ∷ [], wrong_at wrong_value s)

abbrev pub AlgorithmValue : Type 0
AlgorithmValue = List ℕ × (Option Element × Unit {0})

-- AlgorithmIdentifier ::= SEQUENCE {                                          (RFC 5280 4.1.1.2)
abbrev pub algorithm_identifier : Format Fault AlgorithmValue
algorithm_identifier = sequence >>= λ content. inside content (do
  algorithm ← primitive Universal 6 identifiers  -- algorithm      OBJECT IDENTIFIER,
  parameters ← optional (λ i. i ≢ []) any  -- parameters     ANY DEFINED BY algorithm OPTIONAL }
  _ ← end_of_content
  done (algorithm, (parameters, tt)))

abbrev pub KeyValue : Type 0
KeyValue = ℤ × (AlgorithmValue × (List ℕ × (Option (List ℕ) × (Option (ℕ × List ℕ) × Unit {0}))))

-- If publicKey is present, then version is set to v2 else version is set to v1.
abbrev pub HasVersion : KeyValue → Type 0
HasVersion k = k.0 ≡ pos (version_with (is_some k.1.1.1.1.0))

-- PrivateKeyInfo ::= SEQUENCE {                                               (RFC 5208 5, RFC 5958 2)
-- The content of the attributes isn't asked.
abbrev pub private_key_info : Format KeyFault KeyValue
private_key_info = field (codes "PrivateKeyInfo") sequence >>= λ content.
    inside content (requiring HasVersion wrong_version (do
      v ← field (codes "version") version  -- version              Version,
      -- privateKeyAlgorithm  AlgorithmIdentifier,
      algorithm ← field (codes "privateKeyAlgorithm") algorithm_identifier
      key ← field (codes "privateKey") octet_string  -- privateKey           OCTET STRING,
      -- attributes           [0] IMPLICIT SET OF Attribute OPTIONAL,
      attributes ← field (codes "attributes") (optional (BeginsWithTag 0) (element ContextSpecific true 0))
      -- publicKey            [1] IMPLICIT BIT STRING OPTIONAL }
      public ← field (codes "publicKey") (optional_implicit 1 (bit_strings Der))
      _ ← field (codes "PrivateKeyInfo") end_of_content
      done (v, (algorithm, (key, (attributes, (public, tt)))))))

-- a key, and nothing after it
abbrev pub whole_key : Format KeyFault KeyValue
whole_key = whole (codes "PrivateKeyInfo") private_key_info

abbrev pub RsaValue : Type 0
RsaValue = ℤ × (List ℕ × (List ℕ × (List ℕ × (List ℕ × (List ℕ × (List ℕ × (List ℕ × (List ℕ
    × (Option (List ℕ) × Unit {0})))))))))

-- The version is two-prime, unless there are further primes, in which case it is multi.
abbrev pub HasRsaVersion : RsaValue → Type 0
HasRsaVersion k = k.0 ≡ pos (version_with (is_some k.1.1.1.1.1.1.1.1.1.0))

-- RSAPrivateKey ::= SEQUENCE {                                                (RFC 8017 A.1.2)
-- The content of further primes isn't asked.
pub record RsaExponents : Type 0 where
  pub modulus : List ℕ
  pub public_exponent : List ℕ
  pub private_exponent : List ℕ

abbrev pub rsa_exponents : {V : Type 0} → (RsaExponents → Format KeyFault V) → Format KeyFault V
rsa_exponents rest = do
  n ← field (codes "modulus") integer  -- modulus              INTEGER,
  e ← field (codes "publicExponent") integer  -- publicExponent       INTEGER,
  d ← field (codes "privateExponent") integer  -- privateExponent      INTEGER,
  rest (record { modulus = n; public_exponent = e; private_exponent = d })

pub record RsaPrimes : Type 0 where
  pub prime1 : List ℕ
  pub prime2 : List ℕ
  pub exponent1 : List ℕ
  pub exponent2 : List ℕ
  pub coefficient : List ℕ

abbrev pub rsa_primes : {V : Type 0} → (RsaPrimes → Format KeyFault V) → Format KeyFault V
rsa_primes rest = do
  p ← field (codes "prime1") integer  -- prime1               INTEGER,
  q ← field (codes "prime2") integer  -- prime2               INTEGER,
  x ← field (codes "exponent1") integer  -- exponent1            INTEGER,
  y ← field (codes "exponent2") integer  -- exponent2            INTEGER,
  c ← field (codes "coefficient") integer  -- coefficient          INTEGER,
  rest (record { prime1 = p; prime2 = q; exponent1 = x; exponent2 = y; coefficient = c })

abbrev pub rsa_end : ℤ → RsaExponents → RsaPrimes → Format KeyFault RsaValue
rsa_end v a b = do
  -- otherPrimeInfos      SEQUENCE OF OtherPrimeInfo OPTIONAL }
  others ← field (codes "otherPrimeInfos") (optional (IsNext Universal 16) sequence)
  _ ← field (codes "RSAPrivateKey") end_of_content
  done (
    v,
    (
      a.modulus,
      (
        a.public_exponent,
        (
          a.private_exponent,
          (b.prime1, (b.prime2, (b.exponent1, (b.exponent2, (b.coefficient, (others, tt)))))),
        ),
      ),
    ),
  )

abbrev pub rsa_private_key : Format KeyFault RsaValue
rsa_private_key = field (codes "RSAPrivateKey") sequence >>= λ content.
    inside content (requiring HasRsaVersion wrong_version (do
      v ← field (codes "version") version  -- version              Version,
      rsa_exponents (λ a. rsa_primes (λ b. rsa_end v a b))))

abbrev pub whole_rsa_key : Format KeyFault RsaValue
whole_rsa_key = whole (codes "RSAPrivateKey") rsa_private_key

abbrev pub algorithm_of : Algorithm → AlgorithmValue
algorithm_of a = (borrowed_octets a.identifier, (option_map element_of a.parameters, tt))

abbrev pub bits_of : BitStruct → ℕ × List ℕ
bits_of b = (b.unused, b.octets.now)

abbrev pub key_of : KeyStruct → KeyValue
key_of k = (
  pos k.version,
  (
    algorithm_of k.algorithm,
    (
      k.private_key.now,
      (
        option_map octets_left k.attributes,
        (option_map bits_of k.public_key, tt),
      ),
    ),
  ),
)

abbrev pub rsa_exponents_of : ExponentsStruct → RsaExponents
rsa_exponents_of x = record {
  modulus = x.modulus.now;
  public_exponent = x.public_exponent.now;
  private_exponent = x.private_exponent.now;
}

abbrev pub rsa_primes_of : PrimesStruct → RsaPrimes
rsa_primes_of x = record {
  prime1 = x.prime1.now;
  prime2 = x.prime2.now;
  exponent1 = x.exponent1.now;
  exponent2 = x.exponent2.now;
  coefficient = x.coefficient.now;
}

abbrev pub rsa_of : RsaStruct → RsaValue
rsa_of k = (
  pos k.version,
  (
    k.modulus.now,
    (
      k.public_exponent.now,
      (
        k.private_exponent.now,
        (
          k.prime1.now,
          (
            k.prime2.now,
            (
              k.exponent1.now,
              (
                k.exponent2.now,
                (
                  k.coefficient.now,
                  (option_map octets_left k.other_primes, tt),
                ),
              ),
            ),
          ),
        ),
      ),
    ),
  ),
)
