-- Private keys as C sees them.
use Rattle.std.specs.Prelude.{◌≡◌, is_some, []}
use Rattle.std.specs.Option.{option_map, unwrap_or}
use Rattle.der_cursor.specs.declared.named.FieldError.{FieldError}
use Rattle.der_cursor.specs.Cursors.{octets_left}
use Rattle.der_cursor.specs.Elements.{element_of}
use Rattle.der_cursor.specs.Named.{names_of}
use Rattle.der_values.specs.Kinds.{borrowed_octets}
use Rattle.x509.specs.Certificates.{bits_of}
use Rattle.c_values.specs.declared.fault.DmFault.{DmFault}
use Rattle.c_values.specs.AnyElements.{HasAnyOrNone}
use Rattle.c_values.specs.Parts.{bits_in, bits_numbers}
use Rattle.c_values.specs.Elements.{bit}
use Rattle.c_values.specs.Faults.{field_fault}
use Rattle.c_formats.specs.declared.key.DmPrivateKey.{DmPrivateKey}
use Rattle.c_formats.specs.declared.key.DmRsaPrivateKey.{DmRsaPrivateKey}
use Rattle.c_formats.specs.FieldNumbers.{key_field_number, only_name, rsa_field_number}
use Rattle.x509_keys.specs.declared.key.PrivateKeyInfo.{PrivateKeyInfo}
use Rattle.x509_keys.specs.declared.rsa.RsaPrivateKey.{RsaPrivateKey}

-- the fields are those of the key (RFC 5958 2); a part that is absent has no octets
pub record HasKey (k : PrivateKeyInfo) (d : DmPrivateKey) : Type 0 where
  pub version : d.version ≡ k.version
  pub algorithm : d.algorithm.now ≡ borrowed_octets k.algorithm.identifier
  pub parameters : HasAnyOrNone (option_map element_of k.algorithm.parameters) d.parameters
  pub has_parameters : d.has_parameters ≡ bit (is_some k.algorithm.parameters)
  pub private_key : d.private_key.now ≡ k.private_key.now
  pub attributes : d.attributes.now ≡ unwrap_or (option_map octets_left k.attributes) []
  pub has_attributes : d.has_attributes ≡ bit (is_some k.attributes)
  pub public_key : bits_in d.public_key ≡ bits_numbers (option_map bits_of k.public_key)
  pub reserved : d.reserved ≡ 0

abbrev pub IsKey : PrivateKeyInfo → DmPrivateKey → Type 0
IsKey k d = HasKey k d

abbrev pub key_fault : FieldError → DmFault
key_fault e = field_fault (key_field_number (only_name (names_of e))) e.refusal

-- the numbers are those of the key (RFC 8017 A.1.2)
pub record HasRsaKey (k : RsaPrivateKey) (d : DmRsaPrivateKey) : Type 0 where
  pub version : d.version ≡ k.version
  pub modulus : d.modulus.now ≡ k.modulus.now
  pub public_exponent : d.public_exponent.now ≡ k.public_exponent.now
  pub private_exponent : d.private_exponent.now ≡ k.private_exponent.now
  pub prime1 : d.prime1.now ≡ k.prime1.now
  pub prime2 : d.prime2.now ≡ k.prime2.now
  pub exponent1 : d.exponent1.now ≡ k.exponent1.now
  pub exponent2 : d.exponent2.now ≡ k.exponent2.now
  pub coefficient : d.coefficient.now ≡ k.coefficient.now
  pub other_primes : d.other_primes.now ≡ unwrap_or (option_map octets_left k.other_primes) []
  pub has_other_primes : d.has_other_primes ≡ bit (is_some k.other_primes)

abbrev pub IsRsaKey : RsaPrivateKey → DmRsaPrivateKey → Type 0
IsRsaKey k d = HasRsaKey k d

abbrev pub rsa_fault : FieldError → DmFault
rsa_fault e = field_fault (rsa_field_number (only_name (names_of e))) e.refusal
