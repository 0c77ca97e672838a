-- Keys beside those of PKCS #8, as C sees them.
use Rattle.std.specs.Prelude.{◌≡◌, Some, is_some}
use Rattle.std.specs.Option.{option_map}
use Rattle.der_cursor.specs.declared.named.FieldError.{FieldError}
use Rattle.der_cursor.specs.Elements.{element_of}
use Rattle.der_cursor.specs.Named.{names_of}
use Rattle.der_values.specs.Kinds.{borrowed_octets}
use Rattle.x509.specs.Certificates.{bits_of}
use Rattle.c_values.specs.declared.fault.DmFault.{DmFault}
use Rattle.c_values.specs.AnyElements.{HasAnyOrNone}
use Rattle.c_values.specs.Parts.{bits_in, bits_numbers}
use Rattle.c_values.specs.Elements.{bit}
use Rattle.c_values.specs.Faults.{field_fault}
use Rattle.c_formats.specs.declared.other_keys.DmEcPrivateKey.{DmEcPrivateKey}
use Rattle.c_formats.specs.declared.other_keys.DmEncryptedPrivateKey.{DmEncryptedPrivateKey}
use Rattle.c_formats.specs.declared.other_keys.DmPublicKey.{DmPublicKey}
use Rattle.c_formats.specs.declared.other_keys.DmRsaPublicKey.{DmRsaPublicKey}
use Rattle.c_formats.specs.FieldNumbers.{ec_field_number, encrypted_field_number, only_name, public_field_number}
use Rattle.c_formats.specs.FieldNumbers.{rsa_public_field_number}
use Rattle.x509_keys.specs.declared.curve.EcPrivateKey.{EcPrivateKey}
use Rattle.x509_keys.specs.declared.encrypted.EncryptedPrivateKeyInfo.{EncryptedPrivateKeyInfo}
use Rattle.x509_keys.specs.declared.public.RsaPublicKey.{RsaPublicKey}
use Rattle.x509_keys.specs.declared.public.SubjectPublicKeyInfo.{SubjectPublicKeyInfo}

-- the fields are those of the key (RFC 5915 3)
pub record HasEcKey (k : EcPrivateKey) (d : DmEcPrivateKey) : Type 0 where
  pub version : d.version ≡ k.version
  pub private_key : d.private_key.now ≡ k.private_key.now
  pub parameters : HasAnyOrNone (option_map element_of k.parameters) d.parameters
  pub has_parameters : d.has_parameters ≡ bit (is_some k.parameters)
  pub public_key : bits_in d.public_key ≡ bits_numbers (option_map bits_of k.public_key)

abbrev pub IsEcKey : EcPrivateKey → DmEcPrivateKey → Type 0
IsEcKey k d = HasEcKey k d

abbrev pub ec_fault : FieldError → DmFault
ec_fault e = field_fault (ec_field_number (only_name (names_of e))) e.refusal

-- of the encrypted key (RFC 5958 3)
pub record HasEncryptedKey (k : EncryptedPrivateKeyInfo) (d : DmEncryptedPrivateKey) : Type 0 where
  pub algorithm : d.algorithm.now ≡ borrowed_octets k.algorithm.identifier
  pub parameters : HasAnyOrNone (option_map element_of k.algorithm.parameters) d.parameters
  pub has_parameters : d.has_parameters ≡ bit (is_some k.algorithm.parameters)
  pub encrypted_data : d.encrypted_data.now ≡ k.encrypted_data.now
  pub reserved : d.reserved ≡ 0

abbrev pub IsEncryptedKey : EncryptedPrivateKeyInfo → DmEncryptedPrivateKey → Type 0
IsEncryptedKey k d = HasEncryptedKey k d

abbrev pub encrypted_fault : FieldError → DmFault
encrypted_fault e = field_fault (encrypted_field_number (only_name (names_of e))) e.refusal

-- of the public key (RFC 5280 4.1.2.7)
pub record HasPublicKey (k : SubjectPublicKeyInfo) (d : DmPublicKey) : Type 0 where
  pub algorithm : d.algorithm.now ≡ borrowed_octets k.algorithm.identifier
  pub parameters : HasAnyOrNone (option_map element_of k.algorithm.parameters) d.parameters
  pub has_parameters : d.has_parameters ≡ bit (is_some k.algorithm.parameters)
  pub public_key : bits_in d.public_key ≡ bits_numbers (Some (bits_of k.public_key))
  pub reserved : d.reserved ≡ 0

abbrev pub IsPublicKey : SubjectPublicKeyInfo → DmPublicKey → Type 0
IsPublicKey k d = HasPublicKey k d

abbrev pub public_fault : FieldError → DmFault
public_fault e = field_fault (public_field_number (only_name (names_of e))) e.refusal

-- of the key of RSA (RFC 8017 A.1.1)
pub record HasRsaPublicKey (k : RsaPublicKey) (d : DmRsaPublicKey) : Type 0 where
  pub modulus : d.modulus.now ≡ k.modulus.now
  pub public_exponent : d.public_exponent.now ≡ k.public_exponent.now

abbrev pub IsRsaPublicKey : RsaPublicKey → DmRsaPublicKey → Type 0
IsRsaPublicKey k d = HasRsaPublicKey k d

abbrev pub rsa_public_fault : FieldError → DmFault
rsa_public_fault e = field_fault (rsa_public_field_number (only_name (names_of e))) e.refusal
