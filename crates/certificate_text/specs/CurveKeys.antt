-- The texts of keys of elliptic curves (SEC 1 C.4, RFC 5915), without their secret numbers.
use Rattle.std.specs.Prelude.{◌≡◌, ℕ, Option, Some, None, List, [], ◌++◌, codes, length}
use Rattle.std.specs.Option.{option_copied, option_map}
use Rattle.der_cursor.specs.Formats.{element_of}
use Rattle.der_print.specs.declared.style.Limit.TheVariants.{Whole}
use Rattle.der_print.specs.Values.{hex_text}
use Rattle.x509_keys.specs.declared.curve.EcPrivateKey.{EcPrivateKey}
use Rattle.x509_keys.specs.Keys.{bits_of}
use Rattle.certificate_text.specs.declared.curve_key.CurveFields.{CurveFields}
use Rattle.certificate_text.specs.declared.curve_key.EcKeyText.{EcKeyText}
use Rattle.certificate_text.specs.Algorithms.{IsParameters, parameters_text}
use Rattle.type_words.specs.Texts.{count_text}

-- the octets of bits
abbrev pub key_octets : Option (ℕ × List ℕ) → Option (List ℕ)
key_octets bits = option_map (λ b. b.1) bits

-- the key has this curve, so many octets, and this public key
pub record IsCurveKey (k : EcPrivateKey) (x : CurveFields) : Type 0 where
  pub parameters : IsParameters (option_map element_of k.parameters) x.parameters
  pub size : x.size ≡ length k.private_key.now
  pub public_key : option_copied x.public_key ≡ key_octets (option_map bits_of k.public_key)

-- the line of a public key
abbrev pub public_text : Option (List ℕ) → List ℕ
public_text (Some w) = codes "  Public key: " ++ hex_text Whole w ++ codes "\n"
public_text None = []

abbrev pub curve_fields_text : CurveFields → List ℕ
curve_fields_text x = parameters_text x.parameters ++ codes "  Private key: " ++ count_text x.size ++ codes "\n"
    ++ public_text (option_copied x.public_key)

abbrev pub ec_key_text : EcKeyText → List ℕ
ec_key_text x = codes "EC private key (SEC 1):\n" ++ curve_fields_text x.fields
