-- The texts of algorithms (RFC 5280 4.1.1.2), and of encrypted keys.
use Rattle.std.specs.Prelude.{◌≡◌, ℕ, ◌==◌, ◌&&◌, not, Bool, true, false, if◌then◌else◌, Option, Some, None}
use Rattle.std.specs.Prelude.{List, [], ◌++◌, codes, length}
use Rattle.std.specs.Option.{option_map}
use Rattle.der_base.specs.declared.header.Class.{Class}
use Rattle.der_base.specs.declared.header.Class.TheVariants.{Universal}
use Rattle.der_cursor.specs.Formats.{Element, element_of}
use Rattle.x509_keys.specs.declared.encrypted.EncryptedPrivateKeyInfo.{EncryptedPrivateKeyInfo}
use Rattle.x509_keys.specs.declared.key.Algorithm.{Algorithm}
use Rattle.certificate_text.specs.declared.algorithm.AlgorithmText.{AlgorithmText}
use Rattle.certificate_text.specs.declared.algorithm.EncryptedKeyText.{EncryptedKeyText}
use Rattle.certificate_text.specs.declared.algorithm.ParametersText.{ParametersText}
use Rattle.certificate_text.specs.declared.algorithm.ParametersText.TheVariants.{Absent, Curve, Other}
use Rattle.certificate_text.specs.Words.{IsNamed, named_text}
use Rattle.type_words.specs.Texts.{count_text}

abbrev pub is_universal : Class → Bool
is_universal Universal = true
is_universal c = false

-- an element that is an OBJECT IDENTIFIER
abbrev pub is_identifier : Element → Bool
is_identifier e = is_universal e.0 && not e.1 && e.2 == 6

-- the parameters of an algorithm are these: a curve by its identifier, or another element, of so many octets
abbrev pub IsParameters : Option Element → ParametersText → Type 0
IsParameters None x = x ≡ Absent
IsParameters (Some e) Absent = ⊥
IsParameters (Some e) (Curve n) = (is_identifier e ≡ true) × IsNamed e.3 n
IsParameters (Some e) (Other n) = (is_identifier e ≡ false) × (n ≡ length e.3)

-- their line; other parameters without octets, as NULL, have none
abbrev pub parameters_text : ParametersText → List ℕ
parameters_text Absent = []
parameters_text (Curve n) = codes "  Curve: " ++ named_text n ++ codes "\n"
parameters_text (Other n) = if n == 0 then [] else codes "  Parameters: " ++ count_text n ++ codes "\n"

-- the algorithm is this one
pub record IsAlgorithm (a : Algorithm) (x : AlgorithmText) : Type 0 where
  pub identifier : IsNamed a.identifier.octets.now x.identifier
  pub parameters : IsParameters (option_map element_of a.parameters) x.parameters

abbrev pub algorithm_text : AlgorithmText → List ℕ
algorithm_text x = codes "  Algorithm: " ++ named_text x.identifier ++ codes "\n" ++ parameters_text x.parameters

-- the encrypted key has this algorithm and so many octets
pub record IsEncrypted (k : EncryptedPrivateKeyInfo) (x : EncryptedKeyText) : Type 0 where
  pub algorithm : IsAlgorithm k.algorithm x.algorithm
  pub size : x.size ≡ length k.encrypted_data.now

abbrev pub encrypted_text : EncryptedKeyText → List ℕ
encrypted_text x = codes "Encrypted private key (PKCS #8):\n" ++ algorithm_text x.algorithm
    ++ codes "  Encrypted data: " ++ count_text x.size ++ codes "\n"
