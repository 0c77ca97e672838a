-- The texts of public keys (RFC 5280 4.1.2.7).
use Rattle.std.specs.Prelude.{◌≡◌, ◌≢◌, ℕ, Some, None, List, ◌++◌, codes}
use Rattle.der_print.specs.declared.style.Limit.TheVariants.{Whole}
use Rattle.der_print.specs.Values.{hex_text}
use Rattle.x509_keys.specs.declared.public.SubjectPublicKeyInfo.{SubjectPublicKeyInfo}
use Rattle.x509_keys.specs.OtherKeys.{whole_rsa_public_key}
use Rattle.certificate_text.specs.declared.public_key.PublicInside.{PublicInside}
use Rattle.certificate_text.specs.declared.public_key.PublicInside.TheVariants.{Rsa, Other}
use Rattle.certificate_text.specs.declared.public_key.PublicKeyText.{PublicKeyText}
use Rattle.certificate_text.specs.Algorithms.{IsAlgorithm, algorithm_text}
use Rattle.certificate_text.specs.PrivateKeys.{Finds, rsa_encryption}
use Rattle.certificate_text.specs.RsaKeys.{public_numbers_text}

-- the key of RSA that octets are, or the octets
abbrev pub IsRsaPublic : List ℕ → PublicInside → Type 0
IsRsaPublic w (Rsa k) = Finds whole_rsa_public_key w (Some (k.modulus.now, (k.exponent.now, tt)))
IsRsaPublic w (Other v) = Finds whole_rsa_public_key w None × (v.now ≡ w)

-- octets that aren't looked into
abbrev pub AreOctets : List ℕ → PublicInside → Type 0
AreOctets w (Rsa k) = ⊥
AreOctets w (Other v) = v.now ≡ w

-- what the bits of a public key are, by the identifier of its algorithm
pub record IsPublicInside (a w : List ℕ) (x : PublicInside) : Type 0 where
  pub rsa : a ≡ rsa_encryption → IsRsaPublic w x
  pub other : a ≢ rsa_encryption → AreOctets w x

abbrev pub public_inside_text : PublicInside → List ℕ
public_inside_text (Rsa k) = public_numbers_text k.modulus.now k.exponent.now
public_inside_text (Other w) = codes "  Public key: " ++ hex_text Whole w.now ++ codes "\n"

-- the fields of the key are these
pub record IsPublicKey (k : SubjectPublicKeyInfo) (x : PublicKeyText) : Type 0 where
  pub algorithm : IsAlgorithm k.algorithm x.algorithm
  pub inside : IsPublicInside k.algorithm.identifier.octets.now k.public_key.octets.now x.inside

abbrev pub public_key_text : PublicKeyText → List ℕ
public_key_text x = codes "Public key:\n" ++ algorithm_text x.algorithm ++ public_inside_text x.inside
