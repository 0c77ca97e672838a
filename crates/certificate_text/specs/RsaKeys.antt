-- The texts of keys of RSA (RFC 8017 A.1), without their secret numbers.
use Rattle.std.specs.Prelude.{ℕ, ◌+◌, ◌-◌, ◌*◌, Bool, true, false, is_some, List, [], ◌∷◌, ◌++◌, codes, decimal, length}
use Rattle.std.specs.Int.{leading_zeros, w8}
use Rattle.der_print.specs.declared.style.Limit.TheVariants.{Whole}
use Rattle.der_print.specs.Values.{number_text, without_leading_zero}
use Rattle.x509_keys.specs.declared.rsa.RsaPrivateKey.{RsaPrivateKey}

-- how many bits octets have from the highest 1 of the first on
abbrev pub bits_of : List ℕ → ℕ
bits_of [] = 0
bits_of (b ∷ w) = (8 - leading_zeros w8 b) + 8 * length w

-- how many bits a number above 0 has, by its content octets, of which one that is 0 may be in front (X.690 8.3.2)
abbrev pub size_of : List ℕ → ℕ
size_of w = bits_of (without_leading_zero w)

abbrev pub size_text : List ℕ → List ℕ
size_text w = codes "  Size: " ++ decimal (size_of w) ++ codes " bits\n"

-- the modulus and the public exponent
abbrev pub public_numbers_text : List ℕ → List ℕ → List ℕ
public_numbers_text n e = size_text n
    ++ codes "  Modulus: " ++ number_text Whole n ++ codes "\n  Public exponent: " ++ number_text Whole e ++ codes "\n"

-- whether the modulus has primes beyond two
abbrev pub primes_text : Bool → List ℕ
primes_text true = codes "  Primes: more than 2\n"
primes_text false = codes "  Primes: 2\n"

abbrev pub private_numbers_text : RsaPrivateKey → List ℕ
private_numbers_text k =
    public_numbers_text k.modulus.now k.public_exponent.now ++ primes_text (is_some k.other_primes)

abbrev pub rsa_key_text : RsaPrivateKey → List ℕ
rsa_key_text k = codes "RSA private key (PKCS #1):\n" ++ private_numbers_text k
