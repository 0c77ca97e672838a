-- Keys show one value or one fault; the versions of keys.
use Rattle.std.proofs.Common.{◌≡◌, ◌≢◌, ℕ, pos, Bool, Option, Some, None, refl, sym, ap, ◌∙◌, arith}
use Rattle.std.specs.Prelude.{is_some}
use Rattle.std.specs.Option.{option_map}
use Rattle.std.proofs.lemmas.Int.{ints}
use Rattle.der_base.specs.declared.rules.Rules.TheVariants.{Der}
use Rattle.der_base.specs.Numbers.{unsigned}
use Rattle.der_cursor.proofs.KindLaws.{bits_one, identifier_one, integer_one, number_one, octets_one}
use Rattle.x509.proofs.FormatLaws.{IsExact}
use Rattle.x509_keys.specs.Keys.{algorithm_identifier, private_key_info, rsa_private_key, version_with}
use Rattle.x509_keys.specs.OtherKeys.{ec_private_key, encrypted_private_key_info, rsa_public_key, subject_public_key_info}

algorithm_exact : IsExact algorithm_identifier
algorithm_exact = (tt, λ c. (identifier_one, λ a. (((tt, λ v. tt), tt), λ p. (tt, λ u. tt))))

pub key_exact : IsExact private_key_info
key_exact = (tt, λ c. (number_one Der (unsigned 32), λ v. (algorithm_exact, λ a. (octets_one, λ k. (((tt, λ v. tt), tt), λ t. (((bits_one Der, λ v. tt), tt), λ p. (tt, λ u. tt)))))))

pub rsa_exact : IsExact rsa_private_key
rsa_exact =
    let one = integer_one Der in
    (tt, λ c. (number_one Der (unsigned 32), λ v. (one, λ n. (one, λ e. (one, λ d. (one, λ p. (one, λ q. (one, λ x. (one, λ y. (one, λ c. (((tt, λ v. tt), tt), λ o. (tt, λ u. tt))))))))))))

pub encrypted_exact : IsExact encrypted_private_key_info
encrypted_exact = (tt, λ c. (algorithm_exact, λ a. (octets_one, λ d. (tt, λ u. tt))))

pub ec_exact : IsExact ec_private_key
ec_exact = (tt, λ c. (number_one Der (unsigned 32), λ v. (octets_one, λ k. ((((tt, λ w. (tt, λ v. (tt, λ u. tt))), λ v. tt), tt), λ p. ((((tt, λ w. (bits_one Der, λ v. (tt, λ u. tt))), λ v. tt), tt), λ b. (tt, λ u. tt))))))

pub public_exact : IsExact subject_public_key_info
public_exact = (tt, λ c. (algorithm_exact, λ a. (bits_one Der, λ k. (tt, λ u. tt))))

pub rsa_public_exact : IsExact rsa_public_key
rsa_public_exact = (tt, λ c. (integer_one Der, λ n. (integer_one Der, λ e. (tt, λ u. tt))))

-- a part is there where its view is
part : {A B : Type 0} (f : A → B) (x : Option A) → is_some (option_map f x) ≡ is_some x
part f None = refl
part f (Some a) = refl

module _ {A B : Type 0} (f : A → B) (x : Option A) {m : ℕ} {b : Bool} (is : b ≡ is_some x) (with : m ≡ version_with b) where
  with_part : version_with (is_some (option_map f x)) ≡ m
  with_part = ap version_with (part f x ∙ sym is) ∙ sym with

  pub has_version : {n : ℕ} → n ≡ m → pos n ≡ pos (version_with (is_some (option_map f x)))
  has_version q = ap pos (q ∙ sym with_part)

  pub no_version : {n : ℕ} → n ≢ m → pos n ≡ pos (version_with (is_some (option_map f x))) → ⊥
  no_version {n = n} q h = let e : pos n ≡ pos m = h ∙ ap pos with_part in q (omega (arith, ints, e))
