-- A certificate shows one value or one fault.
use Rattle.std.proofs.Common.{◌≡◌, List, [], ℕ, ◌-◌, ◌++◌, length, take, true, Result, sym, ap, subst, ◌∙◌}
use Rattle.der_base.specs.declared.rules.Rules.TheVariants.{Der}
use Rattle.der_base.specs.Numbers.{unsigned}
use Rattle.der_cursor.specs.declared.cursor.Cursor.{Cursor}
use Rattle.der_cursor.specs.Cursors.{StartsAt}
use Rattle.der_cursor.proofs.KindLaws.{bits_one, boolean_one, identifier_one, integer_one, number_one, octets_one, time_one}
use Rattle.x509.specs.declared.certificate.Certificate.{Certificate}
use Rattle.x509.specs.declared.error.CertificateError.{CertificateError}
use Rattle.x509.specs.Certificates.{Algorithm, ReadsCertificate, Signed, Tbs, algorithm_identifier, attribute, certificate, certificate_of, extension, extensions, last_any, name, relative_name}
use Rattle.x509.specs.Certificates.{subject_public_key_info, tbs_certificate, time, validity, version, whole_certificate}
use Rattle.x509.specs.Formats.{spells}
use Rattle.x509.specs.Readers.{ReadsToEnd, field_fault}
use Rattle.x509.proofs.ExactLaws.{read_exactly}
use Rattle.x509.proofs.FormatLaws.{IsExact}
use Rattle.x509.proofs.ReaderLaws.{element_taken}
use Rattle.der_base.specs.declared.header.Class.TheVariants.{Universal}

pub any_exact : IsExact last_any
any_exact = (tt, (tt, λ x. (tt, λ u. tt)))

pub algorithm_exact : IsExact algorithm_identifier
algorithm_exact = (tt, λ c. (identifier_one, λ a. (any_exact, λ p. tt)))

pub key_exact : IsExact subject_public_key_info
key_exact = (tt, λ c. (algorithm_exact, λ a. (bits_one Der, λ k. (tt, λ u. tt))))

pub time_exact : IsExact time
time_exact = ((time_one Der 24, λ t. tt), (time_one Der 23, λ t. tt))

pub validity_exact : IsExact validity
validity_exact = (tt, λ c. (time_exact, λ a. (time_exact, λ b. (tt, λ u. tt))))

pub attribute_exact : IsExact attribute
attribute_exact = (tt, λ c. (identifier_one, λ a. (tt, λ v. (tt, λ u. tt))))

pub relative_name_exact : IsExact relative_name
relative_name_exact = (tt, λ c. ((tt, λ u s. (attribute_exact, λ v. tt)), λ u. tt))

pub name_exact : IsExact name
name_exact = (tt, λ c. ((λ s. (relative_name_exact, λ v. tt)), λ u. tt))

pub extension_exact : IsExact extension
extension_exact = (tt, λ c. (identifier_one, λ a. ((boolean_one Der, tt), λ b. (octets_one, λ v. (tt, λ u. tt)))))

pub extensions_exact : IsExact extensions
extensions_exact = (tt, λ c. ((tt, λ u s. (extension_exact, λ v. tt)), λ u. tt))

version_exact : IsExact version
version_exact = (number_one Der (unsigned 32), λ n. tt)

tbs_exact : IsExact tbs_certificate
tbs_exact = (
  tt,
  λ c. (
    ((tt, λ w. (version_exact, λ v. (tt, λ u. tt))), tt),
    λ v. (
      integer_one Der,
      λ s. (
        algorithm_exact,
        λ a. (
          name_exact,
          λ i. (
            validity_exact,
            λ d. (
              name_exact,
              λ n. (
                key_exact,
                λ k.
                    (((bits_one Der, λ v. tt), tt), λ x. (((bits_one Der, λ v. tt), tt), λ y. (((tt, λ w. (extensions_exact, λ v. (tt, λ u. tt))), tt), λ e. (tt, λ u. tt)))),
              ),
            ),
          ),
        ),
      ),
    ),
  ),
)

certificate_exact : IsExact certificate
certificate_exact = (tt, λ c. (tbs_exact, λ t. (algorithm_exact, λ a. (bits_one Der, λ s. (tt, λ u. tt)))))

pub whole_exact : IsExact whole_certificate
whole_exact = (certificate_exact, λ c. (tt, λ u. tt))

-- what is read from the start of an input, to its end
ended : (i : List ℕ) (v : Signed) (rest : List ℕ) → spells whole_certificate i v rest → rest ≡ []
ended i v rest (c, m, s, (u, m', e, d)) = d.1 ∙ e.1 ∙ e.0

pub read_from_start : (i : List ℕ) (c : Cursor) (result : Result Certificate CertificateError) → StartsAt Der i c → ReadsToEnd field_fault certificate_of whole_certificate c result
    → ReadsCertificate i result
read_from_start i c result s a = read_exactly field_fault certificate_of whole_certificate whole_exact ended i c result s a

-- the octets of a TBSCertificate are those before what follows it
pub tbs_taken : (i : List ℕ) (v : Tbs) (rest : List ℕ) → spells tbs_certificate i v rest → i ≡ take (length i - length rest) i ++ rest
tbs_taken i v rest s = subst (λ z. i ≡ take (length i - length z) i ++ z) (sym s.3.1) (element_taken Universal true 16 i s.0 s.1 s.2)

abbrev signed : Tbs → Algorithm → ℕ × List ℕ → List ℕ → Signed
signed c a s t = record { tbs = t; tbs_certificate = c; algorithm = a; signature = s }

pub tbs_same : (c : Tbs) (a : Algorithm) (s : ℕ × List ℕ) (i j k l : List ℕ) → i ≡ k → j ≡ l → signed c a s (take (length i - length j) i) ≡ signed c a s (take (length k - length l) k)
tbs_same c a s i j k l p q = ap (λ x. signed c a s (take (length x - length j) x)) p ∙ ap (λ y. signed c a s (take (length k - length y) k)) q
