-- A list shows one value or one fault; laws of its fields.
use Rattle.std.proofs.Common.{◌≡◌, ◌≢◌, Bool, List, [], ℕ, ◌-◌, ◌++◌, length, take, true, Result, Ok, refl, sym, ap, subst, ◌∙◌}
use Rattle.std.specs.Prelude.{pos}
use Rattle.der_base.specs.declared.error.Error.{Error as BerError}
use Rattle.der_base.specs.declared.header.Class.TheVariants.{Universal}
use Rattle.der_base.specs.declared.rules.Rules.TheVariants.{Der}
use Rattle.der_base.specs.Numbers.{unsigned}
use Rattle.der_cursor.specs.declared.cursor.Cursor.{Cursor}
use Rattle.der_cursor.specs.declared.error.ReadError.{ReadError}
use Rattle.der_cursor.specs.Cursors.{OpensType, StartsAt, octets_left}
use Rattle.der_cursor.proofs.KindLaws.{bits_one, integer_one, number_one}
use Rattle.x509.specs.declared.crl.list.CertificateList.{CertificateList}
use Rattle.x509.specs.declared.crl.error.Field.{Field}
use Rattle.x509.specs.declared.crl.error.CertificateListError.{CertificateListError}
use Rattle.x509.specs.Crl.Lists.{FieldFault, Signed, Tbs, certificate_list, certificate_list_of, entry_extensions, field_fault, list_refusal, next_update}
use Rattle.x509.specs.Crl.Lists.{optional_revoked, revoked_certificate, revoked_certificates, second_version, tbs_cert_list, version, whole_list}
use Rattle.x509.specs.Certificates.{Algorithm}
use Rattle.x509.specs.Formats.{Fault, Format, ◌>>=◌, element, named, spells}
use Rattle.x509.specs.Readers.{IsShorter, NamesBy, ReadsBy, ReadsExactly, ReadsToEnd, fault_of}
use Rattle.x509.proofs.CertificateLaws.{algorithm_exact, extensions_exact, name_exact, time_exact}
use Rattle.x509.proofs.ExactLaws.{read_exactly}
use Rattle.x509.proofs.FormatLaws.{IsExact}
use Rattle.x509.proofs.ReaderLaws.{IsContent, element_taken, named_by, opened_by, shorter_by}

second_exact : IsExact second_version
second_exact = (number_one Der (unsigned 32), λ n. tt)

version_exact : IsExact version
version_exact = (second_exact, tt)

next_exact : IsExact next_update
next_exact = ((time_exact, λ t. tt), tt)

entry_extensions_exact : IsExact entry_extensions
entry_extensions_exact = (extensions_exact, tt)

pub revoked_exact : IsExact revoked_certificate
revoked_exact = (tt, λ c. (integer_one Der, λ n. (time_exact, λ t. (entry_extensions_exact, λ e. (tt, λ u. tt)))))

entries_exact : IsExact revoked_certificates
entries_exact = (tt, λ c. ((λ s. (revoked_exact, λ v. tt)), λ u. tt))

optional_exact : IsExact optional_revoked
optional_exact = ((entries_exact, λ r. tt), tt)

tbs_exact : IsExact tbs_cert_list
tbs_exact = (
  tt,
  λ c. (
    version_exact,
    λ v. (
      algorithm_exact,
      λ a. (name_exact, λ i. (time_exact, λ t. (next_exact, λ n. (optional_exact, λ r. (((tt, λ w. (extensions_exact, λ v. (tt, λ u. tt))), tt), λ e. (tt, λ u. tt)))))),
    ),
  ),
)

list_exact : IsExact certificate_list
list_exact = (tt, λ c. (tbs_exact, λ t. (algorithm_exact, λ a. (bits_one Der, λ s. (tt, λ u. tt)))))

whole_exact : IsExact whole_list
whole_exact = (list_exact, λ l. (tt, λ u. tt))

-- what is read from the start of an input, to its end
ended : (i : List ℕ) (v : Signed) (rest : List ℕ) → spells whole_list i v rest → rest ≡ []
ended i v rest (c, m, s, (u, m', e, d)) = d.1 ∙ e.1 ∙ e.0

pub read_from_start : (i : List ℕ) (c : Cursor) (result : Result CertificateList CertificateListError) → StartsAt Der i c → ReadsToEnd field_fault certificate_list_of whole_list c result
    → ReadsExactly field_fault certificate_list_of whole_list i result
read_from_start i c result s a = read_exactly field_fault certificate_list_of whole_list whole_exact ended i c result s a

-- the fields of a list
pub named_read : {T V : Type 0} {view : T → V} {f : Format Fault V} {old new : Cursor} (n : Field) (found : Result T (ReadError BerError)) {result : Result T CertificateListError}
    → NamesBy list_refusal n found result → ReadsBy fault_of view f old found new → ReadsBy field_fault view (named n f) old result new
named_read n found e a = named_by field_fault list_refusal (λ n e. refl) n found e a

pub opened_field : (n : Field) (p : Bool) (t : ℕ) {T V : Type 0} {view : T → V} {k : List ℕ → Format FieldFault V} {old inner mid new : Cursor} {result : Result T CertificateListError}
    (found : Result Cursor (ReadError BerError)) → NamesBy list_refusal n found (Ok inner) → OpensType p t old found mid
    → (IsContent inner mid → ReadsBy field_fault view (k (octets_left inner)) mid result new)
    → ReadsBy field_fault view (named n (element Universal p t) >>= k) old result new
opened_field n p t found e o a = opened_by field_fault list_refusal (λ n e. refl) n p t found e o a

pub shorter_field : (n : Field) (p : Bool) (t : ℕ) (inner : Cursor) {old mid : Cursor} (found : Result Cursor (ReadError BerError)) → NamesBy list_refusal n found (Ok inner) → OpensType p t old found mid → IsShorter old mid
shorter_field n p t inner found e o = shorter_by field_fault list_refusal (λ n e. refl) n p t inner found e o

pub not_second : (n : ℕ) → n ≢ 1 → pos n ≢ pos 1
not_second n a e = let q : n ≡ 1 = cc in a q

-- the octets of a TBSCertList are those before what follows it
pub tbs_taken : (i : List ℕ) (v : Tbs) (rest : List ℕ) → spells tbs_cert_list i v rest → i ≡ take (length i - length rest) i ++ rest
tbs_taken i v rest s = subst (λ z. i ≡ take (length i - length z) i ++ z) (sym s.3.1) (element_taken Universal true 16 i s.0 s.1 s.2)

abbrev signed : Tbs → Algorithm → ℕ × List ℕ → List ℕ → Signed
signed x a s o = record { tbs = o; tbs_cert_list = x; algorithm = a; signature = s }

pub tbs_same : (x : Tbs) (a : Algorithm) (s : ℕ × List ℕ) (i j k l : List ℕ) → i ≡ k → j ≡ l → signed x a s (take (length i - length j) i) ≡ signed x a s (take (length k - length l) k)
tbs_same x a s i j k l p q = ap (λ z. signed x a s (take (length z - length j) z)) p ∙ ap (λ y. signed x a s (take (length k - length y) k)) q
