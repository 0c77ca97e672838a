-- A request shows one value or one fault; laws of its fields.
use Rattle.std.proofs.Common.{◌≡◌, ◌≢◌, Bool, List, [], ℕ, ◌-◌, ◌++◌, length, take, true, Result, Ok, Err, refl, sym, ap, subst, ◌∙◌}
use Rattle.std.specs.Prelude.{OnOk, pos}
use Rattle.der_base.specs.declared.any.Any.{Any}
use Rattle.der_base.specs.declared.error.Error.{Error as BerError}
use Rattle.der_base.specs.declared.header.Class.TheVariants.{Universal}
use Rattle.der_base.specs.declared.rules.Rules.TheVariants.{Der}
use Rattle.der_base.specs.Numbers.{unsigned}
use Rattle.der_cursor.specs.declared.cursor.Cursor.{Cursor}
use Rattle.der_cursor.specs.declared.error.ReadError.{ReadError}
use Rattle.der_cursor.specs.Cursors.{OpensType, ReadsAnyAt, StartsAt, octets_left}
use Rattle.der_cursor.specs.Elements.{Element, element_of}
use Rattle.der_cursor.proofs.KindLaws.{bits_one, identifier_one, number_one}
use Rattle.x509_keys.specs.declared.request.error.Field.{Field}
use Rattle.x509_keys.specs.declared.request.error.CertificationRequestError.{CertificationRequestError}
use Rattle.x509_keys.specs.declared.request.CertificationRequest.{CertificationRequest}
use Rattle.x509_keys.specs.Request.Requests.{FieldFault, Info, Signed, attribute, attributes, challenge_password, extension_request, field_fault, request, request_info}
use Rattle.x509_keys.specs.Request.Requests.{request_of, request_refusal, values, version, whole_request}
use Rattle.x509.specs.Certificates.{Algorithm}
use Rattle.x509.specs.declared.extension.Extensions.{Extensions}
use Rattle.x509.specs.Formats.{Fault, Format, any, ◌>>=◌, element, named, spells}
use Rattle.x509.specs.Readers.{IsShorter, NamesBy, ReadsBy, ReadsExactly, ReadsToEnd, fault_of}
use Rattle.x509.proofs.CertificateLaws.{algorithm_exact, extensions_exact, key_exact, name_exact}
use Rattle.x509.proofs.ExactLaws.{read_exactly}
use Rattle.x509.proofs.FormatLaws.{IsExact}
use Rattle.x509.proofs.ReaderLaws.{IsContent, any_shorter, element_taken, named_by, opened_by, shorter_by}

pub any_exact : IsExact any
any_exact = tt

values_exact : IsExact values
values_exact = (tt, λ c. ((tt, λ u s. (tt, λ v. tt)), λ u. tt))

pub attribute_exact : IsExact attribute
attribute_exact = (tt, λ c. (identifier_one, λ a. (values_exact, λ v. (tt, λ u. tt))))

attributes_exact : IsExact attributes
attributes_exact = (tt, λ c. ((λ s. (attribute_exact, λ v. tt)), λ u. tt))

version_exact : IsExact version
version_exact = (number_one Der (unsigned 32), λ n. tt)

info_exact : IsExact request_info
info_exact = (tt, λ c. (version_exact, λ v. (name_exact, λ s. (key_exact, λ k. (attributes_exact, λ a. (tt, λ u. tt))))))

request_exact : IsExact request
request_exact = (tt, λ c. (info_exact, λ i. (algorithm_exact, λ a. (bits_one Der, λ s. (tt, λ u. tt)))))

whole_exact : IsExact whole_request
whole_exact = (request_exact, λ r. (tt, λ u. tt))

extension_request_exact : IsExact extension_request
extension_request_exact = (extensions_exact, λ e. (tt, λ u. tt))

-- what is read from the start of an input, to its end
ended : (i : List ℕ) (v : Signed) (rest : List ℕ) → spells whole_request i v rest → rest ≡ []
ended i v rest (c, m, s, (u, m', e, d)) = d.1 ∙ e.1 ∙ e.0

pub read_from_start : (i : List ℕ) (c : Cursor) (result : Result CertificationRequest CertificationRequestError) → StartsAt Der i c → ReadsToEnd field_fault request_of whole_request c result
    → ReadsExactly field_fault request_of whole_request i result
read_from_start i c result s a = read_exactly field_fault request_of whole_request whole_exact ended i c result s a

extensions_ended : (i : List ℕ) (v : List ℕ) (rest : List ℕ) → spells extension_request i v rest → rest ≡ []
extensions_ended i v rest (c, m, s, (u, m', e, d)) = d.1 ∙ e.1 ∙ e.0

pub extensions_from_start : (i : List ℕ) (c : Cursor) (result : Result Extensions (ReadError BerError)) → StartsAt Der i c → ReadsToEnd fault_of (λ e. e.octets.now) extension_request c result
    → ReadsExactly fault_of (λ e. e.octets.now) extension_request i result
extensions_from_start i c result s a = read_exactly fault_of (λ e. e.octets.now) extension_request extension_request_exact extensions_ended i c result s a

challenge_password_exact : IsExact challenge_password
challenge_password_exact = (tt, λ e. (tt, λ u. tt))

password_ended : (i : List ℕ) (v : Element) (rest : List ℕ) → spells challenge_password i v rest → rest ≡ []
password_ended i v rest (c, m, s, (u, m', e, d)) = d.1 ∙ e.1 ∙ e.0

pub password_from_start : (i : List ℕ) (c : Cursor) (result : Result Any (ReadError BerError)) → StartsAt Der i c → ReadsToEnd fault_of element_of challenge_password c result
    → ReadsExactly fault_of element_of challenge_password i result
password_from_start i c result s a = read_exactly fault_of element_of challenge_password challenge_password_exact password_ended i c result s a

-- the fields of a request
pub named_read : {T V : Type 0} {view : T → V} {f : Format Fault V} {old new : Cursor} (n : Field) (found : Result T (ReadError BerError)) {result : Result T CertificationRequestError}
    → NamesBy request_refusal n found result → ReadsBy fault_of view f old found new → ReadsBy field_fault view (named n f) old result new
named_read n found e a = named_by field_fault request_refusal (λ n e. refl) n found e a

pub opened_field : (n : Field) (p : Bool) (t : ℕ) {T V : Type 0} {view : T → V} {k : List ℕ → Format FieldFault V} {old inner mid new : Cursor} {result : Result T CertificationRequestError}
    (found : Result Cursor (ReadError BerError)) → NamesBy request_refusal n found (Ok inner) → OpensType p t old found mid
    → (IsContent inner mid → ReadsBy field_fault view (k (octets_left inner)) mid result new)
    → ReadsBy field_fault view (named n (element Universal p t) >>= k) old result new
opened_field n p t found e o a = opened_by field_fault request_refusal (λ n e. refl) n p t found e o a

pub shorter_field : (n : Field) (p : Bool) (t : ℕ) (inner : Cursor) {old mid : Cursor} (found : Result Cursor (ReadError BerError)) → NamesBy request_refusal n found (Ok inner) → OpensType p t old found mid → IsShorter old mid
shorter_field n p t inner found e o = shorter_by field_fault request_refusal (λ n e. refl) n p t inner found e o

-- a value is some octets
pub any_shortens : (old new : Cursor) (result : Result Any (ReadError BerError)) → ReadsAnyAt old result new → OnOk result (IsShorter old new)
any_shortens old new (Ok x) a = any_shorter a
any_shortens old new (Err e) a = tt

pub not_first : (n : ℕ) → n ≢ 0 → pos n ≢ pos 0
not_first n a e = let q : n ≡ 0 = cc in a q

-- the octets of a CertificationRequestInfo are those before what follows it
pub info_taken : (i : List ℕ) (v : Info) (rest : List ℕ) → spells request_info i v rest → i ≡ take (length i - length rest) i ++ rest
info_taken i v rest s = subst (λ z. i ≡ take (length i - length z) i ++ z) (sym s.3.1) (element_taken Universal true 16 i s.0 s.1 s.2)

abbrev signed : Info → Algorithm → ℕ × List ℕ → List ℕ → Signed
signed x a s o = record { octets = o; info = x; algorithm = a; signature = s }

pub info_same : (x : Info) (a : Algorithm) (s : ℕ × List ℕ) (i j k l : List ℕ) → i ≡ k → j ≡ l → signed x a s (take (length i - length j) i) ≡ signed x a s (take (length k - length l) k)
info_same x a s i j k l p q = ap (λ z. signed x a s (take (length z - length j) z)) p ∙ ap (λ y. signed x a s (take (length k - length y) k)) q
