-- What is read of a certificate is one thing.
use Rattle.std.proofs.Common.{◌≡◌, ℕ, List, Option, Some, None, inl, inr, refl, sym, ap, subst, ◌∙◌}
use Rattle.der_base.specs.declared.header.Class.TheVariants.{ContextSpecific, Universal}
use Rattle.der_base.specs.declared.rules.Rules.TheVariants.{Der}
use Rattle.der_base.specs.Numbers.{unsigned}
use Rattle.der_cursor.proofs.KindLaws.{bits_one, integer_one, number_one}
use Rattle.der_values.specs.Kinds.{bit_strings, integers}
use Rattle.x509.specs.declared.certificate.Version.TheVariants.{V1}
use Rattle.x509.specs.Certificates.{algorithm_identifier, extension, name, subject_public_key_info, validity, version}
use Rattle.x509.specs.Formats.{Fault, Format, explicit_or, optional_implicit, primitive}
use Rattle.x509.proofs.CertificateLaws.{algorithm_exact, extension_exact, key_exact, name_exact, validity_exact}
use Rattle.x509.proofs.FormatLaws.{IsExact}
use Rattle.x509.specs.Partial.Openings.{AreFirst, Field, OptionalField}
use Rattle.x509.specs.Partial.Partials.{AreFields, AreFirstExtensions, IsPartial, OpensFields, Partial}
use Rattle.x509.proofs.PartialLaws.FieldLaws.{field_one, first_one, optional_one}
use Rattle.x509.proofs.PartialLaws.OpeningLaws.{finds_one, sequence_one}

pub version_exact : IsExact (explicit_or V1 0 version)
version_exact = ((tt, λ w. ((number_one Der (unsigned 32), λ n. tt), λ v. (tt, λ u. tt))), tt)

pub number_exact : IsExact (primitive Universal 2 (integers Der))
number_exact = integer_one Der

pub id_exact : (n : ℕ) → IsExact (optional_implicit n (bit_strings Der))
id_exact n = ((bits_one Der, λ v. tt), tt)

-- a field after the octets of another
next_one : {V : Type 0} (f : Format Fault V) → IsExact f → {i j : Option (List ℕ)} (v u : Option V) (a b : Option (List ℕ)) → i ≡ j → Field f i v a → Field f j u b → (v ≡ u) × (a ≡ b)
next_one f x {j = j} v u a b e p q = field_one f x j v u a b (subst (λ z. Field f z v a) e p) q

next_optional : {V : Type 0} (f : Format Fault (Option V)) → IsExact f → {i j : Option (List ℕ)} (v u : Option V) (a b : Option (List ℕ)) → i ≡ j → OptionalField f i v a → OptionalField f j u b
    → (v ≡ u) × (a ≡ b)
next_optional f x {j = j} v u a b e p q = optional_one f x j v u a b (subst (λ z. OptionalField f z v a) e p) q

extensions_one : (i : Option (List ℕ)) (w v : List ℕ) → AreFirstExtensions i w → AreFirstExtensions i v → w ≡ v
extensions_one (Some i) w v (inl (c, o, a)) (inl (d, p, b)) = first_one extension extension_exact c w v a (subst (λ z. AreFirst extension z v) (sym (sequence_one ContextSpecific 3 i c d o p)) b)
extensions_one (Some i) w v (inl (c, o, a)) (inr (n, e)) = absurd (n c o)
extensions_one (Some i) w v (inr (n, e)) (inl (c, o, a)) = absurd (n c o)
extensions_one (Some i) w v (inr (n, e)) (inr (m, d)) = e ∙ sym d
extensions_one None w v p q = p ∙ sym q

-- what was read, by its parts
same_head : (p q : Partial) → p.version ≡ q.version → p.serial_number ≡ q.serial_number → p.signature ≡ q.signature → p.issuer ≡ q.issuer → p.validity ≡ q.validity
    → p ≡ record p { version = q.version; serial_number = q.serial_number; signature = q.signature; issuer = q.issuer; validity = q.validity }
same_head p q a b c d e =
    ap (λ x. record p { version = x }) a
    ∙ ap (λ x. record p { version = q.version; serial_number = x }) b
    ∙ ap (λ x. record p { version = q.version; serial_number = q.serial_number; signature = x }) c
    ∙ ap (λ x. record p { version = q.version; serial_number = q.serial_number; signature = q.signature; issuer = x }) d
    ∙ ap (λ x. record p { version = q.version; serial_number = q.serial_number; signature = q.signature; issuer = q.issuer; validity = x }) e

same_tail : (p q : Partial) → p.subject ≡ q.subject → p.key_info ≡ q.key_info → p.issuer_id ≡ q.issuer_id → p.subject_id ≡ q.subject_id → p.extensions ≡ q.extensions
    → record p { version = q.version; serial_number = q.serial_number; signature = q.signature; issuer = q.issuer; validity = q.validity } ≡ q
same_tail p q a b c d e =
    ap (λ x. record q { subject = x; key_info = p.key_info; issuer_id = p.issuer_id; subject_id = p.subject_id; extensions = p.extensions }) a
    ∙ ap (λ x. record q { key_info = x; issuer_id = p.issuer_id; subject_id = p.subject_id; extensions = p.extensions }) b
    ∙ ap (λ x. record q { issuer_id = x; subject_id = p.subject_id; extensions = p.extensions }) c
    ∙ ap (λ x. record q { subject_id = x; extensions = p.extensions }) d
    ∙ ap (λ x. record q { extensions = x }) e

fields_one : (i : Option (List ℕ)) (p q : Partial) → AreFields i p → AreFields i q → p ≡ q
fields_one i p q a b =
    let e1 = next_one (explicit_or V1 0 version) version_exact p.version q.version a.after_version b.after_version refl a.is_version b.is_version in
    let e2 = next_one (primitive Universal 2 (integers Der)) number_exact p.serial_number q.serial_number a.after_serial_number b.after_serial_number e1.1 a.is_serial_number b.is_serial_number in
    let e3 = next_one algorithm_identifier algorithm_exact p.signature q.signature a.after_signature b.after_signature e2.1 a.is_signature b.is_signature in
    let e4 = next_one name name_exact p.issuer q.issuer a.after_issuer b.after_issuer e3.1 a.is_issuer b.is_issuer in
    let e5 = next_one validity validity_exact p.validity q.validity a.after_validity b.after_validity e4.1 a.is_validity b.is_validity in
    let e6 = next_one name name_exact p.subject q.subject a.after_subject b.after_subject e5.1 a.is_subject b.is_subject in
    let e7 = next_one subject_public_key_info key_exact p.key_info q.key_info a.after_key_info b.after_key_info e6.1 a.is_key_info b.is_key_info in
    let e8 = next_optional (optional_implicit 1 (bit_strings Der)) (id_exact 1) p.issuer_id q.issuer_id a.after_issuer_id b.after_issuer_id e7.1 a.is_issuer_id b.is_issuer_id in
    let e9 = next_optional (optional_implicit 2 (bit_strings Der)) (id_exact 2) p.subject_id q.subject_id a.after_subject_id b.after_subject_id e8.1 a.is_subject_id b.is_subject_id in
    let e10 = extensions_one b.after_subject_id p.extensions q.extensions (subst (λ z. AreFirstExtensions z p.extensions) e9.1 a.are_extensions) b.are_extensions in
    same_head p q e1.0 e2.0 e3.0 e4.0 e5.0 ∙ same_tail p q e6.0 e7.0 e8.0 e9.0 e10

pub partial_one : (i : List ℕ) (p q : Partial) → IsPartial i p → IsPartial i q → p ≡ q
partial_one i p q (w, f, a) (v, g, b) = fields_one v p q (subst (λ z. AreFields z p) (finds_one (OpensFields i) (λ x y. sequence_one Universal 16 i x y) w v f g) a) b
