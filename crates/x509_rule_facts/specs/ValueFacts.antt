-- What the values of extensions say, by their ASN.1 in `der_extensions` and `x509::crl`.
use Rattle.std.specs.Prelude.{◌≡◌, ◌≢◌, ℕ, true, None, List, [], ◌∷◌}
use Rattle.x509.specs.declared.crl.reason.Reason.TheVariants as reason
use Rattle.x509.specs.Crl.Reasons.{CRLReason}
use Rattle.der_cursor.specs.Formats.{ObjectIdentifier, Required}
use Rattle.der_extensions.specs.Extensions.{AccessDescription, AccessValue, AuthorityInfoAccessSyntax}
use Rattle.der_extensions.specs.Extensions.{AuthorityKeyIdentifier, BasicConstraints, ExtKeyUsageSyntax, KeyUsage}
use Rattle.der_extensions.specs.GeneralNames.{GeneralName, GeneralNames, NameValue, rfc822_name}
use Rattle.der_values.specs.Kinds.{is_bit_set}
use Rattle.der_extensions.specs.declared.known.KnownExtension.{KnownExtension}
use Rattle.der_extensions.specs.declared.known.KnownExtension.TheVariants as known
use Rattle.x509_rule_facts.specs.declared.value_facts.ValueFact.{ValueFact}
use Rattle.x509_rule_facts.specs.declared.value_facts.ValueFact.TheVariants.{Authority, PathLength, KeyCertSign}
use Rattle.x509_rule_facts.specs.declared.value_facts.ValueFact.TheVariants.{CrlSign, KeyIdentifier, AnyPurpose}
use Rattle.x509_rule_facts.specs.declared.value_facts.ValueFact.TheVariants.{OcspResponder, RemoveFromCrl, Mailbox}
use Rattle.x509_rule_facts.specs.Lists.{Among}
use Rattle.x509_rule_facts.specs.Values.{Says}

-- anyExtendedKeyUsage OBJECT IDENTIFIER ::= { id-ce-extKeyUsage 0 }, which is 2.5.29.37.0
abbrev pub any_extended_key_usage : List ℕ
any_extended_key_usage = 85 ∷ 29 ∷ 37 ∷ 0 ∷ []

-- id-ad-ocsp OBJECT IDENTIFIER ::= { id-ad 1 }, which is 1.3.6.1.5.5.7.48.1
abbrev pub id_ad_ocsp : List ℕ
id_ad_ocsp = 43 ∷ 6 ∷ 1 ∷ 5 ∷ 5 ∷ 7 ∷ 48 ∷ 1 ∷ []

-- the accessMethod says where a responder is
abbrev pub IsOcspResponder : AccessValue → Type 0
IsOcspResponder v = v.0 ≡ id_ad_ocsp

-- an rfc822Name
abbrev pub IsMailboxName : NameValue → Type 0
IsMailboxName (rfc822_name w) = Unit {0}
IsMailboxName _ = ⊥

-- the extension that it is about
abbrev pub extension_of_fact : ValueFact → KnownExtension
extension_of_fact Authority = known.BasicConstraints
extension_of_fact PathLength = known.BasicConstraints
extension_of_fact KeyCertSign = known.KeyUsage
extension_of_fact CrlSign = known.KeyUsage
extension_of_fact KeyIdentifier = known.AuthorityKeyIdentifier
extension_of_fact AnyPurpose = known.ExtendedKeyUsage
extension_of_fact OcspResponder = known.AuthorityInfoAccess
extension_of_fact RemoveFromCrl = known.ReasonCode
extension_of_fact Mailbox = known.SubjectAltName

-- the value says so
abbrev pub ValueSays : ValueFact → List ℕ → Type 0
ValueSays Authority w = Says BasicConstraints (λ v. v.0 ≡ true) w
ValueSays PathLength w = Says BasicConstraints (λ v. v.1.0 ≢ None) w
ValueSays KeyCertSign w = Says KeyUsage (λ v. is_bit_set 5 v.1 ≡ true) w
ValueSays CrlSign w = Says KeyUsage (λ v. is_bit_set 6 v.1 ≡ true) w
ValueSays KeyIdentifier w = Says AuthorityKeyIdentifier (λ v. v.0 ≢ None) w
ValueSays AnyPurpose w =
    Says ExtKeyUsageSyntax (λ v. Among (Required ObjectIdentifier) (λ x. x ≡ any_extended_key_usage) v) w
ValueSays OcspResponder w =
    Says AuthorityInfoAccessSyntax (λ v. Among (Required AccessDescription) IsOcspResponder v) w
ValueSays RemoveFromCrl w = Says CRLReason (λ v. v ≡ reason.RemoveFromCrl) w
ValueSays Mailbox w = Says GeneralNames (λ v. Among GeneralName IsMailboxName v) w
