-- What is written encodes its values.
use Rattle.std.proofs.Common.{◌≡◌, ◌≢◌, ℕ, true, false, Option, pos, List, [], ◌∷◌, ◌++◌, All, length, refl, ap, sym, subst, ◌∙◌, arith, lit<, append_assoc}
use Rattle.std.specs.Borrow.{Bor}
use Rattle.std.specs.List.{flat_map}
use Rattle.der_base.specs.declared.header.Class.TheVariants.{Universal, ContextSpecific}
use Rattle.der_base.specs.Leaf.{HasZeroUnusedBits}
use Rattle.der_cursor.specs.Formats.{Required, Text, AnyElement, ◌⨾◌, End, Each, IfLeft, Boolean, Element}
use Rattle.der_values.specs.Kinds.{texts, EndsSubidentifier, HasPaddedArc}
use Rattle.der_writer.specs.Fields as put
use Rattle.der_writer.specs.Formats.Encodings.{Encodes, EncodesContent}
use Rattle.der_writer.proofs.FormatsLaws.Encoded.{constructed_encodes, implicit_encodes, choice_encodes, last_encodes, before_encodes, default_encodes, only_encodes, one_encodes, none_encode, left_encodes, none_left, octets_of_encode, regrouped}
use Rattle.der_writer.proofs.FormatsLaws.Values.{identifier_encodes, bits_encode, text_encodes, text_value, unsigned_encodes}
use Rattle.x509_keys.specs.declared.request.writer.algorithm.Parameters.{Parameters}
use Rattle.x509_keys.specs.declared.request.writer.algorithm.Parameters.TheVariants as parameters
use Rattle.x509_keys.specs.declared.request.writer.algorithm.PublicKeyInfo.TheVariants as key_info
use Rattle.x509_keys.specs.declared.request.writer.name.NameAttribute.{NameAttribute}
use Rattle.x509_keys.specs.Request.Writer.Formats.{AlgorithmsEncode, KeysEncode, NamesEncode, AlternativeNamesEncode, RequestsEncode, AreParameters, IsAttribute, IsDnsName}
use Rattle.x509_keys.specs.Request.Writer.Formats.{DnsName, Algorithm, PublicKey, RelativeName, Extension, RequestAttribute, attribute_of, name_of, dns_names_of, extension_of, attributes_of}
use Rattle.x509_keys.specs.Request.Writer.Octets.{parameter_octets, algorithm_octets, key_octets, public_key_octets, relative_name_octets, name_octets, dns_name_octets, alternative_name_octets, extension_octets, extension_request_octets, attribute_octets, extension_request, subject_alternative_name}
use Rattle.x509_keys.proofs.RequestLaws.WriterLaws.Fields.{null_filled, filled_encodes, null_any, no_boolean, each_encodes}

-- Algorithms and keys.

parameters_encode : (p : Parameters) (v : Option Element) → AreParameters p v → EncodesContent (IfLeft AnyElement ⨾ End) (v, tt) (parameter_octets p)
parameters_encode parameters.Absent v h =
    let P : Option Element → Type 0 = λ x. EncodesContent (IfLeft AnyElement ⨾ End) (x, tt) [] in
    subst P (sym h) (none_left AnyElement)
parameters_encode parameters.Null v h =
    let P : Option Element → Type 0 = λ x. EncodesContent (IfLeft AnyElement ⨾ End) (x, tt) put.Null in
    subst P (sym h) (left_encodes null_filled null_any)
parameters_encode (parameters.Element e) v h =
    let P : Option Element → Type 0 = λ x. EncodesContent (IfLeft AnyElement ⨾ End) (x, tt) e.now in
    subst P (sym h.1) (left_encodes h.2 h.3)

pub algorithm_encodes : AlgorithmsEncode
algorithm_encodes a v h =
    let fields = before_encodes (identifier_encodes a.algorithm.now h.valid.0 h.valid.1) (parameters_encode a.parameters v.1.0 h.parameters) in
    let P : List ℕ → Type 0 = λ x. Encodes (Required Algorithm) (x, v.1) (algorithm_octets a) in
    subst P (sym h.identifier) (constructed_encodes Universal 16 (lit< tt) fields)

-- no bit is left over
pub all_used : (w : List ℕ) → HasZeroUnusedBits 0 w
all_used [] = refl
all_used (b ∷ w) = (omega arith, omega arith)

pub key_encodes : KeysEncode
key_encodes (key_info.Element e) v h = h
key_encodes (key_info.Key a key) v h =
    let fields = before_encodes (algorithm_encodes a v.0 h.0) (last_encodes (bits_encode 0 key.now (all_used key.now))) in
    let P : ℕ × List ℕ → Type 0 = λ x. Encodes (Required PublicKey) (v.0, (x, tt)) (key_octets a key.now) in
    subst P (sym h.1) (constructed_encodes Universal 16 (lit< tt) fields)

-- Names.

cons_filled : {X : Type 0} {x : X} {xs : List X} → x ∷ xs ≢ []
cons_filled = λ e. absurd (omega (arith, ap length e))

relative_name_encodes : (a : NameAttribute) → IsAttribute a → Encodes (Required RelativeName) (attribute_of a ∷ []) (relative_name_octets a)
relative_name_encodes a h =
    let text = choice_encodes Text a.string_type.0 (text_encodes a.string_type.0 a.text.now h.small h.string_type h.text) in
    let fields = before_encodes (identifier_encodes a.identifier.now h.identifier.0 h.identifier.1) (last_encodes text) in
    let attribute = constructed_encodes Universal 16 (lit< tt) fields in
    filled_encodes Universal 17 (lit< tt) cons_filled (one_encodes attribute)

pub relative_names_encode : (xs : List NameAttribute) → All IsAttribute xs → EncodesContent (Each (Required RelativeName)) (name_of xs) (flat_map relative_name_octets xs)
relative_names_encode xs all =
    each_encodes (Required RelativeName) IsAttribute relative_name_octets (λ a. attribute_of a ∷ []) relative_name_encodes xs all

pub name_encodes : NamesEncode
name_encodes xs all = constructed_encodes Universal 16 (lit< tt) (relative_names_encode xs all)

-- Alternative names.

dns_name_encodes : (n : Bor (List ℕ)) → IsDnsName n → Encodes (Required DnsName) n.now (dns_name_octets n.now)
dns_name_encodes n h = implicit_encodes (λ r. texts 22) 22 ContextSpecific 2 n.now n.now (lit< tt) (text_value 22 n.now refl h)

names_filled : (ns : List (Bor (List ℕ))) → ns ≢ [] → dns_names_of ns ≢ []
names_filled [] some = absurd (some refl)
names_filled (n ∷ ns) some = cons_filled

pub alternative_names_encode : AlternativeNamesEncode
alternative_names_encode ns some all =
    filled_encodes Universal 16 (lit< tt) (names_filled ns some)
    (each_encodes (Required DnsName) IsDnsName (λ n. dns_name_octets n.now) (λ n. n.now) dns_name_encodes ns all)

alternative_ends : EndsSubidentifier subject_alternative_name
alternative_ends = lit< tt

alternative_plain : ¬ HasPaddedArc subject_alternative_name
alternative_plain = λ e. let t : true ≡ false = e in cc

extension_encodes : (ns : List (Bor (List ℕ))) → ns ≢ [] → All IsDnsName ns → Encodes (Required Extension) (extension_of ns) (extension_octets ns)
extension_encodes ns some all =
    let names = octets_of_encode (only_encodes (alternative_names_encode ns some all)) in
    let behind = default_encodes Boolean false (no_boolean (alternative_name_octets ns)) (last_encodes names) in
    constructed_encodes Universal 16 (lit< tt) (before_encodes (identifier_encodes subject_alternative_name alternative_ends alternative_plain) behind)

-- Requests.

request_ends : EndsSubidentifier extension_request
request_ends = lit< tt

request_plain : ¬ HasPaddedArc extension_request
request_plain = λ e. let t : true ≡ false = e in cc

attribute_encodes : (n : Bor (List ℕ)) (ns : List (Bor (List ℕ))) → All IsDnsName (n ∷ ns)
    → EncodesContent (Each (Required RequestAttribute)) (attributes_of (n ∷ ns)) (extension_request_octets (n ∷ ns))
attribute_encodes n ns all =
    let extensions = filled_encodes Universal 16 (lit< tt) cons_filled (one_encodes (extension_encodes (n ∷ ns) cons_filled all)) in
    let values = filled_encodes Universal 17 (lit< tt) cons_filled (one_encodes extensions) in
    let fields = before_encodes (identifier_encodes extension_request request_ends request_plain) (last_encodes values) in
    one_encodes (constructed_encodes Universal 16 (lit< tt) fields)

pub attributes_encode : (ns : List (Bor (List ℕ))) → All IsDnsName ns
    → EncodesContent (Each (Required RequestAttribute)) (attributes_of ns) (attribute_octets ns)
attributes_encode [] all = none_encode (Required RequestAttribute)
attributes_encode (n ∷ ns) all = attribute_encodes n ns all

pub request_encodes : RequestsEncode
request_encodes r key subject own names =
    let version = put.Integer (pos 0) in
    let name = name_octets r.subject.now in
    let info = public_key_octets r.key_info in
    let list = put.Tagged 0 (attribute_octets r.dns_names.now) in
    let attributes = constructed_encodes ContextSpecific 0 (lit< tt) (attributes_encode r.dns_names.now names) in
    let behind = before_encodes (key_encodes r.key_info key own) (last_encodes attributes) in
    let fields = before_encodes (unsigned_encodes 32 0 (lit< tt)) (before_encodes (name_encodes r.subject.now subject) behind) in
    let joined : version ++ (name ++ (info ++ list)) ≡ version ++ name ++ info ++ list =
    sym (append_assoc version name (info ++ list)) ∙ sym (append_assoc (version ++ name) info list) in
    constructed_encodes Universal 16 (lit< tt) (regrouped joined fields)
