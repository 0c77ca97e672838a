-- A search encodes its value.
use Rattle.std.proofs.Common.{◌≡◌, ℕ, ◌^◌, ◌<◌, pos, List, [], ◌∷◌, ◌++◌, map, sym, ◌∙◌, lit<, append_assoc}
use Rattle.std.specs.Borrow.{Bor}
use Rattle.std.specs.List.{flat_map}
use Rattle.der_base.specs.declared.header.Class.TheVariants.{Universal, ContextSpecific, Application}
use Rattle.der_cursor.specs.Formats.{Required, Each, OctetString}
use Rattle.der_values.specs.Kinds.{octet_strings}
use Rattle.der_writer.specs.Fields as put
use Rattle.der_writer.specs.Formats.Encodings.{Encodes, EncodesContent}
use Rattle.der_writer.proofs.FormatsLaws.Encoded.{constructed_encodes, implicit_encodes, last_encodes, before_encodes, more_encode, none_encode, regrouped}
use Rattle.der_writer.proofs.FormatsLaws.Values.{boolean_encodes, unsigned_encodes, enumerated_encodes, octets_encode, octets_value}
use Rattle.messages.specs.declared.ldap.writer.search.DerefAliases.{DerefAliases}
use Rattle.messages.specs.declared.ldap.writer.search.DerefAliases.TheVariants as aliases
use Rattle.messages.specs.declared.ldap.writer.search.Filter.{Filter}
use Rattle.messages.specs.declared.ldap.writer.search.Filter.TheVariants as filter
use Rattle.messages.specs.declared.ldap.writer.search.Scope.{Scope}
use Rattle.messages.specs.declared.ldap.writer.search.Scope.TheVariants as scope
use Rattle.messages.specs.Ldap.Writer.Formats.{AnyFilter, SearchesEncode, filter_of}
use Rattle.messages.specs.Ldap.Writer.Octets.{scope_number, deref_number, filter_octets}

scope_small : (s : Scope) → scope_number s < 2 ^ 64
scope_small scope.BaseObject = lit< tt
scope_small scope.SingleLevel = lit< tt
scope_small scope.WholeSubtree = lit< tt

aliases_small : (a : DerefAliases) → deref_number a < 2 ^ 64
aliases_small aliases.Never = lit< tt
aliases_small aliases.InSearching = lit< tt
aliases_small aliases.FindingBaseObject = lit< tt
aliases_small aliases.Always = lit< tt

filter_encodes : (f : Filter) → Encodes AnyFilter (filter_of f) (filter_octets f)
unfolding AnyFilter
filter_encodes (filter.Present a) =
    record { read = (implicit_encodes (λ r. octet_strings) 4 ContextSpecific 7 a.now a.now (lit< tt) (octets_value a.now)).read }
filter_encodes (filter.EqualityMatch a v) =
    record { read = (constructed_encodes ContextSpecific 3 (lit< tt) (before_encodes (octets_encode a.now) (last_encodes (octets_encode v.now)))).read }

texts_encode : (xs : List (Bor (List ℕ))) → EncodesContent (Each (Required OctetString)) (map (λ a. a.now) xs) (flat_map (λ a. put.OctetString a.now) xs)
texts_encode [] = none_encode (Required OctetString)
texts_encode (x ∷ xs) = more_encode (octets_encode x.now) (texts_encode xs)

-- eight fields, grouped to the left
grouped : (a b c d e f g h : List ℕ) → a ++ (b ++ (c ++ (d ++ (e ++ (f ++ (g ++ h)))))) ≡ a ++ b ++ c ++ d ++ e ++ f ++ g ++ h
grouped a b c d e f g h =
    sym (append_assoc a b (c ++ (d ++ (e ++ (f ++ (g ++ h))))))
    ∙ sym (append_assoc (a ++ b) c (d ++ (e ++ (f ++ (g ++ h)))))
    ∙ sym (append_assoc (a ++ b ++ c) d (e ++ (f ++ (g ++ h))))
    ∙ sym (append_assoc (a ++ b ++ c ++ d) e (f ++ (g ++ h)))
    ∙ sym (append_assoc (a ++ b ++ c ++ d ++ e) f (g ++ h))
    ∙ sym (append_assoc (a ++ b ++ c ++ d ++ e ++ f) g h)

pub search_encodes : SearchesEncode
search_encodes id s few =
    let attributes = constructed_encodes Universal 16 (lit< tt) (texts_encode s.attributes.now) in
    let filter = before_encodes (filter_encodes s.filter) (last_encodes attributes) in
    let types = before_encodes (boolean_encodes s.types_only) filter in
    let limits = before_encodes (unsigned_encodes 31 s.size_limit few.size_limit) (before_encodes (unsigned_encodes 31 s.time_limit few.time_limit) types) in
    let derefs = before_encodes (enumerated_encodes (deref_number s.deref_aliases) (aliases_small s.deref_aliases)) limits in
    let scopes = before_encodes (enumerated_encodes (scope_number s.scope) (scope_small s.scope)) derefs in
    let joined = grouped (put.OctetString s.base_object.now) (put.Enumerated (scope_number s.scope)) (put.Enumerated (deref_number s.deref_aliases))
    (put.Integer (pos s.size_limit)) (put.Integer (pos s.time_limit)) (put.Boolean s.types_only) (filter_octets s.filter)
    (put.Sequence (flat_map (λ a. put.OctetString a.now) s.attributes.now)) in
    let fields = regrouped joined (before_encodes (octets_encode s.base_object.now) scopes) in
    let request = constructed_encodes Application 3 (lit< tt) fields in
    constructed_encodes Universal 16 (lit< tt) (before_encodes (unsigned_encodes 31 id few.message_id) (last_encodes request))
