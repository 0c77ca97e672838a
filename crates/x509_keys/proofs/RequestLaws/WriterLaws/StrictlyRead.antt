-- What is written is read by x509_keys::request: what a format of der_cursor reads, one of x509 reads.
use Rattle.std.proofs.Common.{◌≡◌, ◌≢◌, ℕ, ◌+◌, ◌≤◌, Bool, true, false, Option, Some, None, pos, List, [], ◌∷◌, ◌++◌, length, refl, sym, subst, ◌∙◌, inl, inr, arith, lit<, append_assoc, length-append}
use Rattle.std.proofs.lemmas.List.{append-nil}
use Rattle.std.specs.List.{flat_map}
use Rattle.der_base.specs.declared.header.Class.{Class}
use Rattle.der_base.specs.declared.header.Class.TheVariants.{Universal, ContextSpecific}
use Rattle.der_base.specs.declared.header.Length.TheVariants.{Definite}
use Rattle.der_base.specs.declared.rules.Rules.{Rules}
use Rattle.der_base.specs.declared.rules.Rules.TheVariants.{Der}
use Rattle.der_base.specs.Encoding.{element}
use Rattle.der_base.specs.Numbers.{unsigned}
use Rattle.der_base.specs.Octets.{identifier, shortest_length}
use Rattle.der_base.specs.Spelling.{max_object_size}
use Rattle.der_base.proofs.Framing.Elements.{identifier_some}
use Rattle.der_cursor.specs.Elements.{Element, SpellsElement}
use Rattle.der_cursor.specs.Formats.{Field, Required, IfLeft, AnyElement, Choice, ◌⨾◌, End, Each, Primitive, Set, BitString, Number, Value}
use Rattle.der_values.proofs.LawsLaws.Spellings.DerWithinBer.{element_header}
use Rattle.x509_keys.specs.Request.Requests.{Attribute as RequestAttributeParts, attribute as request_attribute, attributes, request_info, version}
use Rattle.der_values.specs.Kinds.{Kind, bit_strings, identifiers, numbers}
use Rattle.der_writer.specs.Fields as put
use Rattle.der_writer.specs.Fields.{constructed}
use Rattle.der_writer.proofs.FormatsLaws.Read.{element_is}
use Rattle.der_writer.proofs.FormatsLaws.Values.{bits_encode, unsigned_encodes}
use Rattle.x509.specs.Certificates.{Attribute, algorithm_identifier, attribute, last_any, name, relative_name, subject_public_key_info}
use Rattle.x509.specs.Formats as strict
use Rattle.x509.specs.Formats.{Fault, Format, ◌>>=◌, any, done, inside, list_of, more, none, some_octets, spells}
use Rattle.x509_keys.specs.Request.Writer.Formats.{Algorithm, AlgorithmValue, Extensions, Filled, KeyValue, PublicKey, RelativeName, RequestAttribute, TypeAndValue}
use Rattle.x509_keys.specs.Request.Writer.Octets.{algorithm_octets, attribute_octets, public_key_octets, relative_name_octets, request_octets}
use Rattle.x509_keys.specs.Request.Writer.Strict.{InfosAreRead, SignedAreRead, any_octets, strict_algorithm, strict_info, strict_key, strict_request}
use Rattle.x509_keys.proofs.RequestLaws.WriterLaws.Requests.{algorithm_encodes, all_used, attributes_encode, key_encodes, relative_names_encode}

-- Elements.

-- a content is no longer than its element
within : (c : Class) (p : Bool) (t : ℕ) (w : List ℕ) → length w ≤ length (element c p t w)
within c p t w = omega (arith, length-append (identifier c p t ++ shortest_length (length w)) w)

-- an element has an octet
some : (c : Class) (p : Bool) (t : ℕ) (i w rest : List ℕ) → SpellsElement Der c p t i (w, rest) → i ≢ []
some c p t i w rest begins = λ e.
    identifier_some c p t (shortest_length (length w) ++ (w ++ rest))
    (sym e ∙ begins.octets ∙ append_assoc (identifier c p t) (shortest_length (length w)) (w ++ rest))

-- an element with its header
abbrev any_of : Class → Bool → ℕ → List ℕ → Element
any_of c p t w = (c, p, t, w, Definite (length w), Some (identifier c p t))

any_read : (c : Class) (p : Bool) (t : ℕ) (i w rest : List ℕ) → SpellsElement Der c p t i (w, rest) → spells any i (any_of c p t w) rest
any_read c p t i w rest begins = (begins, (refl, refl))

primitive_read : {V : Type 0} (k : Rules → Kind V) (t : ℕ) (i : List ℕ) (v : V) (rest : List ℕ) → Required (Primitive t (Value k)) Der i v rest
    → spells (strict.primitive Universal t (k Der)) i v rest
unfolding Required Value
primitive_read k t i v rest (w, (tests, means), own) = (w, tests, means, own)

-- Lists.

-- what the field reads, the format reads, and it has an octet
abbrev IsReadBy : {V W : Type 0} → Field V → Format Fault W → Type 0
IsReadBy {V} {W} F f = (i : List ℕ) (v : V) (rest : List ℕ) → F Der i v rest → (i ≢ []) × (x : W) × spells f i x rest

items_read : {V W : Type 0} (F : Field V) (f : Format Fault W) → IsReadBy F f → (w : List ℕ) (vs : List V) → Each F Der w vs → spells (list_of f) w tt []
unfolding Each
items_read F f h w [] e = (none refl e, refl)
items_read F f h w (v ∷ vs) (rest, first, others) =
    let r = h w v rest first in
    (more r.0 (r.1, rest, r.2, (refl, refl)) (items_read F f h rest vs others).0, refl)

each_some : {V W : Type 0} (F : Field V) (f : Format Fault W) → IsReadBy F f → (w : List ℕ) (vs : List V) → Each F Der w vs → vs ≢ [] → w ≢ []
unfolding Each
each_some F f h w [] e filled = absurd (filled refl)
each_some F f h w (v ∷ vs) (rest, first, others) filled = (h w v rest first).0

-- a SET of one at least
abbrev filled_set : {W : Type 0} → Format Fault W → Format Fault (List ℕ)
filled_set f = strict.set >>= λ content. inside content (some_octets >>= λ u. list_of f) >>= λ u. done content

set_read : {V W : Type 0} (F : Field V) (f : Format Fault W) → IsReadBy F f → IsReadBy (Required (Filled (Set (Each F)))) (filled_set f)
unfolding Required
set_read F f h i vs rest (w, (each, filled), begins) = (
  some Universal true 17 i w rest begins,
  w,
  (w, rest, begins, (tt, rest, (([], (tt, w, (each_some F f h w vs each filled, refl), items_read F f h w vs each)), refl), (refl, refl))),
)

-- Names.

attribute_read : IsReadBy (Required TypeAndValue) attribute
unfolding Required Choice ◌⨾◌ End
attribute_read i v rest (w, (m, kind, (n, (y, value, own), end)), begins) =
    let e = any_of Universal false v.1.0.0 y in
    let x : Attribute = record { identifier = v.0; value = e } in (
      some Universal true 16 i w rest begins,
      x,
      (w, rest, begins, ((n, (v.0, m, primitive_read (λ r. identifiers) 6 w v.0 m kind, (e, n, any_read Universal false v.1.0.0 m y n own, (tt, n, (end, refl), (refl, refl))))), refl)),
    )

name_read : IsReadBy (Required RelativeName) relative_name
name_read = set_read (Required TypeAndValue) attribute attribute_read

-- Keys.

last_read : (i : List ℕ) (v : Option Element) (rest : List ℕ) → IfLeft AnyElement Der i v rest → rest ≡ [] → spells last_any i (any_octets v) rest
unfolding IfLeft AnyElement
last_read i None rest (empty, same) end = inl (empty, (refl, sym same))
last_read i (Some e) rest (filled, r) end =
    let x : List ℕ × Element = (element e.0 e.1 e.2 e.3, e) in
    inr (filled, (x, rest, (r, element_is e.0 e.1 e.2 i e.3 rest r.0), (tt, rest, (end, refl), (refl, refl))))

algorithm_read : (i : List ℕ) (v : AlgorithmValue) (rest : List ℕ) → Required Algorithm Der i v rest → spells algorithm_identifier i (strict_algorithm v) rest
unfolding Required ◌⨾◌ End
algorithm_read i v rest (w, (m, kind, (n, left, end)), begins) =
    (w, rest, begins, ((n, (v.0, m, primitive_read (λ r. identifiers) 6 w v.0 m kind, (any_octets v.1.0, n, last_read m v.1.0 n left end, (refl, refl)))), refl))

key_read : (i : List ℕ) (v : KeyValue) (rest : List ℕ) → Required PublicKey Der i v rest → spells subject_public_key_info i (strict_key v) rest
unfolding Required ◌⨾◌ End
key_read i v rest (w, (m, algorithm, (n, bits, end)), begins) =
    (w, rest, begins, ((n, (strict_algorithm v.0, m, algorithm_read w v.0 m algorithm, (v.1.0, n, primitive_read bit_strings 3 m v.1.0 n bits, (tt, n, (end, refl), (refl, refl))))), refl))

-- Attributes.

extensions_read : IsReadBy (Required Extensions) any
unfolding Required
extensions_read i v rest (w, content, begins) =
    (some Universal true 16 i w rest begins, any_of Universal true 16 w, any_read Universal true 16 i w rest begins)

own_attribute_read : IsReadBy (Required RequestAttribute) request_attribute
unfolding Required ◌⨾◌ End
own_attribute_read i v rest (w, (m, kind, (n, values, end)), begins) =
    let list = set_read (Required Extensions) any extensions_read m v.1.0 n values in
    let x : RequestAttributeParts = record { identifier = v.0; values = list.1 } in (
      some Universal true 16 i w rest begins,
      x,
      (w, rest, begins, ((n, (v.0, m, primitive_read (λ r. identifiers) 6 w v.0 m kind, (list.1, n, list.2, (tt, n, (end, refl), (refl, refl))))), refl)),
    )

-- Requests.

version_read : (i rest : List ℕ) → Required (Number (unsigned 32)) Der i (pos 0) rest → spells version i tt rest
version_read i rest r = (pos 0, rest, (primitive_read (λ r. numbers r (unsigned 32)) 2 i (pos 0) rest r, refl), (refl, refl))

-- the parts of an element of parts
joined : (a b c d : List ℕ) → a ++ (b ++ (c ++ d)) ≡ a ++ b ++ c ++ d
joined a b c d = sym (append_assoc a b (c ++ d)) ∙ sym (append_assoc (a ++ b) c d)

sizes : (a b c d : List ℕ) → length (a ++ b ++ c ++ d) ≡ length a + length b + length c + length d
sizes a b c d = omega (arith, length-append (a ++ b ++ c) d, length-append (a ++ b) c, length-append a b)

pub infos_read : InfosAreRead
unfolding constructed
infos_read r key subject own names few rest =
    let xs = flat_map relative_name_octets r.subject.now in
    let ns = attribute_octets r.dns_names.now in
    let one = put.Integer (pos 0) in
    let two = element Universal true 16 xs in
    let three = public_key_octets r.key_info in
    let four = element ContextSpecific true 0 ns in
    let w = one ++ two ++ three ++ four in
    let all : length w ≤ max_object_size = omega (arith, few, within Universal true 16 w) in
    let each = sizes one two three four in
    let few_xs : length xs ≤ max_object_size = omega (arith, all, each, within Universal true 16 xs) in
    let few_ns : length ns ≤ max_object_size = omega (arith, all, each, within ContextSpecific true 0 ns) in
    let first = (unsigned_encodes 32 0 (lit< tt)).read (omega (arith, all, each)) (two ++ (three ++ four)) in
    let P : List ℕ → Type 0 = λ l. spells version l tt (two ++ (three ++ four)) in
    let number : spells version w tt (two ++ (three ++ four)) = subst P (joined one two three four) (version_read _ _ first) in
    let items = items_read (Required RelativeName) relative_name name_read xs _ ((relative_names_encode r.subject.now subject).read few_xs) in
    let named : spells name (two ++ (three ++ four)) xs (three ++ four) =
    (xs, three ++ four, element_header _ xs (three ++ four) Universal true 16 (lit< tt) refl few_xs, (tt, three ++ four, (([], items), refl), (refl, refl))) in
    let key_info = key_read _ key four ((key_encodes r.key_info key own).read (omega (arith, all, each)) four) in
    let own_items = items_read (Required RequestAttribute) request_attribute own_attribute_read ns _ ((attributes_encode r.dns_names.now names).read few_ns) in
    let list : spells attributes four ns [] =
    (ns, [], element_header four ns [] ContextSpecific true 0 (lit< tt) (sym (append-nil four)) few_ns, (tt, [], (([], own_items), refl), (refl, refl))) in (
      w,
      rest,
      element_header _ w rest Universal true 16 (lit< tt) refl all,
      (([], (tt, two ++ (three ++ four), number, (xs, three ++ four, named, (strict_key key, four, key_info, (ns, [], list, (tt, [], (refl, refl), (refl, refl))))))), refl),
    )

pub signed_read : SignedAreRead
unfolding constructed
signed_read r key a v s subject own names is few =
    let one = request_octets r in
    let two = algorithm_octets a in
    let three = put.BitString 0 s in
    let w = one ++ two ++ three in
    let all : length w ≤ max_object_size = omega (arith, few, within Universal true 16 w) in
    let each : length w ≡ length one + length two + length three = omega (arith, length-append (one ++ two) three, length-append one two) in
    let first = infos_read r key subject own names (omega (arith, all, each)) (two ++ three) in
    let P : List ℕ → Type 0 = λ l. spells request_info l (strict_info r key) (two ++ three) in
    let info : spells request_info w (strict_info r key) (two ++ three) = subst P (sym (append_assoc one two three)) first in
    let algorithm = algorithm_read _ v three ((algorithm_encodes a v is).read (omega (arith, all, each)) three) in
    let Q : List ℕ → Type 0 = λ l. Required BitString Der l (0, s) [] in
    let bits = subst Q (append-nil three) ((bits_encode 0 s (all_used s)).read (omega (arith, all, each)) []) in
    let signature = primitive_read bit_strings 3 three (0, s) [] bits in
    let begins = element_header _ w [] Universal true 16 (lit< tt) (sym (append-nil _)) all in (
      strict_request r key v s,
      [],
      (
        w,
        [],
        begins,
        (([], ((one, strict_info r key), two ++ three, (info, append_assoc one two three), (strict_algorithm v, three, algorithm, ((0, s), [], signature, (tt, [], (refl, refl), (refl, refl)))))), refl),
      ),
      (tt, [], (refl, refl), (refl, refl)),
    )
