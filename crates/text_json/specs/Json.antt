-- The JSON that is written for an element.
use Rattle.std.specs.Prelude.{◌≡◌, ◌⊎◌, ◌==◌, ◌^◌, ◌||◌, ◌<◌, ◌≤◌, ◌+◌, ◌*◌, ℕ, not, Bool, true, false}
use Rattle.std.specs.Prelude.{IsTrue, MatchBool, MatchOption}
use Rattle.std.specs.Prelude.{Option, Some, None, is_some, option_map, List, [], ◌∷◌, ◌++◌, codes, drop, length}
use Rattle.std.specs.Prelude.{string_bytes}
use Rattle.std.specs.Io.KnownBytes.{Appends}
use Rattle.serde.specs.Event.{Log}
use Rattle.serde_json.specs.Data.{Data, boolean, null, string}
use Rattle.serde_json.specs.Sent.{IsTextOf}
use Rattle.serde_json.specs.View.{view}
use Rattle.hex.specs.Hex.{encode_lower}
use Rattle.der_base.specs.declared.header.Class.{Class}
use Rattle.der_base.specs.declared.header.Class.TheVariants.{Universal, Application, ContextSpecific, Private}
use Rattle.der_base.specs.declared.time.ASN1DateTime.{ASN1DateTime}
use Rattle.der_base.specs.Time.{IsTimeText}
use Rattle.der_print.specs.Quotes.{unquoted_text}
use Rattle.der_print.specs.Remarks.{IsRemark}
use Rattle.der_print.specs.declared.style.Limit.TheVariants.{Whole}
use Rattle.der_print.specs.Values.{identifier_text, is_other_type, is_quoted_type, moment_text}
use Rattle.der_print.specs.Values.{real_text}
use Rattle.text_json.specs.declared.members.Members.{Members}
use Rattle.text_json.specs.declared.object.Object.{Object}
use Rattle.text_json.specs.declared.object.Source.{Source}
use Rattle.text_json.specs.Numbers.{json_number}
use Rattle.text_json.specs.Sent.{SendsObject}
use Rattle.text_json.specs.Timestamps.{HasTimestamp, timestamp_text}
use Rattle.der_elements.specs.TypeNames.{type_text}
use Rattle.der_elements.specs.Visits.{Visited}
use Rattle.oid_names.specs.OwnNames.{IsNameAmong, Named}

-- a text is that of an object in JSON, without spaces
abbrev pub IsJsonOf : Object → List ℕ → Type 0
IsJsonOf o text = (log : Log) × SendsObject o (Some []) log × IsTextOf log text

-- known octets grew by the line of an object for which P holds
pub record AddsJson (P : Object → Type 0) (old new : Option (List ℕ)) : Type 0 where
  pub object : Object
  pub is : P object
  pub text : List ℕ
  pub is_json : IsJsonOf object text
  pub adds : Appends old new (text ++ codes "\n")

-- the octet of FALSE (X.690 8.2.2)
abbrev pub is_false : List ℕ → Bool
is_false (b ∷ []) = b == 0
is_false w = false

-- The value of a content by the number of its universal type.
pub data IsUniversalJson (t : ℕ) (w : List ℕ) (d : Data) : Type 0 where
  no_value : (t ≡ 0) ⊎ (t ≡ 5) → d ≡ null → IsUniversalJson t w d
  truth : t ≡ 1 → d ≡ boolean (not (is_false w)) → IsUniversalJson t w d
  json_integer : (t ≡ 2) ⊎ (t ≡ 10) → d ≡ json_number w → IsUniversalJson t w d
  identifier : t ≡ 6 → d ≡ string (identifier_text false w) → IsUniversalJson t w d
  relative : t ≡ 13 → d ≡ string (identifier_text true w) → IsUniversalJson t w d
  real : t ≡ 9 → d ≡ string (real_text Whole w) → IsUniversalJson t w d
  -- the characters of a string; octets that aren't characters are escaped
  text : IsTrue (is_quoted_type t) → d ≡ string (unquoted_text t w) → IsUniversalJson t w d
  -- a BIT STRING without the octet that counts unused bits
  bits : t ≡ 3 → d ≡ string (encode_lower (drop 1 w)) → IsUniversalJson t w d
  -- UTCTime and GeneralizedTime; as the text if there is no such moment, such as one with 60 seconds
  moment : (x : ASN1DateTime) → IsTimeText t w x → d ≡ string (moment_text (t == 23) x) → IsUniversalJson t w d
  no_moment : (t ≡ 23) ⊎ (t ≡ 24) → ((x : ASN1DateTime) → ¬ IsTimeText t w x) → d ≡ string (unquoted_text t w)
      → IsUniversalJson t w d
  octets : is_quoted_type t ≡ false → is_other_type t ≡ false → d ≡ string (encode_lower w) → IsUniversalJson t w d

-- the value of a primitive element
abbrev pub IsPrimitiveJson : Class → ℕ → List ℕ → Data → Type 0
IsPrimitiveJson Universal t w d = IsUniversalJson t w d
IsPrimitiveJson Application t w d = d ≡ string (encode_lower w)
IsPrimitiveJson ContextSpecific t w d = d ≡ string (encode_lower w)
IsPrimitiveJson Private t w d = d ≡ string (encode_lower w)

-- the value of an element; null if its content is elements, which have objects of their own
abbrev pub IsJsonValue : Visited → List ℕ → Data → Type 0
IsJsonValue v w d = MatchBool (v.constructed || is_some v.holds) (d ≡ null) (IsPrimitiveJson v.class v.number w d)

-- a primitive element of a universal type
abbrev pub IsPrimitive : Visited → Type 0
IsPrimitive v = (v.class ≡ Universal) × (v.constructed ≡ false)

-- a BIT STRING with this content has this many bits (X.690 8.6.2)
abbrev pub IsBitCount : List ℕ → ℕ → Type 0
IsBitCount [] n = ⊥
IsBitCount (unused ∷ w) n = (unused ≤ 7) × (n + unused ≡ 8 * length w)

-- the number of bits, if the element is a BIT STRING with a valid content; else None
abbrev pub AreBitsOf : Visited → List ℕ → Option ℕ → Type 0
AreBitsOf v w count = MatchOption count
    (IsPrimitive v → is_some v.holds ≡ false → v.number ≡ 3 → (n : ℕ) → n < 2 ^ 60 → ¬ IsBitCount w n)
    (λ n. IsPrimitive v × (v.number ≡ 3) × IsBitCount w n)

-- the text of a time type in the form of RFC 3339; None if it has no such form
abbrev pub IsTimestamp : ℕ → List ℕ → Option (List ℕ) → Type 0
IsTimestamp t w time = MatchOption time
    ((x : ASN1DateTime) → IsTimeText t w x → ¬ HasTimestamp (t == 23) x)
    (λ y. (x : ASN1DateTime) × IsTimeText t w x × HasTimestamp (t == 23) x × (y ≡ timestamp_text (t == 23) x))

abbrev pub IsTimestampOf : Visited → List ℕ → Option (List ℕ) → Type 0
IsTimestampOf v w (Some x) = IsPrimitive v × IsTimestamp v.number w (Some x)
IsTimestampOf v w None = IsPrimitive v → IsTimestamp v.number w None

-- the name of an OBJECT IDENTIFIER, by the user's table or the built-in one; None for another element
abbrev pub IsNameMember : Option (List Named) → Visited → List ℕ → Option (List ℕ) → Type 0
IsNameMember own v w name = MatchOption name
    (IsPrimitive v → v.number ≡ 6 → IsNameAmong own w None)
    (λ n. IsPrimitive v × (v.number ≡ 6) × IsNameAmong own w (Some n))

-- the members that the content of an element determines, with the user's names
pub record AreMembersOf (own : Option (List Named)) (v : Visited) (w : List ℕ) (m : Members) : Type 0 where
  pub value : IsJsonValue v w (view m.value)
  pub bits : AreBitsOf v w m.bits
  pub time : IsTimestampOf v w (option_map string_bytes m.time)
  pub name : IsNameMember own v w (option_map (λ name. name.now) m.name)
  -- the remark on a value that breaks its type
  pub fault : IsRemark v w (option_map string_bytes m.fault)

-- a class as a word
abbrev pub class_word : Class → List ℕ
class_word Universal = codes "universal"
class_word Application = codes "application"
class_word ContextSpecific = codes "context-specific"
class_word Private = codes "private"

-- the members that the header of an element determines
pub record IsHeadOf (v : Visited) (o : Object) : Type 0 where
  pub offset : o.offset ≡ v.offset
  pub depth : o.depth ≡ v.depth
  pub header : o.header ≡ v.header
  pub length : o.length ≡ v.length
  pub class : o.class.now ≡ class_word v.class
  pub tag : o.tag ≡ v.number
  pub constructed : o.constructed ≡ v.constructed
  pub kind : string_bytes o.kind ≡ type_text v.class v.number

-- an object has these members
pub record HasMembers (m : Members) (o : Object) : Type 0 where
  pub value : o.value ≡ m.value
  pub bits : o.bits ≡ m.bits
  pub time : o.time ≡ m.time
  pub name : o.name ≡ m.name
  pub fault : o.fault ≡ m.fault

-- the members of an element with this content, with the user's names
pub record IsObjectOf (own : Option (List Named)) (v : Visited) (w : List ℕ) (o : Object) : Type 0 where
  pub head : IsHeadOf v o
  pub secret : o.secret ≡ None
  pub value : IsJsonValue v w (view o.value)
  pub bits : AreBitsOf v w o.bits
  pub time : IsTimestampOf v w (option_map string_bytes o.time)
  pub name : IsNameMember own v w (option_map (λ name. name.now) o.name)
  -- the remark on a value that breaks its type
  pub fault : IsRemark v w (option_map string_bytes o.fault)

-- the members of a secret element, which don't depend on its content
pub record IsOutlineOf (v : Visited) (o : Object) : Type 0 where
  pub head : IsHeadOf v o
  pub secret : o.secret ≡ Some true
  pub value : view o.value ≡ null
  pub bits : o.bits ≡ None
  pub time : o.time ≡ None
  pub name : o.name ≡ None
  pub fault : o.fault ≡ None
  pub octets : o.octets ≡ None

-- the members for the source of an element
pub record IsFrom (s : Source) (o : Object) : Type 0 where
  pub file : option_map (λ x. x.now) o.file ≡ option_map (λ x. x.now) s.file
  pub block : o.block ≡ s.block
  pub label : option_map (λ x. x.now) o.label ≡ option_map (λ x. x.now) s.label
  pub path : o.path.now ≡ s.path.now
  pub field : option_map (λ x. x.now) o.field ≡ option_map (λ x. x.now) s.field
  pub field_path : option_map (λ x. x.now) o.field_path ≡ option_map (λ x. x.now) s.field_path

-- the octets of an element, if they are asked for
abbrev pub HasOctets : Source → Object → Type 0
HasOctets s o = option_map string_bytes o.octets ≡ option_map (λ w. encode_lower w.now) s.octets

-- the object of an element with this content, and with these octets if they are asked for
abbrev pub IsWholeOf : Source → Option (List Named) → Visited → List ℕ → Object → Type 0
IsWholeOf s own v w o = IsFrom s o × HasOctets s o × IsObjectOf own v w o

-- the object of a secret element
abbrev pub IsSecretOf : Source → Visited → Object → Type 0
IsSecretOf s v o = IsFrom s o × IsOutlineOf v o
