-- The values of content octets.
use Rattle.std.specs.Prelude.{ℕ, List, Option, None, Some}
use Rattle.der_base.specs.declared.time.ASN1DateTime.{ASN1DateTime}
use Rattle.der_base.specs.Tree.{Content, end_of_content, boolean, integer, bit_string, string, null, enumerated}
use Rattle.der_base.specs.Tree.{object_identifier, relative_oid, time, sequence, set, unknown, no_nodes}
use Rattle.der_values.specs.declared.value.Value.{Value}
use Rattle.der_values.specs.declared.value.Value.TheVariants.{EndOfContent, Boolean, Integer, BitString, OctetString}
use Rattle.der_values.specs.declared.value.Value.TheVariants.{Null, Identifier, RelativeIdentifier, Enumerated}
use Rattle.der_values.specs.declared.value.Value.TheVariants.{NumericString, VisibleString, PrintableString, IA5String}
use Rattle.der_values.specs.declared.value.Value.TheVariants.{UTF8String, T61String, VideotexString, ObjectDescriptor}
use Rattle.der_values.specs.declared.value.Value.TheVariants.{GraphicString, GeneralString, BmpString, UniversalString}
use Rattle.der_values.specs.declared.value.Value.TheVariants.{UTCTime, GeneralizedTime, Sequence, Set, Unknown}

-- the content of a tree that a value is; the items of a list are apart
abbrev pub value_content : Value → Content
value_content EndOfContent = end_of_content
value_content (Boolean b) = boolean b
value_content (Integer w) = integer w.now
value_content (BitString u w) = bit_string u w.now
value_content (OctetString w) = string 4 w.now
value_content Null = null
value_content (Identifier x) = object_identifier x.relative x.octets.now
value_content (RelativeIdentifier x) = relative_oid x.relative x.octets.now
value_content (Enumerated n) = enumerated n
value_content (NumericString s) = string 18 s.now
value_content (VisibleString s) = string 26 s.now
value_content (PrintableString s) = string 19 s.now
value_content (IA5String s) = string 22 s.now
value_content (UTF8String s) = string 12 s.now
value_content (T61String s) = string 20 s.now
value_content (VideotexString s) = string 21 s.now
value_content (ObjectDescriptor s) = string 7 s.now
value_content (GraphicString s) = string 25 s.now
value_content (GeneralString s) = string 27 s.now
value_content (BmpString w) = string 30 w.now
value_content (UniversalString w) = string 28 w.now
value_content (UTCTime x) = time 23 x
value_content (GeneralizedTime x) = time 24 x
value_content Sequence = sequence no_nodes
value_content Set = set no_nodes
value_content (Unknown c p t w) = unknown c p t w.now

-- the parts of a content that accessors return: how many bits of a BIT STRING aren't used, and its octets (8.6)
abbrev pub bit_string_part : Content → Option (ℕ × List ℕ)
bit_string_part (bit_string u w) = Some (u, w)
bit_string_part _ = None

-- the fields of a UTCTime or a GeneralizedTime (8.25)
abbrev pub time_part : Content → Option ASN1DateTime
time_part (time k t) = Some t
time_part _ = None
