-- Worked rows of printed texts, computed on the definition, and some that are not so.
use Rattle.std.proofs.Common.{◌≡◌, ◌++◌, ℕ, arith, Bool, List, true, false, [], ◌∷◌, refl, ap, length, negsuc, codes, Some, None}
use Rattle.std.specs.Fmt.{digits}
use Rattle.std.specs.Char.{encode_utf8}
use Rattle.std.specs.Char.Utf16.{utf16_chars}
use Rattle.der_base.specs.declared.header.Class.TheVariants.{Universal, Application, ContextSpecific, Private}
use Rattle.der_base.specs.declared.header.Length.TheVariants.{Definite, Indefinite}
use Rattle.der_base.specs.declared.time.ASN1TimeZone.TheVariants.{Z, Offset}
use Rattle.der_base.specs.Pretty.{Style, pretty, further, spaces}
use Rattle.der_base.specs.Spelling.{form, forms, no_forms}
use Rattle.der_base.specs.Tree.{node, end_of_content, boolean, integer, bit_string, string, null, enumerated}
use Rattle.der_base.specs.Tree.{object_identifier, relative_oid, time, sequence, set, absent, present, tagged, unknown}
use Rattle.der_base.specs.Tree.{no_nodes, nodes}

abbrev style : Bool → Bool → ℕ → Style
style recursive headers increment = record { recursive = recursive; headers = headers; increment = increment }

-- a line of the table each
end_of_content_text : pretty (style true false 2) 0 (node Universal false 0 end_of_content) (form (Definite 0) no_forms) ≡ codes "EndOfContent"
unfolding digits encode_utf8 utf16_chars
end_of_content_text = refl

null_text : pretty (style true false 2) 0 (node Universal false 5 null) (form (Definite 0) no_forms) ≡ codes "Null"
unfolding digits encode_utf8 utf16_chars
null_text = refl

boolean_true : pretty (style true false 2) 0 (node Universal false 1 (boolean true)) (form (Definite 0) no_forms) ≡ codes "Boolean(true)"
unfolding digits encode_utf8 utf16_chars
boolean_true = refl

boolean_false : pretty (style true false 2) 0 (node Universal false 1 (boolean false)) (form (Definite 0) no_forms) ≡ codes "Boolean(false)"
unfolding digits encode_utf8 utf16_chars
boolean_false = refl

enum : pretty (style true false 2) 0 (node Universal false 10 (enumerated 5)) (form (Definite 0) no_forms) ≡ codes "Enum(5)"
unfolding digits encode_utf8 utf16_chars
enum = refl

greatest_enum : pretty (style true false 2) 0 (node Universal false 10 (enumerated 18446744073709551615)) (form (Definite 0) no_forms) ≡ codes "Enum(18446744073709551615)"
unfolding digits encode_utf8 utf16_chars
greatest_enum = refl

integer_text : pretty (style true false 2) 0 (node Universal false 2 (integer (1 ∷ 0 ∷ 1 ∷ []))) (form (Definite 0) no_forms) ≡ codes "Integer([01 00 01])"
unfolding digits encode_utf8 utf16_chars
integer_text = refl

integer_of_none : pretty (style true false 2) 0 (node Universal false 2 (integer [])) (form (Definite 0) no_forms) ≡ codes "Integer([])"
unfolding digits encode_utf8 utf16_chars
integer_of_none = refl

octets_text : pretty (style true false 2) 0 (node Universal false 4 (string 4 (0 ∷ 255 ∷ 10 ∷ []))) (form (Definite 0) no_forms) ≡ codes "OctetString([00 ff 0a])"
unfolding digits encode_utf8 utf16_chars
octets_text = refl

bits : pretty (style true false 2) 0 (node Universal false 3 (bit_string 6 (110 ∷ 93 ∷ 224 ∷ []))) (form (Definite 0) no_forms) ≡ codes "BitString(6,[6e 5d e0])"
unfolding digits encode_utf8 utf16_chars
bits = refl

no_bits : pretty (style true false 2) 0 (node Universal false 3 (bit_string 3 [])) (form (Definite 0) no_forms) ≡ codes "BitString(3,[])"
unfolding digits encode_utf8 utf16_chars
no_bits = refl

oid : pretty (style true false 2) 0 (node Universal false 6 (object_identifier false (42 ∷ 3 ∷ []))) (form (Definite 0) no_forms) ≡ codes "OID(1.2.3)"
unfolding digits encode_utf8 utf16_chars
oid = refl

relative_oid_text : pretty (style true false 2) 0 (node Universal false 13 (relative_oid true (1 ∷ 2 ∷ []))) (form (Definite 0) no_forms) ≡ codes "RelativeOID(1.2)"
unfolding digits encode_utf8 utf16_chars
relative_oid_text = refl

-- octets where there are no arcs, and nothing where there are none
no_arcs : pretty (style true false 2) 0 (node Universal false 6 (object_identifier false (42 ∷ 134 ∷ []))) (form (Definite 0) no_forms) ≡ codes "OID([2a 86])"
unfolding digits encode_utf8 utf16_chars
no_arcs = refl

empty_oid : pretty (style true false 2) 0 (node Universal false 6 (object_identifier false [])) (form (Definite 0) no_forms) ≡ codes "OID()"
unfolding digits encode_utf8 utf16_chars
empty_oid = refl

utc : pretty (style true false 2) 0 (node Universal false 23 (time 23 (record { year = 20; month = 1; day = 1; hour = 0; minute = 0; second = 0; nanosecond = None; tz = Z })))
    (form (Definite 0) no_forms) ≡ codes "UTCTime(\"200101000000Z\")"
unfolding digits encode_utf8 utf16_chars
utc = refl

generalized : pretty (style true false 2) 0 (node Universal false 24 (time 24 (record {
  year = 2020;
  month = 1;
  day = 1;
  hour = 0;
  minute = 0;
  second = 0;
  nanosecond = Some 100000000;
  tz =
      (Offset (negsuc 4) (negsuc 29));
}))) (form (Definite 0) no_forms) ≡ codes "GeneralizedTime(\"20200101000000.1-0530\")"
unfolding digits encode_utf8 utf16_chars
generalized = refl

-- without quotes, and nothing escaped
t61 : pretty (style true false 2) 0 (node Universal false 20 (string 20 (97 ∷ 34 ∷ 98 ∷ []))) (form (Definite 0) no_forms) ≡ codes "T61String(a\"b)"
unfolding digits encode_utf8 utf16_chars
t61 = refl

videotex : pretty (style true false 2) 0 (node Universal false 21 (string 21 (118 ∷ []))) (form (Definite 0) no_forms) ≡ codes "VideotexString(v)"
unfolding digits encode_utf8 utf16_chars
videotex = refl

utf8 : pretty (style true false 2) 0 (node Universal false 12 (string 12 (97 ∷ 34 ∷ 98 ∷ 92 ∷ 10 ∷ []))) (form (Definite 0) no_forms) ≡ codes "UTF8String(\"a\"b\\\n\")"
unfolding digits encode_utf8 utf16_chars
utf8 = refl

visible : pretty (style true false 2) 0 (node Universal false 26 (string 26 (120 ∷ []))) (form (Definite 0) no_forms) ≡ codes "VisibleString(\"x\")"
unfolding digits encode_utf8 utf16_chars
visible = refl

general : pretty (style true false 2) 0 (node Universal false 27 (string 27 (120 ∷ []))) (form (Definite 0) no_forms) ≡ codes "GeneralString(\"x\")"
unfolding digits encode_utf8 utf16_chars
general = refl

graphic : pretty (style true false 2) 0 (node Universal false 25 (string 25 (120 ∷ []))) (form (Definite 0) no_forms) ≡ codes "GraphicString(\"x\")"
unfolding digits encode_utf8 utf16_chars
graphic = refl

printable : pretty (style true false 2) 0 (node Universal false 19 (string 19 (120 ∷ []))) (form (Definite 0) no_forms) ≡ codes "PrintableString(\"x\")"
unfolding digits encode_utf8 utf16_chars
printable = refl

numeric : pretty (style true false 2) 0 (node Universal false 18 (string 18 (49 ∷ 32 ∷ 50 ∷ []))) (form (Definite 0) no_forms) ≡ codes "NumericString(\"1 2\")"
unfolding digits encode_utf8 utf16_chars
numeric = refl

ia5 : pretty (style true false 2) 0 (node Universal false 22 (string 22 (120 ∷ []))) (form (Definite 0) no_forms) ≡ codes "IA5String(\"x\")"
unfolding digits encode_utf8 utf16_chars
ia5 = refl

descriptor : pretty (style true false 2) 0 (node Universal false 7 (string 7 (195 ∷ 169 ∷ []))) (form (Definite 0) no_forms) ≡
    (79 ∷ 98 ∷ 106 ∷ 101 ∷ 99 ∷ 116 ∷ 68 ∷ 101 ∷ 115 ∷ 99 ∷ 114 ∷ 105 ∷ 112 ∷ 116 ∷ 111 ∷ 114 ∷ 40 ∷ 34 ∷ 195 ∷ 169 ∷ 34 ∷ 41 ∷ [])
unfolding digits encode_utf8 utf16_chars
descriptor = refl

-- whole pairs as UTF-16, on a line of their own
bmp : pretty (style true false 2) 0 (node Universal false 30 (string 30 (0 ∷ 65 ∷ 0 ∷ 233 ∷ 7 ∷ []))) (form (Definite 0) no_forms) ≡
    (66 ∷ 109 ∷ 112 ∷ 83 ∷ 116 ∷ 114 ∷ 105 ∷ 110 ∷ 103 ∷ 40 ∷ 34 ∷ 65 ∷ 195 ∷ 169 ∷ 34 ∷ 41 ∷ 10 ∷ [])
unfolding digits encode_utf8 utf16_chars
bmp = refl

bmp_pair : pretty (style true false 2) 0 (node Universal false 30 (string 30 (216 ∷ 61 ∷ 222 ∷ 0 ∷ []))) (form (Definite 0) no_forms) ≡
    (66 ∷ 109 ∷ 112 ∷ 83 ∷ 116 ∷ 114 ∷ 105 ∷ 110 ∷ 103 ∷ 40 ∷ 34 ∷ 240 ∷ 159 ∷ 152 ∷ 128 ∷ 34 ∷ 41 ∷ 10 ∷ [])
unfolding digits encode_utf8 utf16_chars
bmp_pair = refl

bmp_lone : pretty (style true false 2) 0 (node Universal false 30 (string 30 (216 ∷ 61 ∷ []))) (form (Definite 0) no_forms) ≡ codes "BmpString([d8 3d]) <error decoding utf32 string>\n"
unfolding digits encode_utf8 utf16_chars
bmp_lone = refl

bmp_swapped : pretty (style true false 2) 0 (node Universal false 30 (string 30 (222 ∷ 0 ∷ 216 ∷ 61 ∷ [])))
    (form (Definite 0) no_forms) ≡ codes "BmpString([de 00 d8 3d]) <error decoding utf32 string>\n"
unfolding digits encode_utf8 utf16_chars
bmp_swapped = refl

bmp_none : pretty (style true false 2) 0 (node Universal false 30 (string 30 [])) (form (Definite 0) no_forms) ≡ codes "BmpString(\"\")\n"
unfolding digits encode_utf8 utf16_chars
bmp_none = refl

-- whole groups of four as characters
universal : pretty (style true false 2) 0 (node Universal false 28 (string 28 (0 ∷ 1 ∷ 246 ∷ 0 ∷ 9 ∷ []))) (form (Definite 0) no_forms) ≡
    (85 ∷ 110 ∷ 105 ∷ 118 ∷ 101 ∷ 114 ∷ 115 ∷ 97 ∷ 108 ∷ 83 ∷ 116 ∷ 114 ∷ 105 ∷ 110 ∷ 103 ∷ 40 ∷ 34 ∷ 240 ∷ 159 ∷ 152 ∷ 128 ∷ 34 ∷ 41 ∷ 10 ∷ [])
unfolding digits encode_utf8 utf16_chars
universal = refl

universal_surrogate : pretty (style true false 2) 0 (node Universal false 28 (string 28 (0 ∷ 0 ∷ 216 ∷ 0 ∷ [])))
    (form (Definite 0) no_forms) ≡ codes "UniversalString([00 00 d8 00]) <error decoding utf32 string>\n"
unfolding digits encode_utf8 utf16_chars
universal_surrogate = refl

universal_above : pretty (style true false 2) 0 (node Universal false 28 (string 28 (0 ∷ 17 ∷ 0 ∷ 0 ∷ [])))
    (form (Definite 0) no_forms) ≡ codes "UniversalString([00 11 00 00]) <error decoding utf32 string>\n"
unfolding digits encode_utf8 utf16_chars
universal_above = refl

universal_last : pretty (style true false 2) 0 (node Universal false 28 (string 28 (0 ∷ 16 ∷ 255 ∷ 255 ∷ []))) (form (Definite 0) no_forms) ≡
    (85 ∷ 110 ∷ 105 ∷ 118 ∷ 101 ∷ 114 ∷ 115 ∷ 97 ∷ 108 ∷ 83 ∷ 116 ∷ 114 ∷ 105 ∷ 110 ∷ 103 ∷ 40 ∷ 34 ∷ 244 ∷ 143 ∷ 191 ∷ 191 ∷ 34 ∷ 41 ∷ 10 ∷ [])
unfolding digits encode_utf8 utf16_chars
universal_last = refl

universal_three : pretty (style true false 2) 0 (node Universal false 28 (string 28 (0 ∷ 0 ∷ 65 ∷ []))) (form (Definite 0) no_forms) ≡ codes "UniversalString(\"\")\n"
unfolding digits encode_utf8 utf16_chars
universal_three = refl

-- an optional object stands at indent 0, under the same flags
none : pretty (style true false 2) 0 (node Universal false 0 absent) (form (Definite 0) no_forms) ≡ codes "NONE"
unfolding digits encode_utf8 utf16_chars
none = refl

option : pretty (style true false 2) 4 (node Universal false 2 (present (node Universal false 2 (integer (5 ∷ [])))))
    (form (Definite 0) (forms (form (Definite 1) no_forms) no_forms)) ≡ codes "    OPTION Integer([05])"
unfolding digits encode_utf8 utf16_chars
option = refl

option_shown : pretty (style true true 2) 4 (node Universal false 2 (present (node Universal false 2 (integer (5 ∷ [])))))
    (form (Definite 0) (forms (form (Definite 1) no_forms) no_forms)) ≡ codes "    [Integer] 0 OPTION [Integer] 1 Integer([05])"
unfolding digits encode_utf8 utf16_chars
option_shown = refl

option_of_list : pretty (style true false 2) 4 (node Universal true 16 (present (node Universal true 16 (sequence (nodes (node Universal false 2 (integer (5 ∷ []))) no_nodes)))))
    (form (Definite 0) (forms (form (Definite 0) (forms (form (Definite 1) no_forms) no_forms)) no_forms)) ≡ codes "    OPTION Sequence[\n  Integer([05])]"
unfolding digits encode_utf8 utf16_chars
option_of_list = refl

-- a0 03 02 01 02, read behind its explicit tag
tagged_text : pretty (style true false 2) 0 (node ContextSpecific true 0 (tagged ContextSpecific 0 (node Universal false 2 (integer (2 ∷ [])))))
    (form (Definite 3) (forms (form (Definite 1) no_forms) no_forms)) ≡ codes "ContextSpecific [CONTEXT-SPECIFIC 0] {\n  Integer([02])}"
unfolding digits encode_utf8 utf16_chars
tagged_text = refl

tagged_shown : pretty (style true true 2) 0 (node ContextSpecific true 0 (tagged ContextSpecific 0 (node Universal false 2 (integer (2 ∷ [])))))
    (form (Definite 3) (forms (form (Definite 1) no_forms) no_forms)) ≡ codes "[0]+ 3 ContextSpecific [CONTEXT-SPECIFIC 0] {\n  [Integer] 1 Integer([02])}"
unfolding digits encode_utf8 utf16_chars
tagged_shown = refl

tagged_application : pretty (style true false 3) 1 (node Universal false 4294967295 (tagged Application 4294967295 (node Universal true 16 (sequence (nodes (node Universal false 5 null) no_nodes)))))
    (form (Definite 0) (forms (form (Definite 0) (forms (form (Definite 0) no_forms) no_forms)) no_forms)) ≡ codes " ContextSpecific [APPLICATION 4294967295] {\n    Sequence[\n       Null    ] }"
unfolding digits encode_utf8 utf16_chars
tagged_application = refl

-- items have nothing between them
two_integers : pretty (style true false 2) 0 (node Universal true 16 (sequence (nodes (node Universal false 2 (integer (1 ∷ 0 ∷ 1 ∷ [])))
    (nodes (node Universal false 2 (integer (1 ∷ 0 ∷ 0 ∷ []))) no_nodes)))) (form (Definite 10)
    (forms (form (Definite 3) no_forms) (forms (form (Definite 3) no_forms) no_forms))) ≡ codes "Sequence[\n  Integer([01 00 01])  Integer([01 00 00])]"
unfolding digits encode_utf8 utf16_chars
two_integers = refl

indented_list : pretty (style true false 2) 2 (node Universal true 16 (sequence no_nodes)) (form (Definite 0) no_forms) ≡ codes "  Sequence[\n  ]"
unfolding digits encode_utf8 utf16_chars
indented_list = refl

list_alone : pretty (style false false 2) 0 (node Universal true 16 (sequence (nodes (node Universal false 2 (integer (1 ∷ 0 ∷ 1 ∷ [])))
    (nodes (node Universal false 2 (integer (1 ∷ 0 ∷ 0 ∷ []))) no_nodes)))) (form (Definite 10) (forms (form (Definite 3) no_forms) (forms (form (Definite 3) no_forms) no_forms))) ≡ codes "Sequence"
unfolding digits encode_utf8 utf16_chars
list_alone = refl

set_in_sequence : pretty (style true false 3) 1 (node Universal true 16 (sequence (nodes (node Universal true 17
    (set (nodes (node Universal false 2 (integer (5 ∷ []))) (nodes (node Universal false 12 (string 12 (97 ∷ [])))
    (nodes (node ContextSpecific true 3 (unknown ContextSpecific true 3 (4 ∷ 4 ∷ 222 ∷ 173 ∷ 190 ∷ 239 ∷ []))) no_nodes))))) no_nodes)))
    (form Indefinite (forms (form (Definite 14) (forms (form (Definite 1) no_forms) (forms (form (Definite 1) no_forms)
    (forms (form (Definite 6) no_forms) no_forms)))) no_forms)) ≡ codes " Sequence[\n    Set[\n       Integer([05])       UTF8String(\"a\")       Unknown [04 04 de ad be ef]    ] ]"
unfolding digits encode_utf8 utf16_chars
set_in_sequence = refl

-- the header names a list
named_by_header : pretty (style true false 2) 0 (node Universal true 17 (sequence no_nodes)) (form (Definite 0) no_forms) ≡ codes "Set[\n]"
unfolding digits encode_utf8 utf16_chars
named_by_header = refl

named_by_other_header : pretty (style true false 2) 0 (node ContextSpecific true 0 (sequence (nodes (node Universal false 5 null) no_nodes)))
    (form (Definite 3) (forms (form (Definite 0) no_forms) no_forms)) ≡ codes "Set[\n  Null]"
unfolding digits encode_utf8 utf16_chars
named_by_other_header = refl

bmp_in_list : pretty (style true false 2) 0 (node Universal true 17 (set (nodes (node Universal false 30 (string 30 (0 ∷ 65 ∷ []))) (nodes (node Universal false 5 null) no_nodes))))
    (form (Definite 0) (forms (form (Definite 0) no_forms) (forms (form (Definite 0) no_forms) no_forms))) ≡ codes "Set[\n  BmpString(\"A\")\n  Null]"
unfolding digits encode_utf8 utf16_chars
bmp_in_list = refl

-- headers
shown_boolean : pretty (style true true 2) 0 (node Universal false 1 (boolean true)) (form (Definite 1) no_forms) ≡ codes "[Boolean] 1 Boolean(true)"
unfolding digits encode_utf8 utf16_chars
shown_boolean = refl

shown_indefinite : pretty (style false true 2) 0 (node Universal true 16 (sequence no_nodes)) (form Indefinite no_forms) ≡ codes "[Sequence]+ Indefinite Sequence"
unfolding digits encode_utf8 utf16_chars
shown_indefinite = refl

shown_application : pretty (style false true 2) 0 (node Application true 2 (unknown Application true 2 (2 ∷ 1 ∷ 2 ∷ []))) (form (Definite 3) no_forms) ≡ codes "[APPLICATION 2]+ 3 Unknown [02 01 02]"
unfolding digits encode_utf8 utf16_chars
shown_application = refl

unknown_universal : pretty (style true true 2) 0 (node Universal false 9 (unknown Universal false 9 (7 ∷ []))) (form (Definite 1) no_forms) ≡ codes "[RealType] 1 Unknown [07]"
unfolding digits encode_utf8 utf16_chars
unknown_universal = refl

unknown_application : pretty (style true true 2) 0 (node Application false 9 (unknown Application false 9 (7 ∷ []))) (form (Definite 1) no_forms) ≡ codes "[APPLICATION 9] 1 Unknown [07]"
unfolding digits encode_utf8 utf16_chars
unknown_application = refl

unknown_context : pretty (style true true 2) 0 (node ContextSpecific false 9 (unknown ContextSpecific false 9 (7 ∷ []))) (form (Definite 1) no_forms) ≡ codes "[9] 1 Unknown [07]"
unfolding digits encode_utf8 utf16_chars
unknown_context = refl

unknown_private : pretty (style true true 2) 0 (node Private false 9 (unknown Private false 9 (7 ∷ []))) (form (Definite 1) no_forms) ≡ codes "[PRIVATE 9] 1 Unknown [07]"
unfolding digits encode_utf8 utf16_chars
unknown_private = refl

unnamed_number : pretty (style true true 2) 0 (node Universal false 29 (unknown Universal false 29 (0 ∷ []))) (form (Definite 1) no_forms) ≡ codes "[Tag(29)] 1 Unknown [00]"
unfolding digits encode_utf8 utf16_chars
unnamed_number = refl

teletex : pretty (style true true 2) 0 (node Universal false 20 (string 20 (97 ∷ []))) (form (Definite 1) no_forms) ≡ codes "[TeletexString] 1 T61String(a)"
unfolding digits encode_utf8 utf16_chars
teletex = refl

largest_tag : pretty (style true true 2) 0 (node Universal true 4294967295 (unknown Universal true 4294967295 []))
    (form (Definite 18446744073709551615) no_forms) ≡ codes "[Tag(4294967295)]+ 18446744073709551615 Unknown []"
unfolding digits encode_utf8 utf16_chars
largest_tag = refl

nested_indefinite : pretty (style true true 5) 0 (node Universal true 16 (sequence (nodes (node Universal true 16 (sequence (nodes (node Universal true 16 (sequence (nodes (node Universal false 2 (integer (5 ∷ []))) no_nodes))) no_nodes))) no_nodes))) (form Indefinite (forms (form Indefinite (forms (form Indefinite (forms (form (Definite 1) no_forms) no_forms)) no_forms)) no_forms)) ≡ codes "[Sequence]+ Indefinite Sequence[\n     [Sequence]+ Indefinite Sequence[\n          [Sequence]+ Indefinite Sequence[\n               [Integer] 1 Integer([05])          ]     ]]"
unfolding digits encode_utf8 utf16_chars
nested_indefinite = refl

other_length : (n : ℕ) → n ≡ 19 → ¬ (n ≡ 20)
other_length n h e = omega (arith, h, e)

-- not so: a comma between items, an inner indent behind OPTION, quotes round a T61String
no_comma : ¬ (pretty (style true false 0) 0 (node Universal true 16 (sequence (nodes (node Universal false 5 null) (nodes (node Universal false 5 null) no_nodes))))
    (form (Definite 4) no_forms) ≡ codes "Sequence[\nNull,Null]")
unfolding digits encode_utf8 utf16_chars
no_comma e = other_length 19 refl (ap length e)

option_not_indented : ¬ (pretty (style true false 2) 1 (node Universal false 5 (present (node Universal false 5 null))) (form (Definite 0) no_forms) ≡ codes " OPTION    Null")
option_not_indented e = cc

not_quoted : ¬ (pretty (style true false 2) 0 (node Universal false 20 (string 20 (0x61 ∷ []))) (form (Definite 1) no_forms) ≡ codes "T61String(\"a\")")
not_quoted e = cc

-- indents stop at the greatest
further_stops : (further (style true false 2) 18446744073709551614 ≡ 18446744073709551615) × (further (style true false 18446744073709551615) 1 ≡ 18446744073709551615)
further_stops = (refl, refl)

abbrev set_at : Style → ℕ → List ℕ → List ℕ
set_at s n items = (spaces n ++ []) ++ (codes "Set" ++ (codes "[\n" ++ (items ++ []) ++ spaces n ++ codes "]"))

-- a list in a list, at any indent n
nested_at : (n : ℕ) → let s : Style = style true false 2 in
    pretty s n (node Universal true 16 (sequence (nodes (node Universal true 17 (set (nodes (node Universal false 5 null) no_nodes))) no_nodes))) (form (Definite 4) no_forms)
    ≡ (spaces n ++ []) ++ (codes "Sequence" ++ (codes "[\n" ++ (set_at s (further s n) ((spaces (further s (further s n)) ++ []) ++ codes "Null") ++ []) ++ spaces n ++ codes "]"))
nested_at n = refl

greatest_stays : further (style true false 2) 18446744073709551615 ≡ 18446744073709551615
greatest_stays = refl
