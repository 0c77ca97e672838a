-- Search filters of LDAP (RFC 4511 4.5.1.7): which one octets are, and its text (RFC 4515 3).
use Rattle.std.specs.Prelude.{◌≡◌, ◌⊎◌, ℕ, ◌&&◌, not, Bool, true, false, if◌then◌else◌, Option, Some, None}
use Rattle.std.specs.Prelude.{List, [], ◌∷◌, ◌++◌, codes}
use Rattle.std.specs.Borrow.{Bor}
use Rattle.std.specs.List.{flat_map}
use Rattle.der_base.specs.declared.rules.Rules.TheVariants.{Ber}
use Rattle.der_base.specs.Pretty.{hex_pair}
use Rattle.der_base.specs.Text.{is_one_of, is_within}
use Rattle.messages.specs.declared.ldap.filter.Connective.{Connective}
use Rattle.messages.specs.declared.ldap.filter.Connective.TheVariants.{And, Or, Not}
use Rattle.messages.specs.declared.ldap.filter.FilterPart.{FilterPart}
use Rattle.messages.specs.declared.ldap.filter.FilterPart.TheVariants.{Open, Close, Comparison, Substrings, Present}
use Rattle.messages.specs.declared.ldap.filter.FilterPart.TheVariants.{Extensible}
use Rattle.messages.specs.declared.ldap.filter.Piece.{Piece}
use Rattle.messages.specs.declared.ldap.filter.Place.{Place}
use Rattle.messages.specs.declared.ldap.filter.Place.TheVariants.{Initial, Final}
use Rattle.messages.specs.declared.ldap.filter.Relation.{Relation}
use Rattle.messages.specs.declared.ldap.filter.Relation.TheVariants.{Equal, GreaterOrEqual, LessOrEqual, Approximate}
use Rattle.messages.specs.Ldap.Filters.{FilterField, Part, filter_of}

-- octets begin with a filter, in which at most 32 are inside each other
abbrev pub BeginsWithFilter : List ℕ → List Part → Type 0
BeginsWithFilter w parts = (rest : List ℕ) × FilterField 32 Ber w parts rest

-- the filter that octets begin with, or no parts if they begin with none
abbrev pub IsFilter : List ℕ → List Part → Type 0
IsFilter w parts = BeginsWithFilter w parts ⊎ (((v : List Part) → ¬ BeginsWithFilter w v) × (parts ≡ []))

-- Texts.

-- characters that have a meaning in filters: ( ) * \
abbrev pub is_special : ℕ → Bool
is_special b = is_one_of (0x28 ∷ 0x29 ∷ 0x2a ∷ 0x5c ∷ []) b

-- other ASCII that can be printed
abbrev pub is_normal : ℕ → Bool
is_normal b = is_within 0x20 0x7e b && not (is_special b)

-- a backslash and an octet in two hexadecimal digits
abbrev pub pair_text : ℕ → List ℕ
pair_text b = codes "\\" ++ hex_pair b

-- an octet of a value: normal, or escaped
abbrev pub octet_text : ℕ → List ℕ
octet_text b = if is_normal b then b ∷ [] else pair_text b

-- assertionvalue = valueencoding; an attribute and a rule are written so too, since their octets may be any
abbrev pub assertion_text : List ℕ → List ℕ
assertion_text w = flat_map octet_text w

-- and = AMPERSAND filterlist, or = VERTBAR filterlist, not = EXCLAMATION filter
abbrev pub connective_text : Connective → List ℕ
connective_text And = codes "(&"
connective_text Or = codes "(|"
connective_text Not = codes "(!"

-- filtertype = equal / approx / greaterorequal / lessorequal
abbrev pub relation_text : Relation → List ℕ
relation_text Equal = codes "="
relation_text GreaterOrEqual = codes ">="
relation_text LessOrEqual = codes "<="
relation_text Approximate = codes "~="

-- simple = attr filtertype assertionvalue
abbrev pub comparison_text : Relation → List ℕ → List ℕ → List ℕ
comparison_text k a v = codes "(" ++ assertion_text a ++ relation_text k ++ assertion_text v ++ codes ")"

-- present = attr EQUALS ASTERISK
abbrev pub present_text : List ℕ → List ℕ
present_text a = codes "(" ++ assertion_text a ++ codes "=*)"

-- substring = attr EQUALS [initial] any [final], any = ASTERISK *(assertionvalue ASTERISK): an asterisk follows each
-- piece but a final one, and is before the first one if that isn't initial
abbrev pub star_unless_initial : Place → List ℕ
star_unless_initial Initial = []
star_unless_initial p = codes "*"

abbrev pub star_before : List Piece → List ℕ
star_before [] = codes "*"
star_before (x ∷ xs) = star_unless_initial x.place

abbrev pub star_unless_final : Place → List ℕ
star_unless_final Final = []
star_unless_final p = codes "*"

abbrev pub piece_text : Piece → List ℕ
piece_text x = assertion_text x.value.now ++ star_unless_final x.place

abbrev pub pieces_text : List Piece → List ℕ
pieces_text pieces = flat_map piece_text pieces

abbrev pub substrings_text : List ℕ → List Piece → List ℕ
substrings_text a pieces =
    codes "(" ++ assertion_text a ++ codes "=" ++ star_before pieces ++ pieces_text pieces ++ codes ")"

-- extensible = attr [dnattrs] [matchingrule] COLON EQUALS assertionvalue / [dnattrs] matchingrule COLON EQUALS ..
abbrev pub name_text : Option (Bor (List ℕ)) → List ℕ
name_text (Some a) = assertion_text a.now
name_text None = []

-- dnattrs = COLON "dn"
abbrev pub flag_text : Option Bool → List ℕ
flag_text (Some true) = codes ":dn"
flag_text (Some false) = []
flag_text None = []

-- matchingrule = COLON oid
abbrev pub rule_text : Option (Bor (List ℕ)) → List ℕ
rule_text (Some a) = codes ":" ++ assertion_text a.now
rule_text None = []

abbrev pub extensible_text : Option (Bor (List ℕ)) → Option (Bor (List ℕ)) → List ℕ → Option Bool → List ℕ
extensible_text rule a v flag =
    codes "(" ++ name_text a ++ flag_text flag ++ rule_text rule ++ codes ":=" ++ assertion_text v ++ codes ")"

-- filter = LPAREN filtercomp RPAREN
abbrev pub part_text : FilterPart → List ℕ
part_text (Open c) = connective_text c
part_text Close = codes ")"
part_text (Comparison k a v) = comparison_text k a.now v.now
part_text (Substrings a pieces) = substrings_text a.now pieces.items
part_text (Present a) = present_text a.now
part_text (Extensible k a v d) = extensible_text k a v.now d

-- the parts of a filter, one after another
abbrev pub filter_text : List FilterPart → List ℕ
filter_text parts = flat_map part_text parts

-- the text of the filter that octets begin with, or none
abbrev pub IsFilterText : List ℕ → List ℕ → Type 0
IsFilterText w text = (parts : List FilterPart) × IsFilter w (filter_of parts) × (text ≡ filter_text parts)
