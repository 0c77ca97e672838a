-- The typed values of the lines of certificates, CRLs, certification requests and keys.
use Rattle.std.specs.Prelude.{ℕ, ◌^◌, ◌%◌, ◌==◌, ◌||◌, ◌&&◌, nat_le, nat_lt, Bool, true, false, if◌then◌else◌, Option, Some, None}
use Rattle.std.specs.Prelude.{List, [], ◌∷◌, ◌++◌, codes, find, length, map}
use Rattle.std.specs.Char.{is_ascii_digit}
use Rattle.std.specs.List.{after_first, before_first, list_all, slice_split}
use Rattle.std.specs.Option.{option_and_then, option_map, option_map_or, unwrap_or}
use Rattle.std.specs.Str.Parse.{digits_value}
use Rattle.serde_json.specs.Data.{Data, array, boolean, member, no_members, null, number, object, string, unsigned}
use Rattle.serde_json.specs.View.{items_of}
use Rattle.der_base.specs.OidArcs.{is_arc}
use Rattle.der_base.specs.TreeEquality.{same_octets}
use Rattle.text_json.specs.declared.shown.form.Form.{Form}
use Rattle.text_json.specs.declared.shown.form.Form.TheVariants as form
use Rattle.text_json.specs.declared.shown.form.TheConstants.{CONSTRAINTS, FIELDS, KEYS, LISTS, NAMES, OTHERS}
use Rattle.text_json.specs.declared.shown.form.TheConstants.{POLICIES, TIMES}

-- the type in the first row with a label
abbrev pub row_of : {T : Type 0} → List (record { now : List ℕ } × T) → List ℕ → Option T
row_of rows label = option_map (λ row. row.1) (find (λ row. same_octets row.0.now label) rows)

unfoldable pub field_form : List ℕ → Option Form
field_form label = row_of FIELDS.now label

unfoldable pub time_form : List ℕ → Option Form
time_form label = row_of TIMES.now label

unfoldable pub key_form : List ℕ → Option Form
key_form label = row_of KEYS.now label

unfoldable pub name_form : List ℕ → Option Form
name_form label = row_of NAMES.now label

unfoldable pub policy_form : List ℕ → Option Form
policy_form label = row_of POLICIES.now label

unfoldable pub constraint_form : List ℕ → Option Form
constraint_form label = row_of CONSTRAINTS.now label

unfoldable pub list_form : List ℕ → Option Form
list_form label = row_of LISTS.now label

unfoldable pub other_form : List ℕ → Option Form
other_form label = row_of OTHERS.now label

-- the type in the tables; a label that isn't there is that of a text
abbrev pub extension_form : List ℕ → Form
extension_form label = unwrap_or (name_form label) (unwrap_or (policy_form label) (unwrap_or (constraint_form label)
    (unwrap_or (list_form label) (unwrap_or (other_form label) form.Text))))

abbrev pub form_of : List ℕ → Form
form_of label = unwrap_or (field_form label) (unwrap_or (time_form label) (unwrap_or (key_form label)
    (extension_form label)))

-- Parts of texts.

abbrev pub is_space : ℕ → Bool
is_space c = c == 0x20

abbrev pub is_opening : ℕ → Bool
is_opening c = c == 0x28

abbrev pub is_closing : ℕ → Bool
is_closing c = c == 0x29

abbrev pub is_comma : ℕ → Bool
is_comma c = c == 0x2c

-- arcs with points between them
abbrev pub is_of_arcs : ℕ → Bool
is_of_arcs c = is_ascii_digit c || c == 0x2e

abbrev pub is_dotted : List ℕ → Bool
is_dotted t = nat_lt 0 (length t) && list_all is_of_arcs t

-- the number in decimal digits, up to 2^64-1
abbrev pub decimal : List ℕ → Option ℕ
decimal t = if is_arc t then Some (digits_value 10 t) else None

-- a number up to 2^53-1, which JSON readers keep exactly (RFC 8259 6)
abbrev pub if_small : ℕ → Option ℕ
if_small n = if nat_lt n (2 ^ 53) then Some n else None

abbrev pub small_number : List ℕ → Option ℕ
small_number t = option_and_then if_small (decimal t)

abbrev pub is_hex_digit : ℕ → Bool
is_hex_digit c = is_ascii_digit c || (nat_le 0x61 c && nat_le c 0x66)

-- octets in hexadecimal
abbrev pub is_hex : List ℕ → Bool
is_hex t = list_all is_hex_digit t && (length t % 2 == 0)

-- Values. A text that isn't of its type stays a text.

abbrev pub number_data : List ℕ → Data
number_data t = option_map_or (λ n. number (unsigned n)) (small_number t) (string t)

abbrev pub length_data : ℕ → Data
length_data n = object (member (codes "length") (number (unsigned n)) no_members)

-- a number of bits is a number, and of octets a length
abbrev pub size_by : List ℕ → List ℕ → ℕ → Data
size_by t unit n =
    if same_octets unit (codes "bits") then number (unsigned n)
    else if same_octets unit (codes "octets") || same_octets unit (codes "octet") then length_data n
    else string t

abbrev pub size_data : List ℕ → Data
size_data t = option_map_or (size_by t (after_first is_space t)) (small_number (before_first is_space t)) (string t)

abbrev pub boolean_data : List ℕ → Data
boolean_data t =
    if same_octets t (codes "true") then boolean true else if same_octets t (codes "false") then boolean false
    else string t

abbrev pub hex_text : List ℕ → Data
hex_text t = object (member (codes "hex") (string t) no_members)

abbrev pub octets_data : List ℕ → Data
octets_data t = if is_hex t then hex_text t else size_data t

-- date-time (RFC 3339 5.6), from the date, the time and its zone
abbrev pub time_by : List ℕ → List ℕ → List ℕ → List ℕ → Data
time_by t date time zone =
    if same_octets zone (codes "UTC") then string (date ++ codes "T" ++ time ++ codes "Z") else string t

abbrev pub time_data : List ℕ → Data
time_data t =
    let rest = after_first is_space t in
    time_by t (before_first is_space t) (before_first is_space rest) (after_first is_space rest)

-- the name before what is in parentheses, and what is in them
abbrev pub has_name : List ℕ → Bool
has_name t = nat_lt 0 (length (after_first is_opening t))

abbrev pub name_before : List ℕ → Data
name_before t = if has_name t then string (before_first is_space t) else null

abbrev pub named : List ℕ → List ℕ
named t = if has_name t then before_first is_closing (after_first is_opening t) else t

abbrev pub arcs_data : List ℕ → Data
arcs_data t = object (member (codes "arcs") (string (named t)) (member (codes "name") (name_before t) no_members))

-- an identifier, which has a point, or octets
abbrev pub identifier_data : List ℕ → Data
identifier_data t = if is_hex t then octets_data t else arcs_data t

abbrev pub feature_data : List ℕ → Data
feature_data t = object (member (codes "name") (name_before t) (member (codes "number") (number_data (named t)) no_members))

abbrev pub words_data : List ℕ → Data
words_data t = array (items_of (map string (slice_split is_space t)))

-- the heading of an extension: its identifier, and whether it is critical
abbrev pub is_heading : List ℕ → Bool
is_heading t = is_dotted (named (before_first is_comma t))

abbrev pub extension_data : List ℕ → Data
extension_data t =
    let identifier = before_first is_comma t in
    object (member (codes "arcs") (string (named identifier))
    (member (codes "critical") (boolean (same_octets (after_first is_comma t) (codes " critical")))
    (member (codes "name") (name_before identifier) no_members)))

abbrev pub heading_data : List ℕ → Data
heading_data t = if is_heading t then extension_data t else null

-- the value of a text of this type
abbrev pub data_of : Form → List ℕ → Data
data_of form.Text t = string t
data_of form.Number t = number_data t
data_of form.Boolean t = boolean_data t
data_of form.Octets t = octets_data t
data_of form.Time t = time_data t
data_of form.Identifier t = identifier_data t
data_of form.Feature t = feature_data t
data_of form.Words t = words_data t
