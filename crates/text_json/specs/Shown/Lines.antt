-- The lines of a summary, and the nesting of its words.
use Rattle.std.specs.Prelude.{ℕ, ◌-◌, ◌==◌, Bool, nat_lt, Option, Some, None, List, [], ◌∷◌, codes, drop, if◌then◌else◌}
use Rattle.std.specs.Prelude.{length, map}
use Rattle.std.specs.List.{after_first, before_first, prefix_len, take_while}
use Rattle.std.specs.Str.{trim_start}
use Rattle.std.specs.Str.Lines.{lines}
use Rattle.serde_json.specs.Data.{Data, array, member, no_members, null, number, object, string, unsigned}
use Rattle.serde_json.specs.View.{items_of}
use Rattle.text_json.specs.Shown.Forms.{data_of, form_of, heading_data}

-- how many octets of white space a line begins with
abbrev pub indent : List ℕ → ℕ
indent line = length line - length (trim_start line)

abbrev pub is_colon : ℕ → Bool
is_colon c = c == 0x3a

-- a text without its first character, if that is a space
abbrev pub after_space : List ℕ → List ℕ
after_space [] = []
after_space (c ∷ text) = if c == 0x20 then text else c ∷ text

abbrev pub not_empty : List ℕ → Option (List ℕ)
not_empty [] = None
not_empty (c ∷ text) = Some (c ∷ text)

-- the text before the first colon of a line, and the text after the colon and a space
abbrev pub name_on : List ℕ → List ℕ
name_on line = before_first is_colon (trim_start line)

abbrev pub value_on : List ℕ → Option (List ℕ)
value_on line = not_empty (after_space (after_first is_colon (trim_start line)))

abbrev pub text_or_null : Option (List ℕ) → Data
text_or_null (Some text) = string text
text_or_null None = null

-- the value of the line with this label, by the type of its values, or that of the heading of an extension
abbrev pub typed_or_null : List ℕ → Option (List ℕ) → Data
typed_or_null label (Some text) = data_of (form_of label) text
typed_or_null label None = heading_data label

abbrev pub number_or_null : Option ℕ → Data
number_or_null (Some n) = number (unsigned n)
number_or_null None = null

-- a line: how deep it is, and what its word says
pub record Line : Type 0 where
  pub indent : ℕ
  pub name : Data
  -- what is in front of the value
  pub kind : Data
  pub value : Data
  -- the offset of the element
  pub offset : Option ℕ

-- the line with this text
abbrev pub line_on : List ℕ → Line
line_on line = record {
  indent = indent line;
  name = string (name_on line);
  kind = null;
  value = typed_or_null (name_on line) (value_on line);
  offset = None;
}

-- the lines of a text
abbrev pub lines_on : List ℕ → List Line
lines_on text = map line_on (lines text)

-- the word of a line, with the words inside it
abbrev pub word : Line → List Data → Data
word l inside = object (member (codes "name") l.name (member (codes "offset") (number_or_null l.offset)
    (member (codes "type") l.kind (member (codes "value") l.value
    (member (codes "words") (array (items_of inside)) no_members)))))

-- a word, and the indent of its line
pub record Placed : Type 0 where
  pub indent : ℕ
  pub word : Data

abbrev pub is_deeper : ℕ → Placed → Bool
is_deeper n w = nat_lt n w.indent

-- the words of a line and of those after it: the deeper ones right after it are inside it
abbrev pub with_line : Line → List Placed → List Placed
with_line l after =
    let deeper = is_deeper l.indent in
    let inside = map (λ w. w.word) (take_while deeper after) in
    record { indent = l.indent; word = word l inside } ∷ drop (prefix_len deeper after) after

abbrev pub words_on : List Line → List Placed
words_on [] = []
words_on (line ∷ more) = with_line line (words_on more)

-- the words of lines
abbrev pub words_of : List Line → List Data
words_of ls = map (λ w. w.word) (words_on ls)

-- the words of a text
abbrev pub words_in : List ℕ → List Data
words_in text = words_of (lines_on text)
