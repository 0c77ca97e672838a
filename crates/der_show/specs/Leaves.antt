-- Elements whose inside has no lines: secret ones, and those that have a summary.
use Rattle.std.specs.Prelude.{◌⊎◌, ℕ, false, List, codes}
use Rattle.text_json.specs.Fields.Fields.{label_after, label_text}
use Rattle.text_json.specs.Fields.Secrets.{IsInOne, IsSecret}
use Rattle.der_print.specs.declared.style.Limit.TheVariants.{Front}
use Rattle.der_print.specs.declared.style.Style.{Style}
use Rattle.der_print.specs.Lines.{outline}
use Rattle.der_schema.specs.declared.schema.Schema.{Schema}
use Rattle.der_schema.specs.Meaning.{root_of}
use Rattle.der_elements.specs.Visits.{Visited}
use Rattle.der_show.specs.InWords.{IsInWords}

-- an element after others of an input is a leaf
abbrev pub IsLeaf : Schema → List ℕ → List Visited → Visited → Type 0
IsLeaf sc i before v = IsSecret (root_of sc) i before v ⊎ IsInWords i v

-- an element after others is inside a leaf
abbrev pub IsInLeaf : Schema → List ℕ → List Visited → Visited → Type 0
IsInLeaf sc i before v = IsInOne (IsLeaf sc i) before v

-- the name of the field of an element after others of an input
abbrev pub field_of : Schema → List ℕ → List Visited → Visited → List ℕ
field_of sc i before v = label_text (label_after (root_of sc) i before v)

-- only the first octets or characters of a long value are written, without colours
abbrev pub fields_style : Style
fields_style = record { limit = Front; colours = false }

-- the line of a leaf, which has this text instead of a value, and doesn't depend on the content
abbrev pub leaf_line : List ℕ → List ℕ → Visited → List ℕ
leaf_line ending field v = outline ending field fields_style v

-- the text instead of the value of an element that has a summary
abbrev pub words_text : List ℕ
words_text = codes " (in words below)"
