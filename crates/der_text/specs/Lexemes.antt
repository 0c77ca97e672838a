-- The items of a text (docs/TEXT.md).
use Rattle.std.specs.Prelude.{ℕ, zero, suc, ◌+◌, ◌-◌, ◌==◌, ◌||◌, not, Bool, if◌then◌else◌}
use Rattle.std.specs.Prelude.{List, [], ◌∷◌, ◌++◌, length, map}
use Rattle.std.specs.Prelude.{◌≡◌, ◌⊎◌, MatchResult, take, drop, slice_index, position}
use Rattle.std.specs.Prelude.{Option, Some, None, Result, Ok, Err}
use Rattle.std.specs.Char.{is_ascii_alphanumeric}
use Rattle.std.specs.List.{prefix_len}
use Rattle.std.specs.Option.{option_and_then}
use Rattle.std.specs.declared.vec.Vec.{Vec}
use Rattle.std.specs.declared.alloc.Global.{Global}
use Rattle.hex.specs.declared.error.FromHexError.{FromHexError}
use Rattle.hex.specs.Hex.{decode_of}
use Rattle.der_text.specs.declared.error.Fault.{Fault}
use Rattle.der_text.specs.declared.error.Problem.{Problem}
use Rattle.der_text.specs.declared.error.Problem.TheVariants.{Word, Hexadecimal, Quote, Tag, NoBrace, OutOfMemory}
use Rattle.der_text.specs.declared.item.Form.{Form}
use Rattle.der_text.specs.declared.item.Form.TheVariants.{Shortest}
use Rattle.der_text.specs.declared.item.Item.{Item}
use Rattle.der_text.specs.declared.item.Item.TheVariants.{Octet, Open, Close}
use Rattle.der_text.specs.Encoded.{◌>>=◌, fault}
use Rattle.der_text.specs.Words.{tag_octets, word_form, word_octets}

-- space, tab, the end of a line
abbrev pub is_blank : ℕ → Bool
is_blank c = c == 32 || c == 9 || c == 10 || c == 13

-- letters, digits, and the four signs in words
abbrev pub is_word : ℕ → Bool
is_word c = is_ascii_alphanumeric c || c == 45 || c == 46 || c == 58 || c == 95

-- items, and how many octets of the text they take after the first
abbrev pub Lexeme : Type 0
Lexeme = List Item × ℕ

abbrev pub octet_items : List ℕ → List Item
octet_items w = map (λ o. Octet o) w

-- what ends a part of a line: a delimiter, or the line
abbrev pub ends_part : ℕ → ℕ → Bool
ends_part delimiter c = c == delimiter || c == 10

-- the part of a line before a delimiter
abbrev pub part_before : ℕ → List ℕ → Option (List ℕ)
part_before delimiter cs =
    option_and_then (λ n. if slice_index cs n == delimiter then Some (take n cs) else None)
    (position (ends_part delimiter) cs)

-- what a part of so many octets between delimiters means, if it means something
abbrev pub meant : Problem → ℕ → Option (List ℕ) → Result Lexeme Problem
meant p n None = Err p
meant p n (Some octets) = Ok (octet_items octets, n + 1)

abbrev pub delimited : Problem → (List ℕ → Option (List ℕ)) → Option (List ℕ) → Result Lexeme Problem
delimited p meaning None = Err p
delimited p meaning (Some part) = meant p (length part) (meaning part)

-- the octets of pairs of hexadecimal digits
abbrev pub if_decoded : Result (List ℕ) FromHexError → Option (List ℕ)
if_decoded (Ok w) = Some w
if_decoded (Err e) = None

-- a brace that follows the form of a length, which takes `used` octets of the text
abbrev pub brace_after : Form → ℕ → ℕ → List ℕ → Result Lexeme Problem
brace_after f left used cs =
    let blanks = prefix_len is_blank cs in
    if slice_index cs blanks == 123 then Ok (Open f left ∷ [], used + blanks) else Err NoBrace

abbrev pub form_lexeme : Option Form → ℕ → ℕ → List ℕ → Result Lexeme Problem
form_lexeme None left used cs = Err Word
form_lexeme (Some f) left used cs = brace_after f left used cs

abbrev pub word_lexeme : Option (List ℕ) → Option Form → ℕ → ℕ → List ℕ → Result Lexeme Problem
word_lexeme (Some octets) form left used cs = Ok (octet_items octets, used - 1)
word_lexeme None form left used cs = form_lexeme form left used cs

-- a word of so many octets, and for the form of a length the brace after it
abbrev pub word_of : ℕ → List ℕ → ℕ → Result Lexeme Problem
word_of left cs used = word_lexeme (word_octets (take used cs)) (word_form (take used cs)) left used (drop used cs)

abbrev pub word : ℕ → List ℕ → Result Lexeme Problem
word left cs = word_of left cs (prefix_len is_word cs)

-- What a text begins with: white space, a comment, a brace, octets in quotes or in hexadecimal, a tag or a word. The
-- first argument is the first octet.
unfoldable pub lexeme : ℕ → List ℕ → Result Lexeme Problem
lexeme c cs =
    let left = length cs + 1 in
    if is_blank c then Ok ([], 0)
    else if c == 35 then Ok ([], prefix_len (λ x. not (x == 10)) cs)
    else if c == 123 then Ok (Open Shortest left ∷ [], 0)
    else if c == 125 then Ok (Close left ∷ [], 0)
    else if c == 34 then delimited Quote Some (part_before 34 cs)
    else if c == 96 then delimited Hexadecimal (λ w. if_decoded (decode_of w)) (part_before 96 cs)
    else if c == 91 then delimited Tag tag_octets (part_before 93 cs)
    else word left (c ∷ cs)

abbrev pub or_fault : {A : Type 0} → ℕ → Result A Problem → Result A Fault
or_fault left (Ok x) = Ok x
or_fault left (Err p) = Err (fault p left)

-- the items of a text after so many octets that belong to earlier ones
abbrev pub items_after : List ℕ → ℕ → Result (List Item) Fault
items_after [] n = Ok []
items_after (c ∷ cs) (suc n) = items_after cs n
items_after (c ∷ cs) zero =
    or_fault (length cs + 1) (lexeme c cs) >>= λ x. items_after cs x.1 >>= λ is. Ok (x.0 ++ is)

abbrev pub items_of : List ℕ → Result (List Item) Fault
items_of text = items_after text 0

-- a result is this one, or out of memory
abbrev pub Lexes : Result Lexeme Problem → Result (Vec Item Global × ℕ) Problem → Type 0
Lexes r result = MatchResult result (λ x. r ≡ Ok (x.0.items, x.1)) (λ e. (e ≡ OutOfMemory) ⊎ (r ≡ Err e))
