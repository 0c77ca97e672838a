-- What is written has no float, so that its text is exact.
use Rattle.std.proofs.Common.{◌≡◌, ℕ, suc, zero, Bool, true, false, List, [], ◌∷◌, drop, take, map, Option, Some, None, refl, sym}
use Rattle.std.specs.Prelude.{◌||◌}
use Rattle.std.proofs.lemmas.Bool.{false≢true}
use Rattle.std.proofs.lemmas.List.Elements.{All-cons, All-head, All-nil, All-tail}
use Rattle.std.specs.List.{All, prefix_len, take_while}
use Rattle.std.specs.Option.{option_map}
use Rattle.std.specs.Str.Lines.{lines}
use Rattle.std.specs.Str.Lossy.{utf8_lossy}
use Rattle.serde_json.specs.Data.{Data, string}
use Rattle.serde_json.specs.View.{items_of}
use Rattle.serde_json.specs.Written.{has_float, items_have_float}
use Rattle.text_json.specs.declared.shown.object.Source.{Source}
use Rattle.type_words.specs.Items.{Said}
use Rattle.text_json.specs.Shown.Items.{AreItemLines}
use Rattle.text_json.specs.Shown.Lines.{Line, Placed, is_deeper, line_on, lines_on, name_on, number_or_null, text_or_null, value_on, word, words_in}
use Rattle.text_json.specs.Shown.Lines.{words_of, words_on}
use Rattle.text_json.specs.Shown.Objects.{refused_data, shown_data, shown_members}
use Rattle.text_json.proofs.ShownLaws.FormLaws.{plain_strings, plain_typed_or_null}
use Rattle.text_json.proofs.ShownLaws.ItemLaws.{PlainLine, both, plain_items}

abbrev pub Plain : List Data → Type 0
Plain ds = items_have_float (items_of ds) ≡ false

first : (a b : Bool) → (a || b) ≡ false → a ≡ false
first true b e = e
first false b e = refl

second : (a b : Bool) → (a || b) ≡ false → b ≡ false
second true b e = absurd (false≢true (sym e))
second false b e = e

plain_text : (t : Option (List ℕ)) → has_float (text_or_null t) ≡ false
plain_text None = refl
plain_text (Some t) = refl

plain_number : (n : Option ℕ) → has_float (number_or_null n) ≡ false
plain_number None = refl
plain_number (Some n) = refl

plain_word : (l : Line) (inside : List Data) → PlainLine l → Plain inside → has_float (word l inside) ≡ false
plain_word l inside is h =
    let words = items_have_float (items_of inside) || false in
    both (has_float l.name) (has_float (number_or_null l.offset) || (has_float l.kind || (has_float l.value || words))) is.name
    (both (has_float (number_or_null l.offset)) (has_float l.kind || (has_float l.value || words)) (plain_number l.offset)
    (both (has_float l.kind) (has_float l.value || words) is.kind
    (both (has_float l.value) words is.value (both (items_have_float (items_of inside)) false h refl))))

plain_taken : (k : ℕ) (ws : List Placed) → Plain (map (λ w. w.word) ws) → Plain (map (λ w. w.word) (take k ws))
plain_taken zero ws h = refl
plain_taken (suc k) [] h = refl
plain_taken (suc k) (w ∷ ws) h =
    let rest = items_have_float (items_of (map (λ x. x.word) ws)) in
    both (has_float w.word) (items_have_float (items_of (map (λ x. x.word) (take k ws)))) (first (has_float w.word) rest h) (plain_taken k ws (second (has_float w.word) rest h))

plain_dropped : (k : ℕ) (ws : List Placed) → Plain (map (λ w. w.word) ws) → Plain (map (λ w. w.word) (drop k ws))
plain_dropped zero ws h = h
plain_dropped (suc k) [] h = refl
plain_dropped (suc k) (w ∷ ws) h = plain_dropped k ws (second (has_float w.word) (items_have_float (items_of (map (λ x. x.word) ws))) h)

plain_words : (ls : List Line) → All PlainLine ls → Plain (words_of ls)
plain_words [] all = refl
plain_words (l ∷ ls) all =
    let after = words_on ls in
    let k = prefix_len (is_deeper l.indent) after in
    let inside = map (λ w. w.word) (take_while (is_deeper l.indent) after) in
    let rest = plain_words ls (All-tail PlainLine l ls all) in
    both (has_float (word l inside)) (items_have_float (items_of (map (λ w. w.word) (drop k after))))
    (plain_word l inside (All-head PlainLine l ls all) (plain_taken k after rest)) (plain_dropped k after rest)

plain_lines : (ts : List (List ℕ)) → All PlainLine (map line_on ts)
plain_lines [] = All-nil PlainLine
plain_lines (t ∷ ts) =
    All-cons PlainLine (line_on t) (map line_on ts) (record { name = refl; kind = refl; value = plain_typed_or_null (name_on t) (value_on t) }) (plain_lines ts)

plain_on : (text : List ℕ) → Plain (words_in text)
plain_on text = plain_words (lines_on text) (plain_lines (lines text))

pub plain_shown : (s : Source) (before words : List ℕ) (keeps : Bool) → has_float (shown_data s before words keeps) ≡ false
plain_shown s before words keeps =
    let label = text_or_null (option_map (λ x. x.now) s.label) in
    let texts = items_have_float (items_of (map string (lines (utf8_lossy before)))) in
    let inside = items_have_float (items_of (words_in (utf8_lossy words))) in
    both (has_float (number_or_null s.block)) (has_float label || (texts || (inside || false))) (plain_number s.block)
    (both (has_float label) (texts || (inside || false)) (plain_text (option_map (λ x. x.now) s.label))
    (both texts (inside || false) (plain_strings (lines (utf8_lossy before)))
    (both inside false (plain_on (utf8_lossy words)) refl)))

pub plain_refused : (s : Source) (error : List ℕ) (offset : Option ℕ) (words : List ℕ) → has_float (refused_data s error offset words) ≡ false
plain_refused s error offset words =
    let label = text_or_null (option_map (λ x. x.now) s.label) in
    let inside = items_have_float (items_of (words_in (utf8_lossy words))) in
    both (has_float (number_or_null s.block)) (has_float label || (has_float (number_or_null offset) || (inside || false))) (plain_number s.block)
    (both (has_float label) (has_float (number_or_null offset) || (inside || false)) (plain_text (option_map (λ x. x.now) s.label))
    (both (has_float (number_or_null offset)) (inside || false) (plain_number offset) (both inside false (plain_on (utf8_lossy words)) refl)))

pub plain_typed : (s : Source) {xs : List Said} (ls : List Line) → AreItemLines xs ls → has_float (shown_members s [] (words_of ls) true) ≡ false
plain_typed s ls are =
    let label = text_or_null (option_map (λ x. x.now) s.label) in
    let inside = items_have_float (items_of (words_of ls)) in
    both (has_float (number_or_null s.block)) (has_float label || (inside || false)) (plain_number s.block)
    (both (has_float label) (inside || false) (plain_text (option_map (λ x. x.now) s.label))
    (both inside false (plain_words ls (plain_items are)) refl))
