-- The lines of items.
use Rattle.std.proofs.Common.{◌≡◌, ℕ, Bool, true, false, Option, Some, None, List, [], ◌∷◌, ◌++◌, map, refl, sym, ap, subst, ◌∙◌}
use Rattle.std.specs.Prelude.{◌==◌, ◌||◌, if◌then◌else◌, ℤ, pos, negsuc}
use Rattle.std.specs.List.{All, flat_map}
use Rattle.std.proofs.lemmas.List.Elements.{All-append, All-cons, All-nil}
use Rattle.serde_json.specs.Data.{Data, negative, number, string, unsigned}
use Rattle.serde_json.specs.View.{items_of}
use Rattle.serde_json.specs.Written.{has_float, items_have_float}
use Rattle.der_elements.specs.Visits.{Visited}
use Rattle.der_schema.specs.declared.words.Notation.{Notation}
use Rattle.der_schema.specs.declared.words.Notation.TheVariants as notation
use Rattle.der_base.specs.Octets.{integer_value}
use Rattle.text_json.specs.declared.shown.items.ItemLines.{ItemLines}
use Rattle.text_json.specs.Numbers.{json_number, number_or, number_text}
use Rattle.text_json.specs.Shown.Items.{AddsItem, AreItemLines, IsItemLine, IsItemValue, flag_data, hex_data, no_lines, one_more, part, text_data}
use Rattle.text_json.specs.Shown.Lines.{Line, not_empty, text_or_null}
use Rattle.text_json.specs.Shown.Words.{line_view}
use Rattle.type_words.specs.Items.{Said, content_in}
use Rattle.type_words.specs.Texts.{name_among}
use Rattle.der_schema.specs.declared.words.NumberName.{NumberName}
use Rattle.text_json.specs.Shown.Items.{named_number}
use Rattle.type_words.specs.Puts.{PutsAll, puts_more, puts_none}

pub all_lines : {s t : ItemLines} {xs : List Said} → PutsAll AddsItem s xs t → s.lines.items ≡ []
    → AreItemLines xs (map line_view t.lines.items)
all_lines (puts_none none same) start = no_lines none (ap (λ u. map line_view u.lines.items) (sym same) ∙ ap (map line_view) start)
all_lines (puts_more before x u more front put) start =
    one_more before x (map line_view u.lines.items) put.0 more put.2 (all_lines front start) put.1

-- What is written has no float.

pub both : (a b : Bool) → a ≡ false → b ≡ false → (a || b) ≡ false
both a b e f = ap (λ x. x || b) e ∙ f

plain_or_null : (t : Option (List ℕ)) → has_float (text_or_null t) ≡ false
plain_or_null None = refl
plain_or_null (Some t) = refl

pub either : (b : Bool) (c d : Data) → has_float c ≡ false → has_float d ≡ false → has_float (if b then c else d) ≡ false
either true c d e f = e
either false c d e f = f

plain_integer : (text : List ℕ) (z : ℤ) → has_float (number_or text z) ≡ false
plain_integer text (pos n) = either _ (number (unsigned n)) (string text) refl refl
plain_integer text (negsuc n) = either _ (number (negative (negsuc n))) (string text) refl refl

plain_number : (w : List ℕ) → has_float (json_number w) ≡ false
plain_number w = plain_integer (number_text w) (integer_value w)

plain_flag : (w : List ℕ) → has_float (flag_data w) ≡ false
plain_flag [] = refl
plain_flag (b ∷ []) = refl
plain_flag (b ∷ c ∷ w) = refl

plain_named : (names : List NumberName) (w : List ℕ) → has_float (named_number names w) ≡ false
plain_named names w =
    let name = text_or_null (name_among names w) in
    both (has_float name) (has_float (json_number w) || false) (plain_or_null (name_among names w))
    (both (has_float (json_number w)) false (plain_number w) refl)

plain_first : (b : Bool) (d : Data) (ds : List Data) → has_float d ≡ false → items_have_float (items_of ds) ≡ false
    → items_have_float (items_of ((if b then d ∷ [] else []) ++ ds)) ≡ false
plain_first true d ds e f = both (has_float d) (items_have_float (items_of ds)) e f
plain_first false d ds e f = f

plain_parts : (w : List ℕ) (vs : List Visited) → items_have_float (items_of (flat_map (part w) vs)) ≡ false
plain_parts w [] = refl
plain_parts w (v ∷ vs) =
    plain_first (v.depth == 0) (text_data (content_in w v)) (flat_map (part w) vs) refl (plain_parts w vs)

plain_value : (n : Notation) (w : List ℕ) (d : Data) → IsItemValue n w d → has_float d ≡ false
plain_value notation.Silent w d e = ap has_float e
plain_value notation.Skipped w d e = ap has_float e
plain_value notation.Title w d e = ap has_float e
plain_value notation.Label w d e = ap has_float e
plain_value (notation.Word word) w d e = ap has_float e
plain_value notation.Count w d is = ap has_float is.2
plain_value notation.Number w d e = ap has_float e ∙ plain_number w
plain_value (notation.NumberOf names) w d e = ap has_float e ∙ plain_named names.now w
plain_value (notation.NameOf names) w d e = ap has_float e ∙ plain_named names.now w
plain_value notation.Arcs w d is =
    ap has_float is.2 ∙ both (has_float (text_or_null is.0)) false (plain_or_null is.0) refl
plain_value notation.Octets w d e = ap has_float e ∙ either _ (text_data w) (hex_data w) refl refl
plain_value notation.Hex w d e = ap has_float e
plain_value notation.Length w d e = ap has_float e
plain_value notation.Address w d e = ap has_float e ∙ either _ (string _) (hex_data w) refl refl
plain_value notation.Boolean w d e = ap has_float e ∙ plain_flag w
plain_value notation.Text w d e = ap has_float e
plain_value notation.TextOrHex w d e = ap has_float e ∙ either _ (text_data w) (hex_data w) refl refl
plain_value notation.GeneralizedTime w d is = ap has_float is.2
plain_value notation.Joined w d is =
    let parts = is.1 in
    ap has_float is.2 ∙ ap (λ ds. items_have_float (items_of ds)) parts.3 ∙ plain_parts w parts.0
plain_value notation.Filter w d is = ap has_float is.2

-- what a line says has no float
pub record PlainLine (l : Line) : Type 0 where
  pub name : has_float l.name ≡ false
  pub kind : has_float l.kind ≡ false
  pub value : has_float l.value ≡ false

plain_item : (x : Said) (l : Line) → IsItemLine x l → PlainLine l
plain_item x l is = record {
  name = ap has_float is.name;
  kind = ap has_float is.kind ∙ plain_or_null (not_empty x.kind);
  value = plain_value x.notation x.octets l.value is.value;
}

pub plain_items : {xs : List Said} {ls : List Line} → AreItemLines xs ls → All PlainLine ls
plain_items (no_lines none same) = subst (All PlainLine) (sym same) (All-nil PlainLine)
plain_items (one_more before x lines l more same front is) = subst (All PlainLine) (sym same)
    (All-append PlainLine lines (l ∷ []) (plain_items front) (All-cons PlainLine l [] (plain_item x l is) (All-nil PlainLine)))
