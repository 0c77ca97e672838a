-- What is written of a typed text has no float, and its numbers are what `parse` reads.
use Rattle.std.proofs.Common.{◌≡◌, ◌<◌, ◌^◌, ℕ, Bool, true, false, Option, Some, None, List, [], ◌∷◌, ◌++◌, length, map, refl, sym, ap, ◌∙◌, arith}
use Rattle.std.specs.Prelude.{◌==◌, ◌||◌, ◌&&◌, codes, nat_lt, if◌then◌else◌, IsTrue, Result, Ok, Err}
use Rattle.std.specs.Char.{is_ascii_digit}
use Rattle.std.specs.List.{after_first, before_first, list_all, slice_split}
use Rattle.std.specs.Option.{option_map_or}
use Rattle.std.specs.Result.{result_ok}
use Rattle.std.specs.Str.{all_ascii_digits}
use Rattle.std.specs.Str.Parse.{digits_value, ParsesUnsigned}
use Rattle.std.proofs.lemmas.Bool.Decides.{nat_tests}
use Rattle.std.proofs.lemmas.Str.Parse.{IsNumeralModel, numerals_by_value, tells_all_ascii_digits, parse_digits}
use Rattle.serde_json.specs.Data.{Data, boolean, null, number, string, unsigned}
use Rattle.serde_json.specs.View.{items_of}
use Rattle.serde_json.specs.Written.{has_float, items_have_float}
use Rattle.der_base.specs.OidArcs.{is_arc}
use Rattle.der_base.specs.TreeEquality.{same_octets}
use Rattle.der_base.proofs.Oids.Arcs.{and_first, and_second}
use Rattle.text_json.specs.declared.shown.form.Form.{Form}
use Rattle.text_json.specs.declared.shown.form.Form.TheVariants as form
use Rattle.text_json.specs.Shown.Forms.{arcs_data, boolean_data, data_of, decimal, extension_data, feature_data, form_of, has_name, hex_text, identifier_data}
use Rattle.text_json.specs.Shown.Forms.{is_comma, is_heading, is_hex, is_space, length_data, name_before, named, number_data}
use Rattle.text_json.specs.Shown.Forms.{octets_data, size_by, size_data, small_number, time_data}
use Rattle.text_json.specs.Shown.Lines.{typed_or_null}
use Rattle.text_json.proofs.ShownLaws.ItemLaws.{both, either}

-- No floats.

plain_if : (m : Option ℕ) (f : ℕ → Data) (d : Data) → ((n : ℕ) → has_float (f n) ≡ false) → has_float d ≡ false
    → has_float (option_map_or f m d) ≡ false
plain_if None f d each other = other
plain_if (Some n) f d each other = each n

plain_number : (t : List ℕ) → has_float (number_data t) ≡ false
plain_number t = plain_if (small_number t) (λ n. number (unsigned n)) (string t) (λ n. refl) refl

plain_size_by : (t unit : List ℕ) (n : ℕ) → has_float (size_by t unit n) ≡ false
plain_size_by t unit n =
    let octets = same_octets unit (codes "octets") || same_octets unit (codes "octet") in
    either (same_octets unit (codes "bits")) (number (unsigned n)) (if octets then length_data n else string t) refl
    (either octets (length_data n) (string t) refl refl)

plain_size : (t : List ℕ) → has_float (size_data t) ≡ false
plain_size t =
    let unit = after_first is_space t in
    plain_if (small_number (before_first is_space t)) (size_by t unit) (string t) (plain_size_by t unit) refl

plain_octets : (t : List ℕ) → has_float (octets_data t) ≡ false
plain_octets t = either (is_hex t) (hex_text t) (size_data t) refl (plain_size t)

plain_name : (t : List ℕ) → has_float (name_before t) ≡ false
plain_name t = either (has_name t) (string (before_first is_space t)) null refl refl

plain_identifier : (t : List ℕ) → has_float (identifier_data t) ≡ false
plain_identifier t =
    either (is_hex t) (octets_data t) (arcs_data t) (plain_octets t) (both (has_float (name_before t)) false (plain_name t) refl)

plain_feature : (t : List ℕ) → has_float (feature_data t) ≡ false
plain_feature t = both (has_float (name_before t)) _ (plain_name t)
    (both (has_float (number_data (named t))) false (plain_number (named t)) refl)

plain_boolean : (t : List ℕ) → has_float (boolean_data t) ≡ false
plain_boolean t =
    let otherwise = same_octets t (codes "false") in
    either (same_octets t (codes "true")) (boolean true) (if otherwise then boolean false else string t) refl
    (either otherwise (boolean false) (string t) refl refl)

plain_time : (t : List ℕ) → has_float (time_data t) ≡ false
plain_time t =
    let rest = after_first is_space t in
    let time = before_first is_space t ++ codes "T" ++ before_first is_space rest ++ codes "Z" in
    either (same_octets (after_first is_space rest) (codes "UTC")) (string time) (string t) refl refl

pub plain_strings : (ts : List (List ℕ)) → items_have_float (items_of (map string ts)) ≡ false
plain_strings [] = refl
plain_strings (t ∷ ts) = plain_strings ts

plain_data : (f : Form) (t : List ℕ) → has_float (data_of f t) ≡ false
plain_data form.Text t = refl
plain_data form.Number t = plain_number t
plain_data form.Boolean t = plain_boolean t
plain_data form.Octets t = plain_octets t
plain_data form.Time t = plain_time t
plain_data form.Identifier t = plain_identifier t
plain_data form.Feature t = plain_feature t
plain_data form.Words t = plain_strings (slice_split is_space t)

plain_heading : (t : List ℕ) → has_float (extension_data t) ≡ false
plain_heading t = both (has_float (name_before (before_first is_comma t))) false (plain_name (before_first is_comma t)) refl

pub plain_typed_or_null : (label : List ℕ) (t : Option (List ℕ)) → has_float (typed_or_null label t) ≡ false
plain_typed_or_null label None = either (is_heading label) (extension_data label) null (plain_heading label) refl
plain_typed_or_null label (Some t) = plain_data (form_of label) t

-- Decimal numbers.

numerals : IsNumeralModel (λ ds. all_ascii_digits ds ≡ true) (digits_value 10)
numerals = numerals_by_value _ tells_all_ascii_digits

-- the three tests of a number
tests : (ds : List ℕ) → IsTrue (is_arc ds)
    → (nat_lt 0 (length ds) ≡ true) × (all_ascii_digits ds ≡ true) × (nat_lt (digits_value 10 ds) (2 ^ 64) ≡ true)
tests ds h =
    let small = nat_lt (digits_value 10 ds) (2 ^ 64) in
    let more = and_second (nat_lt 0 (length ds)) (all_ascii_digits ds && small) h in (
      and_first (nat_lt 0 (length ds)) (all_ascii_digits ds && small) h,
      and_first (all_ascii_digits ds) small more,
      and_second (all_ascii_digits ds) small more,
    )

number_is : (ds : List ℕ) → all_ascii_digits ds ≡ true → 0 < length ds → digits_value 10 ds < 2 ^ 64 → is_arc ds ≡ true
number_is ds digits some small =
    let t : nat_lt 0 (length ds) ≡ true = grind (arith, nat_tests) in
    let u : nat_lt (digits_value 10 ds) (2 ^ 64) ≡ true = grind (arith, nat_tests) in
    ap (λ x. x && (all_ascii_digits ds && nat_lt (digits_value 10 ds) (2 ^ 64))) t
    ∙ ap (λ x. x && nat_lt (digits_value 10 ds) (2 ^ 64)) digits ∙ u

not_true : (b : Bool) → ¬ (b ≡ true) → b ≡ false
not_true true h = absurd (h refl)
not_true false h = refl

if_arc : (ds : List ℕ) (b : Bool) → is_arc ds ≡ b → decimal ds ≡ (if b then Some (digits_value 10 ds) else None)
if_arc ds b e = ap (λ x. if x then Some (digits_value 10 ds) else None) e

same_digits : (ds : List ℕ) → all_ascii_digits ds ≡ list_all is_ascii_digit ds
same_digits [] = refl
same_digits (d ∷ ds) = ap (λ b. is_ascii_digit d && b) (same_digits ds)

pub no_digits : (ds : List ℕ) → list_all is_ascii_digit ds ≡ false → None ≡ decimal ds
no_digits ds h =
    let e : all_ascii_digits ds ≡ false = same_digits ds ∙ h in
    let none : is_arc ds ≡ false = not_true (is_arc ds) (λ is. let t = (tests ds is).1 in grind (arith, t, e)) in
    sym (if_arc ds false none)

pub parsed : {E : Type 0} (ds : List ℕ) (r : Result ℕ E) → ParsesUnsigned 64 10 ds r → list_all is_ascii_digit ds ≡ true
    → result_ok r ≡ decimal ds
parsed {E} ds (Ok n) h all =
    let digits : all_ascii_digits ds ≡ true = same_digits ds ∙ all in
    let q = parse_digits numerals {E = E} 64 ds (Ok n) h digits in
    ap Some q.1 ∙ sym (if_arc ds true (number_is ds digits q.0.0 q.0.1))
parsed {E} ds (Err e) h all =
    let digits : all_ascii_digits ds ≡ true = same_digits ds ∙ all in
    let q = parse_digits numerals {E = E} 64 ds (Err e) h digits in
    let none : is_arc ds ≡ false =
    not_true (is_arc ds) (λ is. let t = tests ds is in q (grind (arith, nat_tests), grind (arith, nat_tests))) in
    sym (if_arc ds false none)
