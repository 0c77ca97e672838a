-- How many characters a line has.
use Rattle.std.proofs.Common.{◌≡◌, ℕ, ◌+◌, ◌-◌, ◌≤◌, Bool, true, false, Option, List, ◌++◌, codes, length, if◌then◌else◌, arith, refl, subst, sym}
use Rattle.std.specs.Fmt.{char_count}
use Rattle.der_elements.specs.TypeNames.{type_text}
use Rattle.der_elements.specs.Visits.{Visited}
use Rattle.oid_names.specs.OwnNames.{Named}
use Rattle.der_print.specs.declared.style.Limit.TheVariants.{Columns}
use Rattle.der_print.specs.declared.style.Style.{Style}
use Rattle.der_print.specs.Cuts.{cut}
use Rattle.der_print.specs.Lines.{IsLineOf, bold, dim, field_text, front_text, limit_of, margin_text, plain}
use Rattle.der_print.proofs.CutLaws.{count_append, count_bounded, cut_fits}

-- texts one after another
all_counts : (d m p f b t q u e : List ℕ) → char_count (d ++ m ++ p ++ f ++ b ++ t ++ q ++ u ++ e)
    ≡ char_count m + char_count f + char_count t + char_count u + (char_count d + char_count p + char_count b + char_count q + char_count e)
all_counts d m p f b t q u e =
    omega (
      arith,
      count_append (d ++ m ++ p ++ f ++ b ++ t ++ q ++ u) e,
      count_append (d ++ m ++ p ++ f ++ b ++ t ++ q) u,
      count_append (d ++ m ++ p ++ f ++ b ++ t) q,
      count_append (d ++ m ++ p ++ f ++ b) t,
      count_append (d ++ m ++ p ++ f) b,
      count_append (d ++ m ++ p) f,
      count_append (d ++ m) p,
      count_append d m,
    )

letters_count : (colours : Bool) → char_count (dim colours) + char_count (plain colours) + char_count (bold colours) + char_count (plain colours) + char_count (codes "\n")
    ≡ 1 + (if colours then 16 else 0)
unfolding char_count
letters_count true = refl
letters_count false = refl

-- parts, each in what is left behind those before
parts_fit : (n : ℕ) (margin field kind value : List ℕ) → let m = cut (Columns n) margin in let f = cut (Columns (n - length m)) field in
    let t = cut (Columns (n - length m - length f)) kind in let u = cut (Columns (n - length m - length f - length t)) value in
    char_count m + char_count f + char_count t + char_count u ≤ n
parts_fit n margin field kind value =
    let m = cut (Columns n) margin in
    let f = cut (Columns (n - length m)) field in
    let t = cut (Columns (n - length m - length f)) kind in
    omega (
      arith,
      cut_fits n margin,
      cut_fits (n - length m) field,
      cut_fits (n - length m - length f) kind,
      cut_fits (n - length m - length f - length t) value,
      count_bounded m,
      count_bounded f,
      count_bounded t,
    )

whole_fits : (colours : Bool) (n : ℕ) (field value : List ℕ) (v : Visited) → char_count (front_text colours (Columns n) field v ++ cut (limit_of (Columns n) field v) value ++ codes "\n")
    ≤ n + 1 + (if colours then 16 else 0)
whole_fits colours n field value v =
    let margin = margin_text (Columns n) v in
    let m = cut (Columns n) margin in
    let f = cut (Columns (n - length m)) (field_text field) in
    let t = cut (Columns (n - length m - length f)) (type_text v.class v.number) in
    let u = cut (Columns (n - length m - length f - length t)) value in
    omega (
      arith,
      all_counts (dim colours) m (plain colours) f (bold colours) t (plain colours) u (codes "\n"),
      letters_count colours,
      parts_fit n margin (field_text field) (type_text v.class v.number) value,
    )

pub line_fits : {own : Option (List Named)} {field w line : List ℕ} (style : Style) (v : Visited) (n : ℕ) → style.limit ≡ Columns n → IsLineOf own field style v w line
    → char_count line ≤ n + 1 + (if style.colours then 16 else 0)
line_fits {field = field} style v n is l =
    let fits = subst (λ x. char_count (front_text style.colours x field v ++ cut (limit_of x field v) l.value ++ codes "\n") ≤ n + 1 + (if style.colours then 16 else 0)) (sym is)
    (whole_fits style.colours n field l.value v) in
    subst (λ x. char_count x ≤ n + 1 + (if style.colours then 16 else 0)) (sym l.whole) fits
