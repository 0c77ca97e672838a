-- What is printed of a part of a line where so much is left of the line.
use Rattle.std.specs.Prelude.{ℕ, ◌-◌, nat_le, if◌then◌else◌, List, ◌++◌, codes, length, take}
use Rattle.std.specs.Fmt.{char_count, take_chars}
use Rattle.der_print.specs.declared.style.Limit.{Limit}
use Rattle.der_print.specs.declared.style.Limit.TheVariants.{Whole, Front, Columns}

-- how much is printed where so many columns are needed for something else
abbrev pub limit_without : Limit → ℕ → Limit
limit_without Whole columns = Whole
limit_without Front columns = Front
limit_without (Columns all) columns = Columns (all - columns)

-- how much is left behind a text
abbrev pub behind : Limit → List ℕ → Limit
behind limit text = limit_without limit (length text)

-- a text in so many columns, one for each character: all of it, or its first characters and three points, or as many
-- points as there are columns
abbrev pub in_columns : ℕ → List ℕ → List ℕ
in_columns n text = if nat_le (char_count text) n then text else take_chars (n - 3) text ++ take n (codes "...")

-- a part of a line, as much as fits in what is left
abbrev pub cut : Limit → List ℕ → List ℕ
cut (Columns n) text = in_columns n text
cut Whole text = text
cut Front text = text
