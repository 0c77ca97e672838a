-- Names of object identifiers.
use Rattle.std.specs.Borrow.{Bor}
use Rattle.std.specs.Prelude.{ℕ, nat_le, if◌then◌else◌, Option, Some, None}
use Rattle.std.specs.Prelude.{List, [], ◌++◌, codes, length, map, take}
use Rattle.std.specs.List.{concat}
use Rattle.std.specs.Option.{option_map}
use Rattle.std.specs.Str.{chars}
use Rattle.oid_names.specs.OwnNames.{Named, entries_in}
use Rattle.oid_names.specs.declared.own.OwnNames.{OwnNames}
use Rattle.der_print.specs.declared.pieces.Piece.TheVariants.{Character}
use Rattle.der_print.specs.declared.style.Limit.{Limit}
use Rattle.der_print.specs.declared.style.Limit.TheVariants.{Whole, Front, Columns}
use Rattle.der_print.specs.Quotes.{piece_text}

-- the entries of a table of one's own, if there is one
abbrev pub table_of : Option (Bor OwnNames) → Option (List Named)
table_of own = option_map (λ names. entries_in names.now) own

-- how many characters are printed of a name of so many octets, which has no more of them; where columns are counted,
-- the line's end is cut
abbrev pub printed_of_name : Limit → ℕ → ℕ
printed_of_name Whole n = n
printed_of_name Front n = 120
printed_of_name (Columns columns) n = n

-- a name with escapes as in quotes, or its first characters
abbrev pub cut_name : Limit → List ℕ → List ℕ
cut_name limit name = let texts = map piece_text (map (λ c. Character c) (chars name)) in
    let n = printed_of_name limit (length name) in
    if nat_le (length texts) n then concat (take n texts) else concat (take n texts) ++ codes "..."

-- a space and the name, if there is one
abbrev pub name_text : Limit → Option (List ℕ) → List ℕ
name_text limit (Some name) = codes " " ++ cut_name limit name
name_text limit None = []
