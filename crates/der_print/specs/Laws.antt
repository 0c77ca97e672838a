-- Laws of lines.
use Rattle.std.specs.Prelude.{◌≡◌, ℕ, ◌+◌, ◌≤◌, if◌then◌else◌, Option, List}
use Rattle.std.specs.Fmt.{char_count}
use Rattle.der_print.specs.declared.style.Limit.TheVariants.{Columns}
use Rattle.der_print.specs.declared.style.Style.{Style}
use Rattle.der_print.specs.Lines.{IsLineOf}
use Rattle.der_elements.specs.Visits.{Visited}
use Rattle.oid_names.specs.OwnNames.{Named}

-- a line has no more characters than columns, but for its end, and for 16 that begin and end special letters
abbrev pub LinesFit : Type 0
LinesFit = (own : Option (List Named)) (field : List ℕ) (style : Style) (v : Visited) (w line : List ℕ) (columns : ℕ)
    → style.limit ≡ Columns columns → IsLineOf own field style v w line
    → char_count line ≤ columns + 1 + (if style.colours then 16 else 0)
