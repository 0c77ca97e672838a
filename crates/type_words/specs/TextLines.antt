-- How lines of text grow.
use Rattle.std.specs.Prelude.{◌≡◌, ℕ, List, ◌++◌}
use Rattle.std.specs.Fmt.{IsPlainFormatter}
use Rattle.type_words.specs.declared.text.Text.{Text}
use Rattle.type_words.specs.declared.text.TextLines.{TextLines}
use Rattle.type_words.specs.Items.{Said}
use Rattle.type_words.specs.Lines.{IsLine}

abbrev pub octets_in : Text → List ℕ
octets_in t = t.octets.items

abbrev pub text_in : TextLines → List ℕ
text_in s = octets_in s.f.writer

-- if the formatter is plain, it has written the line of an item
abbrev pub AddsLine : TextLines → Said → TextLines → Type 0
AddsLine s x t = IsPlainFormatter s.f → (line : List ℕ) × IsLine x line × IsPlainFormatter t.f
    × (text_in t ≡ text_in s ++ line)
