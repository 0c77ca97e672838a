-- Characters in the octets of a string (X.690 8.23), by how the octets encode them.
use Rattle.std.specs.Prelude.{ℕ, Option, Some, None, List, [], ◌∷◌, ◌++◌}
use Rattle.std.specs.Char.{encode_utf8}
use Rattle.std.specs.Char.Utf16.{utf16_chars}
use Rattle.der_base.specs.Pretty.{utf32_chars}
use Rattle.der_base.specs.Text.{units}
use Rattle.der_object.specs.declared.wide_strings.Coding.{Coding}
use Rattle.der_object.specs.declared.wide_strings.Coding.TheVariants.{Utf16, Utf32}

-- the characters; None for octets that encode none
abbrev pub chars_of : Coding → List ℕ → List (Option ℕ)
chars_of Utf16 w = utf16_chars (units w)
chars_of Utf32 w = utf32_chars w

-- the text of those that are characters
abbrev pub text_of_chars : List (Option ℕ) → List ℕ
text_of_chars [] = []
text_of_chars (None ∷ cs) = text_of_chars cs
text_of_chars (Some c ∷ cs) = encode_utf8 c ++ text_of_chars cs
