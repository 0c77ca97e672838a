-- The labels of blocks and the names of files, as printed.
use Rattle.std.specs.Prelude.{ℕ, ◌==◌, ◌&&◌, nat_le, not, Bool, if◌then◌else◌}
use Rattle.std.specs.Prelude.{List, [], ◌∷◌, encode_utf8}
use Rattle.std.specs.List.{flat_map}
use Rattle.std.specs.Str.{chars}
use Rattle.der_base.specs.Pretty.{hex_pair}
use Rattle.der_print.specs.Quotes.{code_text, is_hidden}

-- printable ASCII other than a backslash
abbrev pub is_plain : ℕ → Bool
is_plain c = nat_le 0x20 c && nat_le c 0x7e && not (c == 0x5c)

abbrev pub octet_text : ℕ → List ℕ
octet_text c = if is_plain c then c ∷ [] else 0x5c ∷ 0x78 ∷ hex_pair c

abbrev pub label_text : List ℕ → List ℕ
label_text label = flat_map octet_text label

-- a character in the name of a file
abbrev pub character_text : ℕ → List ℕ
character_text c = if is_hidden c then code_text c else encode_utf8 c

-- the name of a file, with escapes for characters that are invisible or change the direction of text
abbrev pub name_text : List ℕ → List ℕ
name_text name = flat_map character_text (chars name)
