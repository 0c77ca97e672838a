-- A buffer that takes texts.
use Rattle.std.specs.List.{flat_map}
use Rattle.std.specs.Prelude.{◌≡◌, ℕ, ◌⊎◌, nat_lt, if◌then◌else◌, List, [], ◌∷◌, ◌++◌, codes}
use Rattle.der_base.specs.Pretty.{hex_pair}
use Rattle.c_values.specs.declared.room.Room.{Room}
use Rattle.c_values.specs.declared.room.Script.{Script}
use Rattle.c_values.specs.declared.room.Script.TheVariants.{Utf8, Ascii}
use Rattle.c_values.specs.Texts.{PutsText}

-- an octet of a text in ASCII: one of another character is a pair of hexadecimal digits (RFC 4514 2.4)
abbrev pub ascii : ℕ → List ℕ
ascii b = if nat_lt b 0x80 then b ∷ [] else codes "\\" ++ hex_pair b

abbrev pub written : Script → List ℕ → List ℕ
written Utf8 text = text
written Ascii text = flat_map ascii text

-- the buffer r takes a text, and is s then
abbrev pub TakesText : Room → List ℕ → Room → Type 0
TakesText r text s = (s.octets.ghost_name ≡ r.octets.ghost_name) × (s.script ≡ r.script)
    × PutsText r.octets.now r.length (written r.script text) s.octets.now s.length

-- One of the texts that are right is written to the start of the buffer, as far as there is room, and n is its length.
-- Or else n is 0.
abbrev pub PutsOne : (List ℕ → Type 0) → List ℕ → List ℕ → ℕ → Type 0
PutsOne right old new n = (n ≡ 0) ⊎ ((text : List ℕ) × right text × PutsText old 0 text new n)
