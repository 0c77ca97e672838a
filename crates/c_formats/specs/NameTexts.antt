-- Names as text (RFC 4514), in a buffer of the caller's.
use Rattle.std.specs.Prelude.{◌≡◌, ℕ, List}
use Rattle.c_values.specs.declared.room.Script.{Script}
use Rattle.c_values.specs.Rooms.{written}
use Rattle.extension_text.specs.Names.Names.{IsName}

-- the text of the relative names that octets begin with, in these characters
abbrev pub IsNameText : Script → List ℕ → List ℕ → Type 0
IsNameText k i text = (t : List ℕ) × IsName i t × (text ≡ written k t)
