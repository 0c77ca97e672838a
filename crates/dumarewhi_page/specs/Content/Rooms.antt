-- A buffer that takes texts.
use Rattle.std.specs.Prelude.{◌≡◌, ℕ, List}
use Rattle.c_values.specs.Texts.{PutsText}
use Rattle.dumarewhi_page.specs.declared.content.room.Room.{Room}

-- the buffer r takes a text, and is s then
abbrev pub TakesText : Room → List ℕ → Room → Type 0
TakesText r text s = (s.octets.ghost_name ≡ r.octets.ghost_name)
    × PutsText r.octets.now r.length text s.octets.now s.length
