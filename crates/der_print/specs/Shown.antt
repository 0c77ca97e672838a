-- Text on one line.
use Rattle.std.specs.Prelude.{◌≡◌, ℕ, nat_le, ◌==◌, ◌&&◌, not, Bool, true, List}
use Rattle.std.specs.List.{list_all}

-- an octet that is no control character of ASCII
abbrev pub is_shown : ℕ → Bool
is_shown c = nat_le 0x20 c && not (c == 0x7f)

-- a text without control characters of ASCII, as a line end is
abbrev pub IsShown : List ℕ → Type 0
IsShown text = list_all is_shown text ≡ true
