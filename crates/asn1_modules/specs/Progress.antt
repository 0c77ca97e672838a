-- How far a reader has come: each step leaves fewer lexical items, so that reading ends.
use Rattle.std.specs.Prelude.{◌<◌, ◌≤◌}
use Rattle.asn1_modules.specs.declared.parser.cursor.Cursor.{Cursor}

-- an item was read at least
abbrev pub Advances : Cursor → Cursor → Type 0
Advances old new = new.left < old.left

-- no item that was read is left again
abbrev pub NeverBack : Cursor → Cursor → Type 0
NeverBack old new = new.left ≤ old.left
