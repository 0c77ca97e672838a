-- Statements of the laws in `src/laws.rt`.
use Rattle.std.specs.Borrow.{Bor}
use Rattle.std.specs.Prelude.{◌≡◌, ℕ, Bool, List, ◌++◌, length, Result, IfOk}
use Rattle.der_base.specs.declared.error.Error.{Error as BerError}
use Rattle.der_base.specs.declared.header.Class.{Class}
use Rattle.der_base.specs.declared.rules.Rules.{Rules}
use Rattle.der_cursor.specs.declared.cursor.Cursor.{Cursor}
use Rattle.der_cursor.specs.declared.error.ReadError.{ReadError}
use Rattle.der_cursor.specs.Cursors.{octets_left, place_of, advanced, StartsAt, StandsIn, OpensAt}

-- the place of a cursor is the number of octets before those that are left
abbrev pub PlacesCount : Type 0
PlacesCount = (i : List ℕ) (c : Cursor) (s : StandsIn i c) → place_of c ≡ length s.front

-- a cursor over the whole input is in it
abbrev pub NewStand : Type 0
NewStand = (r : Rules) (i : List ℕ) (c : Cursor) → StartsAt r i c → StandsIn i c

-- one that is in it still is after a parser left an end of its octets
abbrev pub EndsStand : Type 0
EndsStand = (i : List ℕ) (c : Cursor) (taken : List ℕ) (rest : Bor (List ℕ)) → StandsIn i c
    → octets_left c ≡ taken ++ rest.now → StandsIn i (advanced c rest)

-- and so do the cursors that an opened element leaves
abbrev pub OpenedStand : Type 0
OpenedStand = (i : List ℕ) (class : Class) (constructed : Bool) (number : ℕ) (old new : Cursor)
    (result : Result Cursor (ReadError BerError)) → StandsIn i old → OpensAt class constructed number old result new
    → StandsIn i new × IfOk result (StandsIn i)
