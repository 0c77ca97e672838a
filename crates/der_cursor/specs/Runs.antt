-- The calls that `read_all` makes of the reader of one item, and how they end.
use Rattle.std.specs.Borrow.{Bor, MutBor}
use Rattle.std.specs.Prelude.{◌≡◌, ◌≢◌, ℕ, ◌<◌, ◌≤◌, List, [], ◌∷◌, ◌++◌, length, Result, Ok, Err}
use Rattle.std.specs.Global.{Vec}
use Rattle.der_base.specs.declared.error.Err.TheVariants.{Error, OutOfMemory}
use Rattle.der_base.specs.declared.error.ErrorKind.{ErrorKind}
use Rattle.der_base.specs.declared.error.ErrorKind.TheVariants.{Many0}
use Rattle.der_cursor.specs.declared.cursor.Cursor.{Cursor}
use Rattle.der_cursor.specs.declared.error.ReadError.{ReadError}
use Rattle.der_cursor.specs.Cursors.{octets_left, refusal_at}

-- the values, or the refusal
abbrev pub values_of : {O E : Type 0} → Result (Vec O) (ReadError E) → Result (List O) (ReadError E)
values_of (Ok v) = Ok v.items
values_of (Err e) = Err e

-- `step` is what the reader promises of a call: its state and the cursor, its result, and the cursor and the state
-- after the call.
module _ {F O E : Type 0} (step : F → MutBor Cursor → Result O (ReadError E) → MutBor Cursor → F → Type 0) where
  -- one call, at the cursor b, which goes on as d
  abbrev pub CallsAt : F → Cursor → Result O (ReadError E) → Cursor → F → Type 0
  CallsAt f b r d g = (before behind : MutBor Cursor) × step f before r behind g × (before.now ≡ b) × (behind.now ≡ d)

  -- The reader was called at the cursor c, and then where each call left it. Each call found octets, returned a value
  -- and left fewer octets. It went from f to g, the cursor to d, and vs are the values.
  pub data Calls (f : F) (c : Cursor) : List O → F → Cursor → Type 0 where
    no_call : Calls f c [] f c
    one_more : {m g : F} {vs : List O} {b d : Cursor} {v : O} → Calls f c vs m b → octets_left b ≢ []
        → CallsAt m b (Ok v) d g → length (octets_left d) < length (octets_left b) → Calls f c (vs ++ v ∷ []) g d

  module _ (from_error_kind_gives : Bor (List ℕ) → ErrorKind → E → Type 0) where
    -- one call more, at the cursor b, ends the run without the values
    pub data StopsAt (f : F) (b : Cursor) : ReadError E → Type 0 where
      -- the reader's own refusal
      refused : {g : F} {d : Cursor} {e : ReadError E} → CallsAt f b (Err e) d g → StopsAt f b e
      -- no fewer octets are left, which is Many0 at the place of the call
      stuck : {g : F} {d : Cursor} {v : O} {x : E} → CallsAt f b (Ok v) d g
          → length (octets_left b) ≤ length (octets_left d) → from_error_kind_gives b.left Many0 x
          → StopsAt f b (refusal_at b (Error x))
      -- there is no memory for the value
      no_room : {g : F} {d : Cursor} {v : O} → CallsAt f b (Ok v) d g
          → StopsAt f b (refusal_at b OutOfMemory)

    -- the values of all calls, where the last one left nothing, or the refusal of one more
    abbrev pub ReadsAll : F → Cursor → Result (List O) (ReadError E) → Type 0
    ReadsAll f c (Ok vs) = (g : F) × (d : Cursor) × Calls f c vs g d × (octets_left d ≡ [])
    ReadsAll f c (Err e) = (vs : List O) × (m : F) × (b : Cursor) × Calls f c vs m b × (octets_left b ≢ [])
        × StopsAt m b e
