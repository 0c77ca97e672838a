-- The calls that a list parser makes of the parser of its items, and how they end. Of their lists BER and DER say the
-- same (X.690 8.10, 8.12).
use Rattle.std.specs.Prelude.{◌≡◌, ℕ, ◌-◌, ◌<◌, ◌≤◌, List, [], ◌∷◌, ◌++◌, length, take, Result, Ok, Err}
use Rattle.std.specs.Borrow.{Bor}
use Rattle.std.specs.Global.{Vec}
use Rattle.der_base.specs.declared.error.Err.{Err as Refused}
use Rattle.der_base.specs.declared.error.Err.TheVariants.{Incomplete, Error, Failure, OutOfMemory}
use Rattle.der_base.specs.declared.error.ErrorKind.{ErrorKind}
use Rattle.der_base.specs.declared.error.ErrorKind.TheVariants.{Eof, Many0}
use Rattle.der_base.specs.declared.error.Needed.{Needed}
use Rattle.der_base.specs.Containers.{Answered}

-- the octets that a call takes: the front of its input that its rest no longer has
abbrev pub taken : List ℕ → List ℕ → List ℕ
taken i rest = take (length i - length rest) i

-- `step` is what the parser promises of a call: its state and its input, the result, and the state that it is left in.
module _ {F O E : Type 0} (step : F → Bor (List ℕ) → Answered O E → F → Type 0) where
  -- The parser was called on i, and then on what each call left. Each call returned a value and left less than it was
  -- given. The parser went from f to g, and j is left. vs are the values, and ss what each call took.
  pub data Calls (f : F) (i : List ℕ) : List O → List (List ℕ) → F → List ℕ → Type 0 where
    no_call : Calls f i [] [] f i
    one_more : {m g : F} {vs : List O} {ss : List (List ℕ)} {j : List ℕ} {p r : Bor (List ℕ)} {v : O}
        → Calls f i vs ss m j → step m p (Ok (r, v)) g → p.now ≡ j → length r.now < length j
        → Calls f i (vs ++ v ∷ []) (ss ++ taken j r.now ∷ []) g r.now

  module _ (from_error_kind_gives : Bor (List ℕ) → ErrorKind → E → Type 0) where
    -- One call more, on j, ends the list after the values vs.
    pub data LastCall (f : F) (j : List ℕ) (vs : List O) : Result (List O) (Refused E) → F → Type 0 where
      -- Incomplete where nothing is left is the end of the list
      at_end : {g : F} {p : Bor (List ℕ)} {n : Needed} → step f p (Err (Incomplete n)) g → p.now ≡ j → length j ≡ 0
          → LastCall f j vs (Ok vs) g
      -- and where octets are left, Eof at them
      left_over : {g : F} {p : Bor (List ℕ)} {n : Needed} {e : E} → step f p (Err (Incomplete n)) g → p.now ≡ j
          → 1 ≤ length j → from_error_kind_gives p Eof e → LastCall f j vs (Err (Error e)) g
      -- an Error becomes a Failure: no other parser is to be tried
      refused : {g : F} {p : Bor (List ℕ)} {e : E} → step f p (Err (Error e)) g → p.now ≡ j
          → LastCall f j vs (Err (Failure e)) g
      failed : {g : F} {p : Bor (List ℕ)} {e : E} → step f p (Err (Failure e)) g → p.now ≡ j
          → LastCall f j vs (Err (Failure e)) g
      out_of_memory : {g : F} {p : Bor (List ℕ)} → step f p (Err OutOfMemory) g → p.now ≡ j
          → LastCall f j vs (Err OutOfMemory) g
      -- a rest that is not shorter is Many0 at that call's input
      stuck : {g : F} {p r : Bor (List ℕ)} {v : O} {e : E} → step f p (Ok (r, v)) g → p.now ≡ j
          → length j ≤ length r.now → from_error_kind_gives p Many0 e → LastCall f j vs (Err (Error e)) g
      -- the list itself found no memory for the value
      no_room : {g : F} {p r : Bor (List ℕ)} {v : O} → step f p (Ok (r, v)) g → p.now ≡ j
          → length r.now < length j → LastCall f j vs (Err OutOfMemory) g

    -- the calls on the content octets w take the parser from f to g, and the last one decides the result
    pub record ListSteps (w : List ℕ) (f : F) (answer : Result (List O) (Refused E)) (g : F) : Type 0 where
      pub values : List O
      pub spellings : List (List ℕ)
      pub between : F
      pub left : List ℕ
      pub calls : Calls f w values spellings between left
      pub last : LastCall between left values answer g

-- the values that a list parser returns, or why there are none; what a container leaves of its content is dropped
abbrev pub items_of : {O E : Type 0} → Answered (Vec O) E → Result (List O) (Refused E)
items_of (Ok x) = Ok x.1.items
items_of (Err e) = Err e
