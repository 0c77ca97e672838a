-- The names of fields that a refusal has.
use Rattle.std.specs.Borrow.{Bor}
use Rattle.std.specs.Prelude.{◌≡◌, ℕ, ◌-◌, Bool, List, [], ◌∷◌, length, drop, Result, Ok, Err, MatchResult}
use Rattle.std.specs.Result.{IsErrAnd}
use Rattle.der_base.specs.declared.error.Err.{Err as Refused}
use Rattle.der_base.specs.declared.error.Error.{Error as BerError}
use Rattle.der_base.specs.declared.header.Class.{Class}
use Rattle.der_base.specs.Errors.{RefusesCutItem}
use Rattle.der_cursor.specs.declared.cursor.Cursor.{Cursor}
use Rattle.der_cursor.specs.declared.named.FieldError.{FieldError}
use Rattle.der_cursor.specs.declared.error.ReadError.{ReadError}
use Rattle.der_cursor.specs.Cursors.{OpensAt}

-- the names of the fields that a refused element is in, the outermost first
abbrev pub names_of : FieldError → List (Bor (List ℕ))
names_of f = f.names.items

-- the last eight names, which are the innermost
abbrev pub innermost : List (Bor (List ℕ)) → List (Bor (List ℕ))
innermost names = drop (length names - 8) names

-- the value, or the refusal with one name
abbrev pub NamesRefusal : {T : Type 0} → Result T (ReadError BerError) → Bor (List ℕ) → Result T FieldError → Type 0
NamesRefusal (Ok x) name result = result ≡ Ok x
NamesRefusal (Err e) name result = IsErrAnd result (λ f. (f.refusal ≡ e) × (names_of f ≡ name ∷ []))

-- the value, or the refusal with one name more in front
abbrev pub NamesMore : {T : Type 0} → Result T FieldError → Bor (List ℕ) → Result T FieldError → Type 0
NamesMore (Ok x) name result = result ≡ Ok x
NamesMore (Err e) name result = IsErrAnd result (λ f. (f.refusal ≡ e.refusal)
    × (names_of f ≡ innermost (name ∷ names_of e)))

-- the value, or the reason alone
abbrev pub reason_in : {T : Type 0} → Result T FieldError → Result T (Refused BerError)
reason_in (Ok x) = Ok x
reason_in (Err f) = Err f.refusal.reason

-- the same refusal, of a field of an element that is whole: no further octets mend it
pub record Settles (old new : ReadError BerError) : Type 0 where
  pub offset : new.offset ≡ old.offset
  pub list_end : new.list_end ≡ old.list_end
  pub reason : RefusesCutItem old.reason new.reason

pub record IsSettled (old new : FieldError) : Type 0 where
  pub names : new.names ≡ old.names
  pub refusal : Settles old.refusal new.refusal

-- The refusal of an input that is one element of this class, constructed bit and number: that of the element itself, as
-- `open` returns it, or else the old one, which no further octets mend.
abbrev pub IsOfElement : Class → Bool → ℕ → Cursor → ReadError BerError → ReadError BerError → Type 0
IsOfElement c p n input old new = (opening : Result Cursor (ReadError BerError)) × (after : Cursor)
    × OpensAt c p n input opening after × MatchResult opening (λ _. Settles old new) (λ e. new ≡ e)

pub record NamesOfElement (c : Class) (p : Bool) (n : ℕ) (input : Cursor) (old new : FieldError) : Type 0 where
  pub names : new.names ≡ old.names
  pub refusal : IsOfElement c p n input old.refusal new.refusal
