-- Texts that a cursor of C reads.
use Rattle.std.specs.Borrow.{Bor}
use Rattle.std.specs.Prelude.{◌≡◌, ℕ, ◌⊎◌, true, false, List, Result, Ok, Err}
use Rattle.der_base.specs.declared.error.Err.TheVariants.{Error}
use Rattle.der_base.specs.declared.error.Error.{Error as BerError}
use Rattle.der_base.specs.declared.error.Error.TheVariants.{BerTypeError}
use Rattle.der_base.specs.Text.{is_text_type}
use Rattle.der_cursor.specs.declared.cursor.Cursor.{Cursor}
use Rattle.der_cursor.specs.declared.error.ReadError.{ReadError}
use Rattle.der_cursor.specs.Cursors.{ReadsValue, refusal_at}
use Rattle.der_values.specs.Kinds.{texts}

-- A text of the string type with this tag number (8.23). A type that isn't kept as a text is an error.
abbrev pub ReadsText : ℕ → Cursor → Result (Bor (List ℕ)) (ReadError BerError) → Cursor → Type 0
ReadsText t old result new = ((is_text_type t ≡ true) × ReadsValue (λ v. v.now) (texts t) t old result new)
    ⊎ ((is_text_type t ≡ false) × (result ≡ Err (refusal_at old (Error BerTypeError))) × (new ≡ old))

abbrev pub HasSameOctets : Result (Bor (List ℕ)) (ReadError BerError) → Result (Bor (List ℕ)) (ReadError BerError) → Type 0
HasSameOctets (Ok x) (Ok y) = y.now ≡ x.now
HasSameOctets (Err e) (Err f) = f ≡ e
HasSameOctets (Ok x) (Err f) = ⊥
HasSameOctets (Err e) (Ok y) = ⊥
