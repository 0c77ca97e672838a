-- What is written of a text is what is written of its octets.
use Rattle.std.proofs.Common.{List, ℕ, ap, ◌∙◌}
use Rattle.std.specs.Borrow.{Bor}
use Rattle.std.specs.Prelude.{Result, Ok, Err}
use Rattle.der_base.specs.declared.error.Error.{Error as BerError}
use Rattle.der_cursor.specs.declared.cursor.Cursor.{Cursor}
use Rattle.der_cursor.specs.declared.error.ReadError.{ReadError}
use Rattle.c_values.specs.declared.cursor.DmCursor.{DmCursor}
use Rattle.c_values.specs.declared.fault.DmFault.{DmFault}
use Rattle.c_values.specs.declared.octets.DmOctets.{DmOctets}
use Rattle.c_values.specs.Cursors.{Finishes, IsOctets, moved_fault}
use Rattle.c_formats.specs.CursorTexts.{HasSameOctets}

pub same_finish : (text octets : Result (Bor (List ℕ)) (ReadError BerError)) (old : DmCursor) (c : Cursor) (new : DmCursor) (v v' : DmOctets) (f : DmFault) → HasSameOctets text octets
    → Finishes IsOctets old c octets new v v' f → Finishes IsOctets old c text new v v' f
same_finish (Ok x) (Ok y) old c new v v' f same h = (h.0, (h.1.0 ∙ same, h.1.1))
same_finish (Err e) (Err g) old c new v v' f same h = (h.0, (h.1.0, h.1.1 ∙ ap (moved_fault old) same))
same_finish (Ok x) (Err g) old c new v v' f same h = absurd same
same_finish (Err e) (Ok y) old c new v v' f same h = absurd same
