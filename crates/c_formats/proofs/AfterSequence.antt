-- What follows the first element.
use Rattle.std.proofs.Common.{◌≡◌, ℕ, List, Ok, Err, true, sym, subst}
use Rattle.der_base.specs.declared.error.Error.{Error as BerError}
use Rattle.der_base.specs.declared.rules.Rules.TheVariants.{Der}
use Rattle.der_cursor.specs.declared.cursor.Cursor.{Cursor}
use Rattle.der_cursor.specs.declared.error.ReadError.{ReadError}
use Rattle.der_cursor.specs.Cursors.{OpensType, StartsAt, octets_left}
use Rattle.x509.specs.Formats.{sequence, spells}
use Rattle.x509.specs.Readers.{fault_of, spot_of}
use Rattle.x509.proofs.FormatLaws.{shows_one}
use Rattle.x509.proofs.ReaderLaws.{type_read}

pub after_opened : {i : List ℕ} {c inner new : Cursor} → StartsAt Der i c → OpensType true 16 c (Ok inner) new
    → (w rest : List ℕ) → spells sequence i w rest → octets_left new ≡ rest
after_opened {i = i} {c = c} {inner = inner} {new = new} s o w rest x =
    let r = subst (λ z. spells sequence z (octets_left inner) (octets_left new)) s.0 ((type_read true 16 o).reads (s.3, s.4)).0 in
    ((shows_one sequence tt).one_value i (octets_left inner) w (octets_left new) rest r x).1

pub never_refused : {i : List ℕ} {c new : Cursor} {e : ReadError BerError} → StartsAt Der i c → OpensType true 16 c (Err e) new
    → (w rest : List ℕ) → spells sequence i w rest → ⊥
never_refused {i = i} {c = c} {new = new} {e = e} s o w rest x =
    (shows_one sequence tt).not_both (spot_of c) w rest (fault_of e) (subst (λ z. spells sequence z w rest) (sym s.0) x) ((type_read true 16 o).reads (s.3, s.4))
