-- What octets begin with: an item of a list, an element, or none.
use Rattle.std.proofs.Common.{◌≡◌, ℕ, ◌-◌, ◌<◌, Bool, List, length, take, Ok, Err, arith, sym, subst}
use Rattle.der_base.specs.declared.error.Error.{Error as BerError}
use Rattle.der_base.specs.declared.header.Class.{Class}
use Rattle.der_base.specs.declared.rules.Rules.TheVariants.{Der}
use Rattle.der_cursor.specs.declared.cursor.Cursor.{Cursor}
use Rattle.der_cursor.specs.declared.error.ReadError.{ReadError}
use Rattle.der_cursor.specs.Cursors.{OpensAt, StartsAt, octets_left}
use Rattle.x509.specs.Formats.{Fault, Format, element, spells, with_octets}
use Rattle.x509.specs.Lists.{BeginsWithNone}
use Rattle.x509.specs.Readers.{ReadsBy, fault_of, spot_of}
use Rattle.x509.proofs.FormatLaws.{IsExact, shows_one}
use Rattle.x509.proofs.ReaderLaws.{element_less, element_read, element_taken}

-- where an item of a list is refused, the octets begin with none
pub no_item : {T V : Type 0} {view : T → V} {f : Format Fault V} {i : List ℕ} {c new : Cursor} {e : ReadError BerError} → IsExact f → StartsAt Der i c → ReadsBy fault_of view f c (Err e) new → BeginsWithNone f i
no_item {f = f} {c = c} {e = e} x s a = λ v rest b. (shows_one f x).not_both (spot_of c) v rest (fault_of e) (subst (λ z. spells f z v rest) (sym s.0) b) (a.reads (s.3, s.4))

-- an element has octets
pub no_octets : {k : Class} {p : Bool} {t : ℕ} {i : List ℕ} → length i ≡ 0 → BeginsWithNone (element k p t) i
no_octets {k = k} {p = p} {t = t} {i = i} e = λ v rest s. omega (arith, e, element_less Der k p t i (v, rest) s)

-- an element that was opened, with its octets
pub first_found : (k : Class) (p : Bool) (t : ℕ) {i : List ℕ} {c inner new : Cursor} → StartsAt Der i c → OpensAt k p t c (Ok inner) new
    → spells (with_octets (element k p t)) i (take (length i - length (octets_left new)) i, octets_left inner) (octets_left new) × (length (octets_left new) < length i)
first_found k p t {i = i} {c = c} {inner = inner} {new = new} s o =
    let r = subst (λ z. spells (element k p t) z (octets_left inner) (octets_left new)) s.0 ((element_read k p t o).reads (s.3, s.4)).0 in
    ((r, element_taken k p t i (octets_left inner) (octets_left new) r), element_less Der k p t i (octets_left inner, octets_left new) r)
