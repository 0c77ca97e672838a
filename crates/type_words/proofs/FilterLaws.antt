-- The filter that octets begin with.
use Rattle.std.proofs.Common.{ℕ, List, Ok, inl, subst}
use Rattle.std.specs.Global.{Vec}
use Rattle.der_base.specs.declared.error.Error.{Error as BerError}
use Rattle.der_base.specs.declared.rules.Rules.TheVariants.{Ber}
use Rattle.der_cursor.specs.declared.cursor.Cursor.{Cursor}
use Rattle.der_cursor.specs.declared.error.ReadError.{ReadError}
use Rattle.der_cursor.specs.Cursors.{StartsAt, octets_left, rules_of}
use Rattle.der_cursor.specs.Formats.{NoMemory, ReadsField}
use Rattle.messages.specs.declared.ldap.filter.FilterPart.{FilterPart}
use Rattle.messages.specs.Ldap.Filters.{FilterField, filter_of}
use Rattle.type_words.specs.Filters.{IsFilter}

-- a filter was read at the start of octets
pub filter_read : {w : List ℕ} {c d : Cursor} {x : Vec FilterPart} → StartsAt Ber w c
    → ReadsField {E = ReadError BerError} (FilterField 32) (λ (y : Vec FilterPart). filter_of y.items) NoMemory c (Ok x) d
    → IsFilter w (filter_of x.items)
filter_read {w} {c} {d} {x} s h =
    let v = filter_of x.items in
    let read = subst (λ i. FilterField 32 (rules_of c) i v (octets_left d)) s.0 (h s.4).found.0 in
    inl (octets_left d, subst (λ r. FilterField 32 r w v (octets_left d)) s.3 read)
