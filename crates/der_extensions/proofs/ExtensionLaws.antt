-- What a reader of a value that stands in a struct needs besides the laws of der_cursor.
use Rattle.std.proofs.Common.{◌≡◌, Err, Ok, false, ap, sym, subst, ◌∙◌}
use Rattle.der_cursor.specs.declared.cursor.Cursor.{Cursor}
use Rattle.der_cursor.specs.Cursors.{octets_left, rules_of}
use Rattle.der_cursor.specs.Formats.{Field, ReadsField}

-- a value that was read, in a struct
pub wrapped : {T U V E : Type 0} {F : Field V} {view : T → V} {whole : U → V} {May : E → Type 0} {old new : Cursor} {x : T} {y : U} → whole y ≡ view x → ReadsField {E = E} F view May old (Ok x) new
    → ReadsField {E = E} F whole May old (Ok y) new
wrapped {F = F} {old = old} {new = new} q h fresh = let r = h fresh in record {
  found = (subst (λ v. F (rules_of old) (octets_left old) v (octets_left new)) (sym q) r.found.0, r.found.1);
  only = λ v rest z. let e = r.only v rest z in (q ∙ e.0, e.1);
}

-- the same of one that wasn't read
pub unwrapped : {T U V E : Type 0} {F : Field V} {view : T → V} {whole : U → V} {May : E → Type 0} {old new after : Cursor} {e : E} → ReadsField F view May old (Err e) new
    → ReadsField F whole May old (Err e) after
unwrapped h fresh = record { found = tt; only = λ v rest z. (h fresh).only v rest z }
