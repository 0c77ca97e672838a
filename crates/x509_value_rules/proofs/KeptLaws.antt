-- Reading a field of which a fact holds, too.
use Rattle.std.proofs.Common.{Ok, Err, sym, subst}
use Rattle.der_cursor.specs.declared.cursor.Cursor.{Cursor}
use Rattle.der_cursor.specs.Formats.{Field, ReadsField}
use Rattle.x509_value_rules.specs.Notices.{Kept}

module _ {V : Type 0} (P : V → Type 0) (F : Field V) {X E : Type 0} {view : X → V} {May : E → Type 0} {old : Cursor} where
  pub such_read : {new : Cursor} {x : X} → P (view x) → ReadsField {E = E} F view May old (Ok x) new → ReadsField (Kept P F) view May old (Ok x) new
  unfolding Kept
  such_read p h fresh = let r = h fresh in record {
    found = ((r.found.0, p), r.found.1);
    only = λ v rest z. r.only v rest z.0;
  }

  pub such_stops : {new after : Cursor} {e : E} → ReadsField F view May old (Err e) new → ReadsField (Kept P F) view May old (Err e) after
  unfolding Kept
  such_stops h fresh = let r = h fresh in record { found = tt; only = λ v rest z. r.only v rest z.0 }

  pub not_such : {new after : Cursor} {x : X} {e : E} → ¬ P (view x) → ReadsField {E = E} F view May old (Ok x) new → ReadsField (Kept P F) view May old (Err e) after
  unfolding Kept
  not_such n h fresh = let r = h fresh in record {
    found = tt;
    only = λ v rest z. absurd (n (subst P (sym (r.only v rest z.0).0) z.1));
  }
