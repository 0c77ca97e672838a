-- Contents and limited values, of whatever type the result is.
use Rattle.std.proofs.Common.{◌≡◌, Result, Ok, Err, sym, subst, ◌∙◌}
use Rattle.std.specs.Result.{IsErrAnd}
use Rattle.std.proofs.lemmas.Result.{err_from_is_err_and}
use Rattle.der_cursor.specs.declared.cursor.Cursor.{Cursor}
use Rattle.der_cursor.specs.Cursors.{octets_left, rules_of}
use Rattle.der_cursor.specs.Formats.{Content, Format, Limited, Required, ReadsContent}
use Rattle.der_cursor.proofs.FieldLaws.{Got, Refuses}

-- the result of another type
pub content_gives : {V : Type 0} (C : Content V) (c : Cursor) {T U E F : Type 0} {view : T → V} {view' : U → V} {May : E → Type 0} {May' : F → Type 0} (x : T) {y : U} → view' y ≡ view x
    → ReadsContent {E = E} C view May c (Ok x) → ReadsContent {E = F} C view' May' c (Ok y)
content_gives C c x q h fresh = let r = h fresh in record { found = subst (λ v. C (rules_of c) (octets_left c) v) (sym q) r.found; only = λ v z. q ∙ r.only v z }

pub content_stops : {V : Type 0} (C : Content V) (c : Cursor) {T U E : Type 0} {view : T → V} {view' : U → V} {May : E → Type 0} (e : E) {result : Result U E} → ReadsContent C view May c (Err e)
    → IsErrAnd result (λ y. y ≡ e)
    → ReadsContent C view' May c result
content_stops C c e {result = result} h s fresh = let y = err_from_is_err_and result s in rw (y.1, y.2) (record { found = tt; only = (h fresh).only })

-- Values of which P holds.
module _ {V : Type 0} (P : V → Type 0) (T : Format V) {old : Cursor} where
  pub got_limited : {v : V} {new : Cursor} → P v → Got (Required T) v old new → Got (Required (Limited P T)) v old new
  unfolding Required
  got_limited p g = record {
    found = λ fresh. let z = g.found fresh in ((z.0.0, (z.0.1, p), z.0.2), z.1);
    only = λ fresh u rest y. g.only fresh u rest (y.0, y.1.0, y.2);
  }

  pub not_limited : {v : V} {new : Cursor} {Q : Type 0} → ¬ P v → Got (Required T) v old new → Refuses (Required (Limited P T)) Q old
  unfolding Required
  not_limited p g = record { none = λ fresh u rest y. absurd (p (subst P (sym (g.only fresh u rest (y.0, y.1.0, y.2)).0) y.1.1)) }

  pub refused_limited : {Q : Type 0} → Refuses (Required T) Q old → Refuses (Required (Limited P T)) Q old
  unfolding Required
  refused_limited h = record { none = λ fresh u rest y. h.none fresh u rest (y.0, y.1.0, y.2) }
