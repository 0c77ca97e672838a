-- A field at the start of an input.
use Rattle.std.proofs.Common.{ℕ, List, Result, Ok, Err, sym, subst}
use Rattle.der_parser.specs.declared.Rules.TheVariants.{Der}
use Rattle.der_parser.specs.declared.cursor.Cursor.{Cursor}
use Rattle.der_parser.specs.Cursors.{octets_left, rules_of, StartsAt}
use Rattle.der_parser.specs.Formats.{Field, ReadsWhole, ReadsField}
use Rattle.der_uses.specs.Uses.{Begins}

to : {V : Type 0} (F : Field V) (i : List ℕ) (c : Cursor) → StartsAt Der i c → (v : V) (rest : List ℕ) → F Der i v rest → F (rules_of c) (octets_left c) v rest
to F i c s v rest z = subst (λ k. F k (octets_left c) v rest) (sym s.3) (subst (λ w. F Der w v rest) (sym s.0) z)

module _ {V T E : Type 0} {F : Field V} {view : T → V} {May : E → Type 0} {i : List ℕ} {c d : Cursor} (s : StartsAt Der i c) where
  pub begins_read : (result : Result T E) → ReadsField F view May c result d → ReadsWhole (Begins F i) view May result
  begins_read (Ok x) h = let z = h s.4 in record {
    found = (octets_left d, subst (λ k. F k i (view x) (octets_left d)) s.3 (subst (λ w. F (rules_of c) w (view x) (octets_left d)) s.0 z.found.0));
    only = λ v y. (z.only v y.0 (to F i c s v y.0 y.1)).0;
  }
  begins_read (Err e) h = let z = h s.4 in record { found = tt; only = λ v y. z.only v y.0 (to F i c s v y.0 y.1) }
