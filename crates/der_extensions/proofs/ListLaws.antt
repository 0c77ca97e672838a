-- What a loop over the items of a list checks, both ways.
use Rattle.std.proofs.Common.{◌≡◌, ◌≢◌, ℕ, ◌<◌, List, [], ◌∷◌, length, None, Ok, Err, refl, sym, ap, subst, ◌∙◌}
use Rattle.der_base.specs.declared.header.Class.{Class}
use Rattle.der_base.specs.declared.rules.Rules.{Rules}
use Rattle.der_cursor.specs.declared.cursor.Cursor.{Cursor}
use Rattle.der_cursor.specs.Cursors.{octets_left, rules_of}
use Rattle.der_cursor.specs.Formats.{Constructed, Field, Each, Never, ReadsField, ReadsContent, Required}
use Rattle.der_extensions.specs.Lists.{IsListOf, ListOf, SomeOf, TakesOctets}

-- the cursor d was reached from c: what is left is a list exactly where all was one
pub record Reaches {V : Type 0} (F : Field V) (c d : Cursor) : Type 0 where
  pub fresh : d.implicit ≡ None
  pub same : rules_of d ≡ rules_of c
  pub back : IsListOf F (rules_of c) (octets_left d) → IsListOf F (rules_of c) (octets_left c)
  pub only : IsListOf F (rules_of c) (octets_left c) → IsListOf F (rules_of c) (octets_left d)

pub reaches_start : {V : Type 0} {F : Field V} {c : Cursor} → c.implicit ≡ None → Reaches F c c
reaches_start fresh = record { fresh = fresh; same = refl; back = λ z. z; only = λ z. z }

-- what the octets begin with, where some are left
pub begins : {V : Type 0} (F : Field V) (r : Rules) (w : List ℕ) → w ≢ [] → IsListOf F r w → (v : V) × (rest : List ℕ) × F r w v rest × IsListOf F r rest
unfolding Each
begins F r w n ([], z) = absurd (n z)
begins F r w n (v ∷ vs, z) = (v, z.0, z.1, (vs, z.2))

pub more : {V : Type 0} (F : Field V) (r : Rules) (w rest : List ℕ) (v : V) → F r w v rest → IsListOf F r rest → IsListOf F r w
unfolding Each
more F r w rest v h (vs, z) = (v ∷ vs, (rest, h, z))

module _ {V T E : Type 0} {F : Field V} {view : T → V} where
  -- after one more item
  pub reaches_more : {c d e : Cursor} {x : T} → Reaches F c d → octets_left d ≢ [] → ReadsField {E = E} F view Never d (Ok x) e → Reaches F c e
  reaches_more {c = c} {d = d} {e = e} {x = x} s n h = let r = h s.fresh in record {
    fresh = ap (λ y. y.implicit) r.found.1;
    same = subst (λ k. rules_of e ≡ k) s.same (ap rules_of r.found.1);
    back = λ z. s.back (more F (rules_of c) (octets_left d) (octets_left e) (view x) (subst (λ k. F k (octets_left d) (view x) (octets_left e)) s.same r.found.0) z);
    only = λ z.
        let y = begins F (rules_of c) (octets_left d) n (s.only z) in
        subst (λ w. IsListOf F (rules_of c) w) (sym (r.only y.0 y.1 (subst (λ k. F k (octets_left d) y.0 y.1) (sym s.same) y.2)).1) y.3;
  }

  -- fewer octets are left after it
  pub reaches_less : {c d e : Cursor} {x : T} → Reaches F c d → TakesOctets F → ReadsField {E = E} F view Never d (Ok x) e → length (octets_left e) < length (octets_left d)
  reaches_less {d = d} {e = e} {x = x} s takes h = takes (rules_of d) (octets_left d) (view x) (octets_left e) (h s.fresh).found.0

  -- at an item that is refused
  pub not_list : {c d e : Cursor} {x : E} → Reaches F c d → octets_left d ≢ [] → ReadsField F view Never d (Err x) e → ¬ IsListOf F (rules_of c) (octets_left c)
  not_list {c = c} {d = d} s n h z =
      let y = begins F (rules_of c) (octets_left d) n (s.only z) in
      (h s.fresh).only y.0 y.1 (subst (λ k. F k (octets_left d) y.0 y.1) (sym s.same) y.2)

-- at the end
pub is_list : {V : Type 0} {F : Field V} {c d : Cursor} → Reaches F c d → octets_left d ≡ [] → IsListOf F (rules_of c) (octets_left c)
unfolding Each
is_list s q = s.back ([], q)

-- the content of a list whose octets are kept
pub list_content : {V U E : Type 0} (F : Field V) {whole : U → List ℕ} {c d : Cursor} {x : U} → Reaches F c d → octets_left d ≡ [] → whole x ≡ octets_left c → ReadsContent {E = E} (ListOf F) whole Never c (Ok x)
unfolding ListOf
list_content F s q e fresh = record { found = (e, is_list s q); only = λ v z. e ∙ sym z.0 }

pub list_stops : {V T U E : Type 0} (F : Field V) {view : T → V} {whole : U → List ℕ} {c d after : Cursor} {e : E} → Reaches F c d → octets_left d ≢ [] → ReadsField F view Never d (Err e) after
    → ReadsContent (ListOf F) whole Never c (Err e)
unfolding ListOf
list_stops F s n h fresh = record { found = tt; only = λ v z. not_list s n h z.1 }

-- a list of one value at least
module _ {V T U E : Type 0} (F : Field V) (k : Class) (n : ℕ) {view : T → List ℕ} {whole : U → List ℕ} where
  pub some_read : {old new : Cursor} {x : T} {y : U} → view x ≢ [] → whole y ≡ view x → ReadsField {E = E} (Required (Constructed k n (ListOf F))) view Never old (Ok x) new
      → ReadsField {E = E} (Required (Constructed k n (SomeOf F))) whole Never old (Ok y) new
  unfolding Required SomeOf ListOf
  some_read {old = old} {new = new} q e h fresh = let r = h fresh in record {
    found = let z = r.found.0 in ((z.0, ((λ y. q (z.1.0 ∙ y)), (e ∙ z.1.0, z.1.1)), z.2), r.found.1);
    only = λ v rest z. let y = r.only v rest (z.0, z.1.1, z.2) in (e ∙ y.0, y.1);
  }

  pub some_stops : {old new after : Cursor} {e : E} → ReadsField (Required (Constructed k n (ListOf F))) view Never old (Err e) new → ReadsField (Required (Constructed k n (SomeOf F))) whole Never old (Err e) after
  unfolding Required SomeOf
  some_stops h fresh = let r = h fresh in record { found = tt; only = λ v rest z. r.only v rest (z.0, z.1.1, z.2) }

  pub none_there : {old new after : Cursor} {x : T} {e : E} → view x ≡ [] → ReadsField {E = E} (Required (Constructed k n (ListOf F))) view Never old (Ok x) new
      → ReadsField (Required (Constructed k n (SomeOf F))) whole Never old (Err e) after
  unfolding Required SomeOf ListOf
  none_there q h fresh = let r = h fresh in record {
    found = tt;
    only = λ v rest z. absurd (z.1.0 (sym z.1.1.0 ∙ sym (r.only v rest (z.0, z.1.1, z.2)).0 ∙ q));
  }
