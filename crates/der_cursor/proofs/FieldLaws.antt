-- Fields: their values, and their refusals, of whatever type the result is.
use Rattle.std.proofs.Common.{◌≡◌, ◌≢◌, ℕ, ◌<◌, true, List, [], length, Result, Ok, Err, None, refl, sym, ap, subst, ◌∙◌}
use Rattle.std.specs.Result.{IsErrAnd}
use Rattle.std.proofs.lemmas.Result.{err_from_is_err_and}
use Rattle.der_base.specs.declared.error.Error.{Error as BerError}
use Rattle.der_base.specs.declared.header.Class.{Class}
use Rattle.der_base.specs.declared.rules.Rules.{Rules}
use Rattle.der_cursor.specs.declared.cursor.Cursor.{Cursor}
use Rattle.der_cursor.specs.declared.error.ReadError.{ReadError}
use Rattle.der_cursor.specs.Cursors.{octets_left, rules_of, advanced, EndsAt, OpensAt}
use Rattle.der_cursor.specs.Formats.{AnyElement, Constructed, Content, Each, Field, Never, Only, Others, Passed, Required, ◌⨟◌, ReadsContent, ReadsField}
use Rattle.der_cursor.proofs.FormatLaws.{element_takes, inside_of, unopened_of}
use Rattle.der_cursor.proofs.Sequences.{only_left, only_read, only_stops}

-- the field that is next has this value, and the cursor goes on after it
pub record Got {V : Type 0} (F : Field V) (v : V) (old new : Cursor) : Type 0 where
  pub found : old.implicit ≡ None → F (rules_of old) (octets_left old) v (octets_left new) × (new ≡ advanced old new.left)
  pub only : old.implicit ≡ None → (u : V) (rest : List ℕ) → F (rules_of old) (octets_left old) u rest → (v ≡ u) × (octets_left new ≡ rest)

-- it has none, or else Q holds
pub record Refuses {V : Type 0} (F : Field V) (Q : Type 0) (old : Cursor) : Type 0 where
  pub none : old.implicit ≡ None → (u : V) (rest : List ℕ) → F (rules_of old) (octets_left old) u rest → Q

module _ {T V E : Type 0} {F : Field V} {view : T → V} {May : E → Type 0} {old new : Cursor} where
  pub got : {x : T} → ReadsField F view May old (Ok x) new → Got F (view x) old new
  got h = record { found = λ fresh. (h fresh).found; only = λ fresh. (h fresh).only }

  pub gives : {x : T} {v : V} → view x ≡ v → Got F v old new → ReadsField F view May old (Ok x) new
  gives {x = x} {v = v} q g fresh = let z = g.found fresh in record {
    found = (subst (λ u. F (rules_of old) (octets_left old) u (octets_left new)) (sym q) z.0, z.1);
    only = λ u rest p. let y = g.only fresh u rest p in (q ∙ y.0, y.1);
  }

  pub refused : {e : E} → ReadsField F view May old (Err e) new → Refuses F (May e) old
  refused h = record { none = λ fresh. (h fresh).only }

  pub refuses : {e : E} → Refuses F (May e) old → ReadsField F view May old (Err e) new
  refuses h fresh = record { found = tt; only = h.none fresh }

  -- a refusal that is returned
  pub returned_refusal : (e : E) {result : Result T E} → Refuses F (May e) old → IsErrAnd result (λ y. y ≡ e) → ReadsField F view May old result new
  returned_refusal e {result = result} h n = let y = err_from_is_err_and result n in rw (y.1, y.2) (refuses h)

-- a field that takes no memory, in a reader that does
pub refused_never : {T V E : Type 0} {F : Field V} {view : T → V} {Q : Type 0} {old new : Cursor} {e : E} → ReadsField F view Never old (Err e) new → Refuses F Q old
refused_never h = record { none = λ fresh u rest p. absurd ((h fresh).only u rest p) }

-- the same with another view
pub viewed : {T V E : Type 0} {F : Field V} {view view' : T → V} {May : E → Type 0} {old new : Cursor} (result : Result T E) → ((x : T) → view' x ≡ view x) → ReadsField F view May old result new
    → ReadsField F view' May old result new
viewed (Ok x) q h = gives (q x) (got h)
viewed (Err e) q h = refuses (refused h)

-- a field whose value isn't kept
pub passed : {T V E : Type 0} {F : Field V} {view : T → V} {May : E → Type 0} {old new : Cursor} {result : Result T E} → ReadsField F view May old result new
    → ReadsField (Passed F) (λ (x : T). tt) May old result new
unfolding Passed
passed {view = view} {result = Ok x} h fresh = let r = h fresh in record {
  found = ((view x, r.found.0), r.found.1);
  only = λ u rest p. (refl, (r.only p.0 rest p.1).1);
}
passed {result = Err e} h fresh = let r = h fresh in record { found = tt; only = λ u rest p. r.only p.0 rest p.1 }

-- Fields one after another.
module _ {V : Type 0} {F : Field V} {old between : Cursor} {a : V} (g : Got F a old between) where
  fresh_between : old.implicit ≡ None → between.implicit ≡ None
  fresh_between fresh = ap (λ c. c.implicit) (g.found fresh).1

  same_rules : old.implicit ≡ None → rules_of between ≡ rules_of old
  same_rules fresh = ap rules_of (g.found fresh).1

  -- the second field of both is read where the first ends
  second : {W : Type 0} (G : Field W) → old.implicit ≡ None → (v : V) (w : W) (middle rest : List ℕ) → F (rules_of old) (octets_left old) v middle → G (rules_of old) middle w rest
      → G (rules_of between) (octets_left between) w rest
  second G fresh v w middle rest p q =
      subst (λ k. G k (octets_left between) w rest) (sym (same_rules fresh)) (subst (λ i. G (rules_of old) i w rest) (sym (g.only fresh v middle p).1) q)

  pub got_then : {W : Type 0} {G : Field W} {b : W} {new : Cursor} → Got G b between new → Got (F ⨟ G) (a, b) old new
  unfolding ◌⨟◌
  got_then {G = G} {b = b} {new = new} h = record {
    found = λ fresh.
        let z = g.found fresh in
        let y = h.found (fresh_between fresh) in
        ((octets_left between, z.0, subst (λ k. G k (octets_left between) b (octets_left new)) (same_rules fresh) y.0), y.1 ∙ ap (λ c. advanced c new.left) z.1);
    only = λ fresh u rest p.
        let q = g.only fresh u.0 p.0 p.1 in
        let w = h.only (fresh_between fresh) u.1 rest (second G fresh u.0 u.1 p.0 rest p.1 p.2) in
        (ap (λ t. (t, b)) q.0 ∙ ap (λ t. (u.0, t)) w.0, w.1);
  }

  pub refused_then : {W : Type 0} {G : Field W} {Q : Type 0} → Refuses G Q between → Refuses (F ⨟ G) Q old
  unfolding ◌⨟◌
  refused_then {G = G} h = record { none = λ fresh u rest p. h.none (fresh_between fresh) u.1 rest (second G fresh u.0 u.1 p.0 rest p.1 p.2) }

pub refused_first : {V W : Type 0} (G : Field W) {F : Field V} {Q : Type 0} {old : Cursor} → Refuses F Q old → Refuses (F ⨟ G) Q old
unfolding ◌⨟◌
refused_first G h = record { none = λ fresh u rest p. h.none fresh u.0 p.0 p.1 }

-- An element that is opened, whose content is one field.
module _ {T V E : Type 0} {F : Field V} {view : T → V} {May : E → Type 0} {c : Class} {n : ℕ} {old inner inner' new : Cursor} where
  pub field_read : {x : T} → OpensAt c true n old (Ok inner) new → ReadsField {E = E} F view May inner (Ok x) inner' → octets_left inner' ≡ []
      → ReadsField (Required (Constructed c n (Only F))) view May old (Ok x) new
  field_read o h q = inside_of _ o (only_read h q)

  pub field_left : (e : E) {Y : Type 0} {whole : Y → V} {x : T} {result : Result Y E} → OpensAt c true n old (Ok inner) new → ReadsField {E = E} F view May inner (Ok x) inner'
      → octets_left inner' ≢ []
      → IsErrAnd result (λ y. y ≡ e) → ReadsField (Required (Constructed c n (Only F))) whole May old result new
  field_left e {result = result} o h q s = let y = err_from_is_err_and result s in rw y.1 (inside_of _ o (only_left h q))

  pub field_stops : {Y : Type 0} {whole : Y → V} {e : E} {result : Result Y E} → OpensAt c true n old (Ok inner) new → ReadsField F view May inner (Err e) inner' → IsErrAnd result (λ y. y ≡ e)
      → ReadsField (Required (Constructed c n (Only F))) whole May old result new
  field_stops {result = result} o h s = let y = err_from_is_err_and result s in rw (y.1, y.2) (inside_of _ o (only_stops h))

-- the end of such a content is the result
pub field_ends : {V : Type 0} {F : Field V} {view : Unit {0} → V} {May : ReadError BerError
    → Type 0} {c : Class} {n : ℕ} {old inner inner' new : Cursor} {u : Unit {0}} (result : Result (Unit {0}) (ReadError BerError))
    → OpensAt c true n old (Ok inner) new → ReadsField {E = ReadError BerError} F view May inner (Ok u) inner' → EndsAt inner' result
    → ReadsField (Required (Constructed c n (Only F))) view May old result new
field_ends (Ok x) o h q = inside_of _ o (only_read h q)
field_ends (Err e) o h q = inside_of _ o (only_left h q.0)

-- it isn't opened
pub field_unopened : {V : Type 0} (C : Content V) {T : Type 0} {view : T → V} {May : ReadError BerError
    → Type 0} {c : Class} {n : ℕ} {old new after : Cursor} {e : ReadError BerError} {result : Result T (ReadError BerError)}
    → OpensAt c true n old (Err e) after → IsErrAnd result (λ y. y ≡ e) → ReadsField (Required (Constructed c n C)) view May old result new
field_unopened C {result = result} o s = let y = err_from_is_err_and result s in rw y.1 (unopened_of C o)

-- Any elements, which aren't kept.
pub passed_takes : (r : Rules) (i : List ℕ) (v : Unit {0}) (rest : List ℕ) → Passed AnyElement r i v rest → length rest < length i
unfolding Passed AnyElement
passed_takes r i v rest z = element_takes r z.0.0 z.0.1 z.0.2 i (z.0.3, rest) z.1.0

module _ (c : Cursor) {T E : Type 0} {view : T → List (Unit {0})} {May : E → Type 0} where
  pub others_read : {x : T} → ReadsContent {E = E} (Each (Passed AnyElement)) view May c (Ok x) → ReadsContent Others (λ x. x) May c (Ok tt)
  unfolding Others
  others_read {x = x} h fresh = let r = h fresh in record { found = (view x, r.found); only = λ v z. refl }

  pub others_stop : (e : E) {result : Result (Unit {0}) E} → IsErrAnd result (λ y. y ≡ e) → ReadsContent (Each (Passed AnyElement)) view May c (Err e) → ReadsContent Others (λ x. x) May c result
  unfolding Others
  others_stop e {result = result} n h fresh =
      let q = err_from_is_err_and result n in
      rw (q.1, q.2) (record { found = tt; only = λ v z. (h fresh).only z.0 z.1 })
