-- Fields one after another: what is left to be read of a content, and how its reader ends.
use Rattle.std.proofs.Common.{◌≡◌, ◌≢◌, ℕ, Bool, List, [], None, Result, Ok, Err, Bor, refl, sym, ap, subst, ◌∙◌}
use Rattle.std.specs.Prelude.{MatchResult}
use Rattle.std.specs.Result.{IsErrAnd}
use Rattle.std.proofs.lemmas.Result.{err_from_is_err_and}
use Rattle.der_base.specs.declared.error.Error.{Error as BerError}
use Rattle.der_base.specs.declared.rules.Rules.{Rules}
use Rattle.der_base.specs.declared.header.Class.{Class}
use Rattle.der_base.specs.declared.header.Class.TheVariants.{Universal}
use Rattle.der_cursor.specs.declared.cursor.Cursor.{Cursor}
use Rattle.der_cursor.specs.declared.named.FieldError.{FieldError}
use Rattle.der_cursor.specs.declared.error.ReadError.{ReadError}
use Rattle.der_cursor.specs.Cursors.{octets_left, rules_of, StartsAt, EndsAt, OpensAt, OpensType}
use Rattle.der_cursor.specs.Named.{NamesRefusal, NamesMore}
use Rattle.der_cursor.proofs.FormatLaws.{inside, inside_of, unopened, unopened_of}
use Rattle.der_cursor.specs.Formats.{Content, Field, Format, Required, Only, ◌⨾◌, As, End, Ignored, Mapped, Never, NoMemory, NoMemoryIn, ReadsWhole, ReadsNext, ReadsField, ReadsContent}

-- An error is passed on as another, which leaves no more open.
pub record Passes {T E F : Type 0} (May : E → Type 0) (May' : F → Type 0) (r : Result T E) (s : Result T F) : Type 0 where
  pub passed : MatchResult r (λ x. s ≡ Ok x) (λ e. (f : F) × (s ≡ Err f) × (May e → May' f))

field_passes : {T V E F : Type 0} {G : Field V} {view : T → V} {May : E → Type 0} {May' : F → Type 0} {old new : Cursor} (r : Result T E) (s : Result T F)
    → Passes May May' r s → ReadsNext G view May old r new → ReadsNext G view May' old s new
field_passes (Ok x) s p h = rw p.passed (record { found = h.found; only = h.only })
field_passes (Err e) s p h = rw p.passed.1 (record { found = tt; only = λ v rest z. p.passed.2 (h.only v rest z) })

whole_passes : {T V E F : Type 0} {IsSo : V → Type 0} {view : T → V} {May : E → Type 0} {May' : F → Type 0} (r : Result T E) (s : Result T F)
    → Passes May May' r s → ReadsWhole IsSo view May r → ReadsWhole IsSo view May' s
whole_passes (Ok x) s p h = rw p.passed (record { found = h.found; only = h.only })
whole_passes (Err e) s p h = rw p.passed.1 (record { found = tt; only = λ v z. p.passed.2 (h.only v z) })

-- A refusal is given a name, or one name more.
module _ {T : Type 0} {May : ReadError BerError → Type 0} {May' : FieldError → Type 0} (more : (e : ReadError BerError) (f : FieldError) → f.refusal ≡ e → May e → May' f) where
  name_passes : (name : Bor (List ℕ)) (r : Result T (ReadError BerError)) (s : Result T FieldError) → NamesRefusal r name s → Passes May May' r s
  name_passes name (Ok x) s h = record { passed = h }
  name_passes name (Err e) s h = let q = err_from_is_err_and s h in record { passed = (q.0, q.1, more e q.0 q.2.0) }

module _ {T : Type 0} {May May' : FieldError → Type 0} (more : (e f : FieldError) → f.refusal ≡ e.refusal → May e → May' f) where
  more_passes : (name : Bor (List ℕ)) (r s : Result T FieldError) → NamesMore r name s → Passes May May' r s
  more_passes name (Ok x) s h = record { passed = h }
  more_passes name (Err e) s h = let q = err_from_is_err_and s h in record { passed = (q.0, q.1, more e q.0 q.2.0) }

memory_named : (e : ReadError BerError) (f : FieldError) → f.refusal ≡ e → NoMemory e → NoMemoryIn f
memory_named e f q m = ap (λ x. x.reason) q ∙ m

-- a field that was read without memory, and one that may need it
pub named : (name : Bor (List ℕ)) {T V : Type 0} {F : Field V} {view : T → V} {old new : Cursor} {r : Result T (ReadError BerError)} {s : Result T FieldError}
    → ReadsField F view Never old r new → NamesRefusal r name s → ReadsField F view Never old s new
named name {r = r} {s = s} h n fresh = field_passes r s (name_passes (λ e f q m. m) name r s n) (h fresh)

pub named_in : (name : Bor (List ℕ)) {T V : Type 0} {F : Field V} {view : T → V} {old new : Cursor} {r : Result T (ReadError BerError)} {s : Result T FieldError}
    → ReadsField F view NoMemory old r new → NamesRefusal r name s → ReadsField F view NoMemoryIn old s new
named_in name {r = r} {s = s} h n fresh = field_passes r s (name_passes memory_named name r s n) (h fresh)

-- The reader has come to the cursor c: P holds of exactly the values that `build` makes of those of the content that is left.
pub record Remains {V W : Type 0} (P : V → Type 0) (C : Content W) (c : Cursor) (build : W → V) : Type 0 where
  pub fresh : c.implicit ≡ None
  pub back : (w : W) → C (rules_of c) (octets_left c) w → P (build w)
  pub only : (v : V) → P v → (w : W) × C (rules_of c) (octets_left c) w × (v ≡ build w)

-- at the start of a content
pub start : {V : Type 0} {C : Content V} (c : Cursor) → c.implicit ≡ None → Remains (C (rules_of c) (octets_left c)) C c (λ v. v)
start c fresh = record { fresh = fresh; back = λ w h. h; only = λ v h. (v, h, refl) }

module _ {V W X T E : Type 0} {P : V → Type 0} {F : Field W} {C : Content X} {c d : Cursor} {build : W × X → V} {view : T → W} {May : E → Type 0} where
  -- after a field
  pub after : {x : T} → Remains P (F ⨾ C) c build → ReadsField {E = E} F view May c (Ok x) d → Remains P C d (λ w. build (view x, w))
  unfolding ◌⨾◌
  after {x = x} l h =
      let r = h l.fresh in
      let same : rules_of d ≡ rules_of c = ap rules_of r.found.1 in record {
        fresh = ap (λ y. y.implicit) r.found.1;
        back = λ w z. l.back (view x, w) (octets_left d, r.found.0, subst (λ k. C k (octets_left d) w) same z);
        only = λ v p.
            let z = l.only v p in
            let q = r.only z.0.0 z.1.0 z.1.1 in (
              z.0.1,
              subst (λ k. C k (octets_left d) z.0.1) (sym same) (subst (λ w. C (rules_of c) w z.0.1) (sym q.1) z.1.2),
              z.2 ∙ ap (λ y. build (y, z.0.1)) (sym q.0),
            );
      }

-- at a field that is refused
pub stops : {X : Type 0} (C : Content X) {V W T E Y : Type 0} {P : V → Type 0} {F : Field W} {c d : Cursor} {build : W × X → V} {view : T → W} {May : E → Type 0} {whole : Y → V} {e : E} {result : Result Y E}
    → Remains P (F ⨾ C) c build → ReadsField F view May c (Err e) d → IsErrAnd result (λ y. y ≡ e) → ReadsWhole P whole May result
unfolding ◌⨾◌
stops C {result = result} l h q =
    let z = err_from_is_err_and result q in
    rw (z.1, z.2) (record { found = tt; only = λ v p. let y = l.only v p in (h l.fresh).only y.0.0 y.1.0 y.1.1 })

-- the same of a field that takes no memory, in a reader that does
pub stops_never : {X : Type 0} (C : Content X) {V W T E Y : Type 0} {P : V → Type 0} {F : Field W} {c d : Cursor} {build : W × X → V} {view : T → W} {May : E → Type 0} {whole : Y → V} {e : E} {result : Result Y E}
    → Remains P (F ⨾ C) c build → ReadsField F view Never c (Err e) d → IsErrAnd result (λ y. y ≡ e) → ReadsWhole P whole May result
unfolding ◌⨾◌
stops_never C {result = result} l h q =
    let z = err_from_is_err_and result q in
    rw (z.1, z.2) (record { found = tt; only = λ v p. let y = l.only v p in absurd ((h l.fresh).only y.0.0 y.1.0 y.1.1) })

-- what ends a content: `EndsAt`, by the octets that are left and the refusal of these
abbrev pub EndsBy : List ℕ → ReadError BerError → Result (Unit {0}) (ReadError BerError) → Type 0
EndsBy w x (Ok u) = w ≡ []
EndsBy w x (Err e) = (w ≢ []) × (e ≡ x)

abbrev pub Ends : {E : Type 0} → List ℕ → Result (Unit {0}) E → Type 0
Ends w r = MatchResult r (λ u. w ≡ []) (λ e. w ≢ [])

pub ends_named : (name : Bor (List ℕ)) (w : List ℕ) (x : ReadError BerError) (r : Result (Unit {0}) (ReadError BerError)) (s : Result (Unit {0}) FieldError) → EndsBy w x r → NamesRefusal r name s → Ends w s
ends_named name w x (Ok u) s h n = rw n h
ends_named name w x (Err e) s h n = let q = err_from_is_err_and s n in rw q.1 h.0

module _ {V T E : Type 0} {P : V → Type 0} {c : Cursor} {build : Unit {0} → V} {view : T → V} {May : E → Type 0} where
  -- after the last field
  pub finish : {x : T} → Remains P End c build → octets_left c ≡ [] → view x ≡ build tt → ReadsWhole {E = E} P view May (Ok x)
  unfolding End
  finish l q e = record {
    found = subst P (sym e) (l.back tt q);
    only = λ v p. e ∙ sym (l.only v p).2;
  }

  -- where octets are left
  pub not_finished : {e : E} → Remains P End c build → octets_left c ≢ [] → ReadsWhole P view May (Err e)
  unfolding End
  not_finished l q = record { found = tt; only = λ v p. absurd (q (l.only v p).1) }

-- a whole input that is one field
of_input : {V : Type 0} (F : Field V) (r : Rules) (i : List ℕ) (c : Cursor) → StartsAt r i c → (v : V) (rest : List ℕ) → F (rules_of c) (octets_left c) v rest → F r i v rest
of_input F r i c s v rest z = subst (λ k. F k i v rest) s.3 (subst (λ w. F (rules_of c) w v rest) s.0 z)

to_input : {V : Type 0} (F : Field V) (r : Rules) (i : List ℕ) (c : Cursor) → StartsAt r i c → (v : V) (rest : List ℕ) → F r i v rest → F (rules_of c) (octets_left c) v rest
to_input F r i c s v rest z = subst (λ k. F k (octets_left c) v rest) (sym s.3) (subst (λ w. F r w v rest) (sym s.0) z)

module _ {T V E : Type 0} {F : Field V} {view : T → V} {May : E → Type 0} {r : Rules} {i : List ℕ} {c d : Cursor} where
  pub input_read : {x : T} → StartsAt r i c → ReadsField {E = E} F view May c (Ok x) d → octets_left d ≡ [] → ReadsWhole (Only F r i) view May (Ok x)
  unfolding Only
  input_read {x = x} s h q = let z = h s.4 in record {
    found = of_input F r i c s (view x) [] (subst (λ rest. F (rules_of c) (octets_left c) (view x) rest) q z.found.0);
    only = λ v p. (z.only v [] (to_input F r i c s v [] p)).0;
  }

  pub input_left : (e : E) {Y : Type 0} {whole : Y → V} {x : T} {result : Result Y E} → StartsAt r i c → ReadsField {E = E} F view May c (Ok x) d → octets_left d ≢ [] → IsErrAnd result (λ y. y ≡ e)
      → ReadsWhole (Only F r i) whole May result
  unfolding Only
  input_left e {result = result} s h q n = let y = err_from_is_err_and result n in rw y.1 (record { found = tt; only = λ v p. absurd (q ((h s.4).only v [] (to_input F r i c s v [] p)).1) })

  pub input_stops : {Y : Type 0} {whole : Y → V} {e : E} {result : Result Y E} → StartsAt r i c → ReadsField F view May c (Err e) d → IsErrAnd result (λ y. y ≡ e) → ReadsWhole (Only F r i) whole May result
  unfolding Only
  input_stops {result = result} s h n = let y = err_from_is_err_and result n in rw (y.1, y.2) (record { found = tt; only = λ v p. (h s.4).only v [] (to_input F r i c s v [] p) })

-- a field that an input begins with, and what follows it
module _ {T V E : Type 0} {F : Field V} {view : T → V} {May : E → Type 0} {r : Rules} {i : List ℕ} {c d : Cursor} where
  pub front_read : {x : T} (rest : Bor (List ℕ)) → StartsAt r i c → rest.now ≡ octets_left d → ReadsField {E = E} F view May c (Ok x) d
      → ReadsWhole (λ (v : V × List ℕ). F r i v.0 v.1) (λ (y : Bor (List ℕ) × T). (view y.1, y.0.now)) May (Ok (rest, x))
  front_read {x = x} rest s q h = let z = h s.4 in record {
    found = subst (λ w. F r i (view x) w) (sym q) (of_input F r i c s (view x) (octets_left d) z.found.0);
    only = λ v p. let e = z.only v.0 v.1 (to_input F r i c s v.0 v.1 p) in ap (λ y. (y, rest.now)) e.0 ∙ ap (λ w. (v.0, w)) (q ∙ e.1);
  }

  pub front_stops : (e : E) {result : Result (Bor (List ℕ) × T) E} → StartsAt r i c → IsErrAnd result (λ y. y ≡ e) → ReadsField F view May c (Err e) d
      → ReadsWhole (λ (v : V × List ℕ). F r i v.0 v.1) (λ (y : Bor (List ℕ) × T). (view y.1, y.0.now)) May result
  front_stops e {result = result} s n h =
      let y = err_from_is_err_and result n in
      rw (y.1, y.2) (record { found = tt; only = λ v p. (h s.4).only v.0 v.1 (to_input F r i c s v.0 v.1 p) })

-- Elements that are opened, with the name of their field.
pub ok_named : {T : Type 0} (name : Bor (List ℕ)) (x : T) (r : Result T (ReadError BerError)) → NamesRefusal r name (Ok x) → r ≡ Ok x
ok_named {T} name x (Ok y) n = let q : ◌≡◌ {A = Result T FieldError} (Ok x) (Ok y) = n in let e : x ≡ y = cc in ap Ok (sym e)
ok_named name x (Err e) n = absurd n

pub err_named : {T : Type 0} (name : Bor (List ℕ)) (f : FieldError) (r : Result T (ReadError BerError)) → NamesRefusal r name (Err f) → (e : ReadError BerError) × (r ≡ Err e)
err_named {T} name f (Ok y) n = let q : ◌≡◌ {A = Result T FieldError} (Err f) (Ok y) = n in absurd cc
err_named name f (Err e) n = (e, refl)

pub inside_named : {V : Type 0} (t : ℕ) (C : Content V) (name : Bor (List ℕ)) (inner : Cursor) {T E : Type 0} {view : T → V} {May : E → Type 0} {p : Bool} {old new : Cursor} {r : Result Cursor (ReadError BerError)} {result : Result T E}
    → OpensType p t old r new → NamesRefusal r name (Ok inner) → ReadsContent C view May inner result
    → ReadsField (Required (record { class = Universal; number = t; constructed = p; content = C })) view May old result new
inside_named t C name inner {p = p} {old = old} {new = new} {r = r} o n h = inside t C (subst (λ x. OpensType p t old x new) (ok_named name inner r n) o) h

pub unopened_named : {V : Type 0} (t : ℕ) (C : Content V) (name : Bor (List ℕ)) {T : Type 0} {view : T → V} {May : FieldError → Type 0} {p : Bool} {old new after : Cursor} (f : FieldError)
    {r : Result Cursor (ReadError BerError)} {result : Result T FieldError} → OpensType p t old r after → NamesRefusal r name (Err f) → IsErrAnd result (λ y. y ≡ f)
    → ReadsField (Required (record { class = Universal; number = t; constructed = p; content = C })) view May old result new
unopened_named t C name {p = p} {old = old} {after = after} f {r = r} {result = result} o n q =
    let e = err_named name f r n in
    let y = err_from_is_err_and result q in
    rw y.1 (unopened t C (subst (λ x. OpensType p t old x after) e.1 o))

-- the same of one of any class, whose number is another expression
pub inside_of_named : {V : Type 0} (n : ℕ) (C : Content V) (name : Bor (List ℕ)) (inner : Cursor) {T E : Type 0} {view : T → V} {May : E → Type 0} {c : Class} {p : Bool} {m : ℕ} {old new : Cursor} {r : Result Cursor (ReadError BerError)} {result : Result T E}
    → m ≡ n → OpensAt c p m old r new → NamesRefusal r name (Ok inner) → ReadsContent C view May inner result
    → ReadsField (Required (record { class = c; number = n; constructed = p; content = C })) view May old result new
inside_of_named n C name inner {c = c} {p = p} {m = m} {old = old} {new = new} {r = r} q o s h =
    inside_of C (subst (λ k. OpensAt c p k old (Ok inner) new) q (subst (λ x. OpensAt c p m old x new) (ok_named name inner r s) o)) h

pub unopened_of_named : {V : Type 0} (n : ℕ) (C : Content V) (name : Bor (List ℕ)) {T : Type 0} {view : T → V} {May : FieldError → Type 0} {c : Class} {p : Bool} {m : ℕ} {old after new : Cursor} (f : FieldError)
    {r : Result Cursor (ReadError BerError)} {result : Result T FieldError} → m ≡ n → OpensAt c p m old r after → NamesRefusal r name (Err f) → IsErrAnd result (λ y. y ≡ f)
    → ReadsField (Required (record { class = c; number = n; constructed = p; content = C })) view May old result new
unopened_of_named n C name {c = c} {p = p} {m = m} {old = old} {after = after} f {r = r} {result = result} q o s x =
    let e = err_named name f r s in
    let y = err_from_is_err_and result x in
    rw y.1 (unopened_of C (subst (λ k. OpensAt c p k old (Err e.0) after) q (subst (λ z. OpensAt c p m old z after) e.1 o)))

-- where octets are left after the last field
pub left_over : {E : Type 0} (e : E) {V T : Type 0} {P : V → Type 0} {c : Cursor} {build : Unit {0} → V} {view : T → V} {May : E → Type 0} {result : Result T E} → Remains P End c build → octets_left c ≢ []
    → IsErrAnd result (λ y. y ≡ e) → ReadsWhole P view May result
unfolding End
left_over e {result = result} l q n = let y = err_from_is_err_and result n in rw y.1 (record { found = tt; only = λ v p. absurd (q (l.only v p).1) })

-- an element that isn't opened, and its refusal is returned
pub refused_open : {V : Type 0} (t : ℕ) (C : Content V) {T : Type 0} {view : T → V} {May : ReadError BerError → Type 0} {p : Bool} {old new after : Cursor} {e : ReadError BerError} {result : Result T (ReadError BerError)}
    → OpensType p t old (Err e) after → IsErrAnd result (λ y. y ≡ e) → ReadsField (Required (record { class = Universal; number = t; constructed = p; content = C })) view May old result new
refused_open t C {result = result} o n = let y = err_from_is_err_and result n in rw y.1 (unopened t C o)

-- what follows isn't asked
pub finish_ignored : {V T E : Type 0} {P : V → Type 0} {c : Cursor} {build : Unit {0} → V} {view : T → V} {May : E → Type 0} {x : T} → Remains P Ignored c build → view x ≡ build tt
    → ReadsWhole {E = E} P view May (Ok x)
unfolding Ignored
finish_ignored {P = P} l e = record {
  found = subst P (sym e) (l.back tt tt);
  only = λ v p. e ∙ sym (l.only v p).2;
}

-- a content that is one field
module _ {T V E : Type 0} {F : Field V} {view : T → V} {May : E → Type 0} {c d : Cursor} where
  pub only_read : {x : T} → ReadsField {E = E} F view May c (Ok x) d → octets_left d ≡ [] → ReadsContent (Only F) view May c (Ok x)
  unfolding Only
  only_read {x = x} h q fresh = let z = h fresh in record {
    found = subst (λ rest. F (rules_of c) (octets_left c) (view x) rest) q z.found.0;
    only = λ v p. (z.only v [] p).0;
  }

  pub only_left : {Y : Type 0} {whole : Y → V} {x : T} {e : E} → ReadsField {E = E} F view May c (Ok x) d → octets_left d ≢ [] → ReadsContent (Only F) whole May c (Err e)
  unfolding Only
  only_left h q fresh = record { found = tt; only = λ v p. absurd (q ((h fresh).only v [] p).1) }

  pub only_stops : {Y : Type 0} {whole : Y → V} {e : E} → ReadsField F view May c (Err e) d → ReadsContent (Only F) whole May c (Err e)
  unfolding Only
  only_stops h fresh = record { found = tt; only = λ v p. (h fresh).only v [] p }

-- a field that takes no memory, in a reader that does
pub may_need : {T V E : Type 0} {F : Field V} {view : T → V} (May : E → Type 0) {old new : Cursor} (result : Result T E) → ReadsField F view Never old result new → ReadsField F view May old result new
may_need May (Ok x) h fresh = let r = h fresh in record { found = r.found; only = r.only }
may_need May (Err e) h fresh = let r = h fresh in record { found = tt; only = λ v rest z. absurd (r.only v rest z) }

-- a reader of the first field alone
pub first_read : {V T E : Type 0} (F : Field V) {view : T → V} {May : E → Type 0} {c d : Cursor} (result : Result T E) → ReadsField F view May c result d → ReadsContent (F ⨾ Ignored) (λ x. (view x, tt)) May c result
unfolding ◌⨾◌ Ignored
first_read F {d = d} (Ok x) h fresh = let r = h fresh in record {
  found = (octets_left d, r.found.0, tt);
  only = λ v z. ap (λ y. (y, tt)) (r.only v.0 z.0 z.1).0;
}
first_read F (Err e) h fresh = let r = h fresh in record { found = tt; only = λ v z. r.only v.0 z.0 z.1 }

-- a content whose reader names its fields, with one name more
pub content_named : {V : Type 0} (name : Bor (List ℕ)) (C : Content V) (c : Cursor) {T : Type 0} {view : T → V} {r s : Result T FieldError} → ReadsContent C view NoMemoryIn c r → NamesMore r name s
    → ReadsContent C view NoMemoryIn c s
content_named name C c {r = r} {s = s} h n fresh = whole_passes r s (more_passes (λ e f q m. ap (λ x. x.reason) q ∙ m) name r s n) (h fresh)

-- a content that is read without memory, and one that may need it, with the name of the field
pub content_first_named : {V : Type 0} (name : Bor (List ℕ)) (C : Content V) (c : Cursor) {T : Type 0} {view : T → V} {May : FieldError → Type 0} {r : Result T (ReadError BerError)} {s : Result T FieldError}
    → ReadsContent C view Never c r → NamesRefusal r name s → ReadsContent C view May c s
content_first_named name C c {r = r} {s = s} h n fresh = whole_passes r s (name_passes (λ e f q m. absurd m) name r s n) (h fresh)

pub content_named_in : {V : Type 0} (name : Bor (List ℕ)) (C : Content V) (c : Cursor) {T : Type 0} {view : T → V} {r : Result T (ReadError BerError)} {s : Result T FieldError}
    → ReadsContent C view NoMemory c r → NamesRefusal r name s → ReadsContent C view NoMemoryIn c s
content_named_in name C c {r = r} {s = s} h n fresh = whole_passes r s (name_passes memory_named name r s n) (h fresh)

-- a field whose reader names its fields, with one name more
pub named_more : (name : Bor (List ℕ)) {T V : Type 0} {F : Field V} {view : T → V} {old new : Cursor} {r s : Result T FieldError} → ReadsField F view NoMemoryIn old r new → NamesMore r name s
    → ReadsField F view NoMemoryIn old s new
named_more name {r = r} {s = s} h n fresh = field_passes r s (more_passes (λ e f q m. ap (λ x. x.reason) q ∙ m) name r s n) (h fresh)

-- All that is left of a content is read by one reader.
module _ {V W : Type 0} {P : V → Type 0} {C : Content W} {c : Cursor} {build : W → V} {T U E : Type 0} {part : T → W} {view : U → V} {May : E → Type 0} where
  pub finish_with : {x : T} {y : U} → Remains P C c build → ReadsContent {E = E} C part May c (Ok x) → view y ≡ build (part x) → ReadsWhole {E = E} P view May (Ok y)
  finish_with {x = x} l h q = let r = h l.fresh in record {
    found = subst P (sym q) (l.back (part x) r.found);
    only = λ v p. let z = l.only v p in q ∙ ap build (r.only z.0 z.1) ∙ sym z.2;
  }

  pub stops_with : (e : E) {result : Result U E} → Remains P C c build → ReadsContent {T = T} C part May c (Err e) → IsErrAnd result (λ y. y ≡ e) → ReadsWhole P view May result
  stops_with e {result = result} l h n =
      let q = err_from_is_err_and result n in
      rw (q.1, q.2) (record { found = tt; only = λ v p. let z = l.only v p in (h l.fresh).only z.0 z.1 })

-- the same, where its result is that of the content
pub rest_read : {T V W E : Type 0} {P : V → Type 0} {C : Content W} {c : Cursor} {build : W → V} {part : T → W} {view : T → V} {May : E → Type 0} (result : Result T E) → ((x : T) → view x ≡ build (part x)) → Remains P C c build
    → ReadsContent C part May c result → ReadsWhole P view May result
rest_read (Ok x) q l h = finish_with l h (q x)
rest_read (Err e) q l h = let r = h l.fresh in record { found = tt; only = λ v p. let z = l.only v p in r.only z.0 z.1 }

-- the end of the content is the result
pub ends : {V : Type 0} {P : V → Type 0} {c : Cursor} {build : Unit {0} → V} {view : Unit {0} → V} {May : ReadError BerError → Type 0} (result : Result (Unit {0}) (ReadError BerError)) → view tt ≡ build tt → Remains P End c build
    → EndsAt c result → ReadsWhole P view May result
ends (Ok u) q l h = finish l h q
ends (Err e) q l h = not_finished l h.0

-- a content that begins an input
pub at_start : {V : Type 0} (C : Content V) (c : Cursor) {T E : Type 0} {view : T → V} {May : E → Type 0} {r : Rules} {i : List ℕ} {result : Result T E} → StartsAt r i c → ReadsContent C view May c result
    → ReadsWhole (C r i) view May result
at_start C c {view = view} {May = May} {i = i} {result = result} s h =
    subst (λ k. ReadsWhole (C k i) view May result) s.3 (subst (λ w. ReadsWhole (C (rules_of c) w) view May result) s.0 (h s.4))

-- A value that stands for another.
pub start_as : {V W : Type 0} (f : V → W) {C : Content V} (c : Cursor) → c.implicit ≡ None → Remains (As f C (rules_of c) (octets_left c)) C c f
unfolding As
start_as f c fresh = record { fresh = fresh; back = λ w h. (w, h, refl); only = λ v h. h }

pub content_as : {V W : Type 0} (f : V → W) (C : Content V) (c : Cursor) {T U E : Type 0} {view : T → V} {view' : U → W} {May : E → Type 0} {x : T} {y : U} → view' y ≡ f (view x)
    → ReadsContent {E = E} C view May c (Ok x) → ReadsContent (As f C) view' May c (Ok y)
content_as f C c q h fresh = finish_with (start_as f c fresh) h q

pub no_content_as : {V W : Type 0} (f : V → W) (C : Content V) (c : Cursor) {T U E : Type 0} {view : T → V} {view' : U → W} {May : E → Type 0} (e : E) {result : Result U E} → IsErrAnd result (λ y. y ≡ e)
    → ReadsContent {T = T} C view May c (Err e) → ReadsContent (As f C) view' May c result
no_content_as f C c e n h fresh = stops_with e (start_as f c fresh) h n

pub mapped_read : {V W : Type 0} (f : V → W) (F : Format V) {T U E : Type 0} {view : T → V} {view' : U → W} {May May' : E → Type 0} {old new : Cursor} {x : T} {y : U} → view' y ≡ f (view x)
    → ReadsField {E = E} (Required F) view May old (Ok x) new → ReadsField (Required (Mapped f F)) view' May' old (Ok y) new
unfolding Required As
mapped_read f F {view = view} {x = x} q h fresh = let r = h fresh in record {
  found = (let z = r.found.0 in (z.0, (view x, z.1, q), z.2), r.found.1);
  only = λ v rest z. let e = r.only z.1.0 rest (z.0, z.1.1, z.2) in (q ∙ ap f e.0 ∙ sym z.1.2, e.1);
}

pub not_mapped : {V W : Type 0} (f : V → W) (F : Format V) {T U E : Type 0} {view : T → V} {view' : U → W} {May : E → Type 0} {old new after : Cursor} (e : E) {result : Result U E} → IsErrAnd result (λ y. y ≡ e)
    → ReadsField {T = T} (Required F) view May old (Err e) new → ReadsField (Required (Mapped f F)) view' May old result after
unfolding Required As
not_mapped f F e {result = result} n h fresh =
    let q = err_from_is_err_and result n in
    rw (q.1, q.2) (record { found = tt; only = λ v rest z. (h fresh).only z.1.0 rest (z.0, z.1.1, z.2) })
