-- What each call of a cursor reads, as a field of a format.
use Rattle.std.proofs.Common.{◌≡◌, ◌≢◌, ℕ, ◌<◌, Bool, true, false, List, [], ◌∷◌, ◌++◌, length, arith, length-append, Option, Some, None, Result, Ok, Err, ◌⊎◌, refl, sym, ap, subst, ◌∙◌, inl, inr, append_assoc}
use Rattle.std.specs.Option.{option_map}
use Rattle.der_base.specs.declared.any.Any.{Any}
use Rattle.der_base.specs.declared.error.Err.{Err as Refused}
use Rattle.der_base.specs.declared.error.Err.TheVariants.{Incomplete, Error, Failure, OutOfMemory}
use Rattle.der_base.specs.declared.error.Error.{Error as BerError}
use Rattle.der_base.specs.declared.error.Needed.TheVariants.{Unknown, Size}
use Rattle.der_base.specs.declared.header.Class.{Class}
use Rattle.der_base.specs.declared.header.Class.TheVariants.{Universal, ContextSpecific}
use Rattle.der_base.specs.declared.header.Tag.{Tag}
use Rattle.der_base.specs.declared.rules.Rules.{Rules}
use Rattle.der_base.specs.declared.rules.Rules.TheVariants.{Ber, Der}
use Rattle.der_base.specs.declared.time.ASN1DateTime.{ASN1DateTime}
use Rattle.der_base.specs.Answer.{MatchAnswer}
use Rattle.der_base.specs.Octets.{identifier, shortest_length}
use Rattle.der_base.specs.Spelling.{end_marker}
use Rattle.der_base.proofs.Octets.Identifiers.{identifier_same, identifier_octets}
use Rattle.der_values.specs.Kinds.{Kind, booleans, times}
use Rattle.der_cursor.specs.declared.cursor.Cursor.{Cursor}
use Rattle.der_cursor.specs.declared.error.ReadError.{ReadError}
use Rattle.der_cursor.specs.Cursors.{octets_left, rules_of, advanced, class_wanted, number_wanted, IsTagged, IsNextType, SpellsValue}
use Rattle.der_cursor.specs.Cursors.{OpensAt, OpensType, OpensTagged, ReadsValue, ReadsOptional, ReadsOr, ReadsTime, ReadsAnyAt}
use Rattle.der_cursor.specs.Elements.{SpellsElement, BeginsWithTag, IsNext}
use Rattle.der_cursor.specs.Formats.{Content, Field, Format, Required, Optional, Default, OptionalTagged, IfLeft, element_of, AnyElement}
use Rattle.der_cursor.proofs.AnyLaws.{header_told}
use Rattle.der_cursor.specs.Formats.{Octets, Value, Primitive, Tagged, Implicit, Limited, UtcTime, GeneralizedTime, Boolean, Time, OptionalTime, Never, ReadsNext, ReadsField, ReadsContent}

-- a reader that takes no memory, at a value that is spelled
pub never : {T : Type 0} (P : T → Type 0) (e : Refused BerError) → MatchAnswer (Err e) P (λ _. ⊥) (λ _. ⊥) ⊥ → ⊥
never P (Error x) h = h
never P (Incomplete (Size n)) h = h
never P (Incomplete Unknown) h = h
never P (Failure x) h = h
never P OutOfMemory h = h

retagged : (r : Rules) (c d : Class) (p : Bool) (n m : ℕ) (i : List ℕ) (v : List ℕ × List ℕ) → c ≡ d → n ≡ m → SpellsElement r c p n i v → SpellsElement r d p m i v
retagged r c d p n m i v e f s = subst (λ k. SpellsElement r k p m i v) e (subst (λ k. SpellsElement r c p k i v) f s)

-- an element begins with its identifier octets
pub spelled_next : (r : Rules) (c : Class) (p : Bool) (n : ℕ) (i : List ℕ) (v : List ℕ × List ℕ) → SpellsElement r c p n i v → (rest : List ℕ) × (i ≡ identifier c p n ++ rest)
spelled_next Der c p n i v s =
    (shortest_length (length v.0) ++ (v.0 ++ v.1), s.octets ∙ append_assoc (identifier c p n) (shortest_length (length v.0)) (v.0 ++ v.1))
spelled_next Ber c p n i v (ht, hk, inl (s, hs, d)) =
    (s ++ (v.0 ++ v.1), d ∙ append_assoc (identifier c p n ++ s) v.0 v.1 ∙ append_assoc (identifier c p n) s (v.0 ++ v.1))
spelled_next Ber c p n i v (ht, hk, inr (ep, h2, hw, d)) =
    (128 ∷ v.0 ++ (end_marker ++ v.1), d ∙ append_assoc (identifier c p n ++ 128 ∷ v.0) end_marker v.1 ∙ append_assoc (identifier c p n) (128 ∷ v.0) (end_marker ++ v.1))

is_next : (r : Rules) (c : Class) (p : Bool) (n : ℕ) (i : List ℕ) (v : List ℕ × List ℕ) → SpellsElement r c p n i v → IsNext c n i
is_next r c p n i v s = let z = spelled_next r c p n i v s in (p, z.0, z.1)

-- Primitive values. The class c and the number n are those that the cursor asks for.
module _ {T V : Type 0} (value : T → V) (k : Rules → Kind V) (t : ℕ) (old new : Cursor) (c : Class) (n : ℕ)
    (class : class_wanted old.implicit ≡ c) (number : number_wanted old.implicit t ≡ n) where
  abbrev asked : Format V
  asked = record { class = c; number = n; constructed = false; content = Value k }

  spelled : (v : V) (rest : List ℕ) → SpellsValue value (k (rules_of old)) t old (v, rest) → Required asked (rules_of old) (octets_left old) v rest
  unfolding Required Value
  spelled v rest z = (z.0, (z.1, z.2), retagged _ _ _ _ _ _ _ _ class number z.3)

  spells : (v : V) (rest : List ℕ) → Required asked (rules_of old) (octets_left old) v rest → SpellsValue value (k (rules_of old)) t old (v, rest)
  unfolding Required Value
  spells v rest z = (z.0, z.1.0, z.1.1, retagged _ _ _ _ _ _ _ _ (sym class) (sym number) z.2)

  next : (v : V) (rest : List ℕ) → Required asked (rules_of old) (octets_left old) v rest → IsNext c n (octets_left old)
  unfolding Required
  next v rest z = is_next _ _ _ _ _ _ z.2

  value_next : {May : ReadError BerError → Type 0} (result : Result T (ReadError BerError)) → ReadsValue value (k (rules_of old)) t old result new → ReadsNext (Required asked) value May old result new
  value_next (Ok x) h = record {
    found = (spelled (value x) (octets_left new) h.value_read.found, h.place);
    only = λ v rest z. let q = h.value_read.only (v, rest) (spells v rest z) in (ap (λ y. y.0) q, ap (λ y. y.1) q);
  }
  value_next (Err e) h = record {
    found = tt;
    only = λ v rest z. absurd (never _ e.reason (h.value_read.only (v, rest) (spells v rest z)));
  }

  wanted : IsNextType t old → IsNext c n (octets_left old)
  wanted h = subst (λ d. IsNext d n (octets_left old)) class (subst (λ m. IsNext (class_wanted old.implicit) m (octets_left old)) number h)

  unwanted : IsNext c n (octets_left old) → IsNextType t old
  unwanted h = subst (λ d. IsNext d (number_wanted old.implicit t) (octets_left old)) (sym class) (subst (λ m. IsNext c m (octets_left old)) (sym number) h)

-- the cursor stays where it is
stays : (old new : Cursor) → new ≡ advanced old old.left → (octets_left old ≡ octets_left new) × (new ≡ advanced old new.left)
stays old new q = (ap octets_left (sym q), q ∙ ap (λ l. advanced old l) (sym (ap (λ c. c.left) q)))

-- a value
pub value_read : {V : Type 0} (k : Rules → Kind V) {T : Type 0} {value : T → V} {t : ℕ} {old new : Cursor} {result : Result T (ReadError BerError)}
    → ReadsValue value (k (rules_of old)) t old result new → ReadsField (Required (Primitive t (Value k))) value Never old result new
value_read k {value = value} {t = t} {old = old} {new = new} {result = result} h fresh =
    value_next value k t old new Universal t (ap class_wanted fresh) (ap (λ m. number_wanted m t) fresh) result h

-- an implicit tag is said for the element alone
untagged : {T V E : Type 0} {F : Field V} {view : T → V} {May : E → Type 0} {result : Result T E} {new : Cursor} (old : Cursor) (m : Option (Class × Tag))
    → ReadsNext F view May (record old { implicit = m }) result new → ReadsNext F view May old result new
untagged old m h = record { found = h.found; only = h.only }

-- a value under an implicit tag
pub tagged_read : {V : Type 0} (k : Rules → Kind V) {T : Type 0} {value : T → V} {t n : ℕ} {c : Class} {old tagged new : Cursor} {result : Result T (ReadError BerError)}
    → IsTagged c n old tagged → ReadsValue value (k (rules_of tagged)) t tagged result new
    → ReadsField (Required (Tagged c n (Primitive t (Value k)))) value Never old result new
tagged_read k {value = value} {t = t} {n = n} {c = c} {old = old} {tagged = tagged} {new = new} {result = result} q h fresh =
    untagged old (Some (c, record { 0 = n })) (subst (λ m. ReadsNext (Required (Tagged c n (Primitive t (Value k)))) value Never m result new) q
    (value_next value k t tagged new c n (ap (λ m. class_wanted m.implicit) q) (ap (λ m. number_wanted m.implicit t) q) result h))

pub implicit_read : {V : Type 0} (k : Rules → Kind V) {T : Type 0} {value : T → V} {t n : ℕ} {old tagged new : Cursor} {result : Result T (ReadError BerError)}
    → IsTagged ContextSpecific n old tagged → ReadsValue value (k (rules_of tagged)) t tagged result new
    → ReadsField (Required (Implicit n (Primitive t (Value k)))) value Never old result new
implicit_read k q h = tagged_read k q h

-- Values that may be absent.
module _ {T V : Type 0} (value : T → V) (k : Rules → Kind V) (t : ℕ) (old new : Cursor) (c : Class) (n : ℕ)
    (class : class_wanted old.implicit ≡ c) (number : number_wanted old.implicit t ≡ n) where
  optional_next : {May : ReadError BerError → Type 0} (result : Result (Option T) (ReadError BerError)) → ReadsOptional value (k (rules_of old)) t old result new
      → ReadsNext (Optional (asked value k t old new c n class number)) (option_map value) May old result new
  unfolding Optional
  optional_next (Ok None) h = record {
    found = let q = stays old new h.1 in (((λ z. h.0 (unwanted value k t old new c n class number z)), q.0), q.1);
    only = λ v rest. elim v as (λ u. Optional (asked value k t old new c n class number) (rules_of old) (octets_left old) u rest → (None ≡ u) × (octets_left new ≡ rest)) [
      | None ↦ λ z. (refl, sym (stays old new h.1).0 ∙ z.1)
      | Some u ↦ λ z. absurd (h.0 (unwanted value k t old new c n class number (next value k t old new c n class number u rest z)))
    ];
  }
  optional_next {May = May} (Ok (Some x)) h = let r = value_next value k t old new c n class number {May = May} (Ok x) h.1 in record {
    found = r.found;
    only = λ v rest. elim v as (λ u. Optional (asked value k t old new c n class number) (rules_of old) (octets_left old) u rest → (Some (value x) ≡ u) × (octets_left new ≡ rest)) [
      | None ↦ λ z. absurd (z.0 (wanted value k t old new c n class number h.0))
      | Some u ↦ λ z. let q = r.only u rest z in (ap Some q.0, q.1)
    ];
  }
  optional_next {May = May} (Err e) h = let r = value_next value k t old new c n class number {May = May} (Err e) h.1 in record {
    found = tt;
    only = λ v rest. elim v as (λ u. Optional (asked value k t old new c n class number) (rules_of old) (octets_left old) u rest → May e) [
      | None ↦ λ z. absurd (z.0 (wanted value k t old new c n class number h.0))
      | Some u ↦ λ z. r.only u rest z
    ];
  }

pub optional_read : {V : Type 0} (k : Rules → Kind V) (t : ℕ) {T : Type 0} {value : T → V} {old new : Cursor} {result : Result (Option T) (ReadError BerError)}
    → ReadsOptional value (k (rules_of old)) t old result new → ReadsField (Optional (Primitive t (Value k))) (option_map value) Never old result new
optional_read k t {value = value} {old = old} {new = new} {result = result} h fresh =
    optional_next value k t old new Universal t (ap class_wanted fresh) (ap (λ m. number_wanted m t) fresh) result h

pub implicit_optional_read : {V : Type 0} (k : Rules → Kind V) (t : ℕ) {T : Type 0} {value : T → V} {n : ℕ} {old tagged new : Cursor} {result : Result (Option T) (ReadError BerError)}
    → IsTagged ContextSpecific n old tagged → ReadsOptional value (k (rules_of tagged)) t tagged result new
    → ReadsField (Optional (Implicit n (Primitive t (Value k)))) (option_map value) Never old result new
implicit_optional_read k t {value = value} {n = n} {old = old} {tagged = tagged} {new = new} {result = result} q h fresh =
    untagged old (Some (ContextSpecific, record { 0 = n })) (subst (λ m. ReadsNext (Optional (Implicit n (Primitive t (Value k)))) (option_map value) Never m result new) q
    (optional_next value k t tagged new ContextSpecific n (ap (λ m. class_wanted m.implicit) q) (ap (λ m. number_wanted m.implicit t) q) result h))

-- Elements that are opened. What is inside is read to its end.
abbrev opened_type : {V : Type 0} → Class → Bool → ℕ → Content V → Format V
opened_type c p n C = record { class = c; number = n; constructed = p; content = C }

-- the content of what was opened is the one that is spelled
the_content : {V : Type 0} (c : Class) (p : Bool) (n : ℕ) (C : Content V) (old inner new : Cursor) → OpensAt c p n old (Ok inner) new → (v : V) (rest : List ℕ)
    → Required (opened_type c p n C) (rules_of old) (octets_left old) v rest → C (rules_of inner) (octets_left inner) v × (octets_left new ≡ rest)
unfolding Required
the_content c p n C old inner new o v rest z =
    let q = o.element.only (z.0, rest) z.2 in
    (subst (λ r. C r (octets_left inner) v) (sym o.places.3) (subst (λ w. C (rules_of old) w v) (sym (ap (λ y. y.0) q)) z.1), ap (λ y. y.1) q)

inside_next : {T V E : Type 0} {view : T → V} {May : E → Type 0} (c : Class) (p : Bool) (n : ℕ) (C : Content V) (old inner new : Cursor) (result : Result T E) → OpensAt c p n old (Ok inner) new
    → ReadsContent C view May inner result → ReadsNext (Required (opened_type c p n C)) view May old result new
unfolding Required
inside_next {view = view} c p n C old inner new (Ok x) o h = let r = h o.places.4 in record {
  found = ((octets_left inner, subst (λ k. C k (octets_left inner) (view x)) o.places.3 r.found, o.element.found), o.places.0);
  only = λ v rest z. let q = the_content c p n C old inner new o v rest z in (r.only v q.0, q.1);
}
inside_next c p n C old inner new (Err e) o h = record { found = tt; only = λ v rest z. (h o.places.4).only v (the_content c p n C old inner new o v rest z).0 }

unopened_next : {T V E : Type 0} {view : T → V} {May : E → Type 0} (c : Class) (p : Bool) (n : ℕ) (C : Content V) (old : Cursor) (e : ReadError BerError) (after new : Cursor) (x : E)
    → OpensAt c p n old (Err e) after → ReadsNext (Required (opened_type c p n C)) view May old (Err x) new
unfolding Required
unopened_next c p n C old e after new x o = record { found = tt; only = λ v rest z. absurd (never _ e.reason (o.element.only (z.0, rest) z.2)) }

-- an element of a universal type is opened, and its content read
pub inside : {V : Type 0} (t : ℕ) (C : Content V) {T E : Type 0} {view : T → V} {May : E → Type 0} {p : Bool} {old inner new : Cursor} {result : Result T E} → OpensType p t old (Ok inner) new
    → ReadsContent C view May inner result → ReadsField (Required (record { class = Universal; number = t; constructed = p; content = C })) view May old result new
inside t C {p = p} {old = old} {inner = inner} {new = new} {result = result} o h fresh =
    inside_next Universal p t C old inner new result (subst (λ m. OpensAt (class_wanted m) p (number_wanted m t) old (Ok inner) new) fresh o) h

-- it isn't opened
pub unopened : {V : Type 0} (t : ℕ) (C : Content V) {T E : Type 0} {view : T → V} {May : E → Type 0} {p : Bool} {old after new : Cursor} {e : ReadError BerError} {x : E} → OpensType p t old (Err e) after
    → ReadsField (Required (record { class = Universal; number = t; constructed = p; content = C })) view May old (Err x) new
unopened t C {p = p} {old = old} {after = after} {new = new} {e = e} {x = x} o fresh =
    unopened_next Universal p t C old e after new x (subst (λ m. OpensAt (class_wanted m) p (number_wanted m t) old (Err e) after) fresh o)

-- the same of one of another class
pub inside_of : {V : Type 0} (C : Content V) {T E : Type 0} {view : T → V} {May : E → Type 0} {c : Class} {p : Bool} {n : ℕ} {old inner new : Cursor} {result : Result T E} → OpensAt c p n old (Ok inner) new
    → ReadsContent C view May inner result → ReadsField (Required (record { class = c; number = n; constructed = p; content = C })) view May old result new
inside_of C {c = c} {p = p} {n = n} {old = old} {inner = inner} {new = new} {result = result} o h fresh = inside_next c p n C old inner new result o h

pub unopened_of : {V : Type 0} (C : Content V) {T E : Type 0} {view : T → V} {May : E → Type 0} {c : Class} {p : Bool} {n : ℕ} {old after new : Cursor} {e : ReadError BerError} {x : E} → OpensAt c p n old (Err e) after
    → ReadsField (Required (record { class = c; number = n; constructed = p; content = C })) view May old (Err x) new
unopened_of C {c = c} {p = p} {n = n} {old = old} {after = after} {new = new} {e = e} {x = x} o fresh = unopened_next c p n C old e after new x o

-- Explicit tags that may be absent.
begins : (r : Rules) (n : ℕ) (i : List ℕ) (v : List ℕ × List ℕ) → SpellsElement r ContextSpecific true n i v → BeginsWithTag n i
begins r n i v s = spelled_next r ContextSpecific true n i v s

module _ {V : Type 0} (n : ℕ) (C : Content V) {T E : Type 0} {view : T → V} {May : E → Type 0} {old : Cursor} where
  -- none
  pub tagged_absent : {new : Cursor} → OpensTagged n old (Ok None) new → ReadsField {E = E} (OptionalTagged n C) (option_map view) May old (Ok None) new
  unfolding OptionalTagged
  tagged_absent {new = new} o fresh = record {
    found = let q = stays old new o.1 in ((o.0, q.0), q.1);
    only = λ v rest. elim v as (λ u. OptionalTagged n C (rules_of old) (octets_left old) u rest → (None ≡ u) × (octets_left new ≡ rest)) [
      | None ↦ λ z. (refl, sym (stays old new o.1).0 ∙ z.1)
      | Some u ↦ λ z. absurd (o.0 (begins _ n _ _ z.2))
    ];
  }

  -- one, whose content is read
  pub tagged_inside : {inner new : Cursor} {x : T} → OpensTagged n old (Ok (Some inner)) new → ReadsContent {E = E} C view May inner (Ok x)
      → ReadsField (OptionalTagged n C) (option_map view) May old (Ok (Some x)) new
  unfolding OptionalTagged Required
  tagged_inside {inner = inner} {new = new} {x = x} o h fresh = let r = inside_next ContextSpecific true n C old inner new (Ok x) o.1 h in record {
    found = r.found;
    only = λ v rest. elim v as (λ u. OptionalTagged n C (rules_of old) (octets_left old) u rest → (Some (view x) ≡ u) × (octets_left new ≡ rest)) [
      | None ↦ λ z. absurd (z.0 o.0)
      | Some u ↦ λ z. let q = r.only u rest z in (ap Some q.0, q.1)
    ];
  }

  -- one, whose content is refused
  pub tagged_stops : {T' : Type 0} {inner new after : Cursor} {e : E} {view' : T' → Option V} → OpensTagged n old (Ok (Some inner)) after → ReadsContent C view May inner (Err e)
      → ReadsField (OptionalTagged n C) view' May old (Err e) new
  unfolding OptionalTagged Required
  tagged_stops {inner = inner} {new = new} {after = after} {e = e} o h fresh = let r = inside_next ContextSpecific true n C old inner after (Err e) o.1 h in record {
    found = tt;
    only = λ v rest. elim v as (λ u. OptionalTagged n C (rules_of old) (octets_left old) u rest → May e) [
      | None ↦ λ z. absurd (z.0 o.0)
      | Some u ↦ λ z. r.only u rest z
    ];
  }

-- one that isn't opened
pub tagged_unopened : {V : Type 0} (n : ℕ) (C : Content V) {T E : Type 0} {view : T → Option V} {May : E → Type 0} {old new after : Cursor} {e : ReadError BerError} {x : E} → OpensTagged n old (Err e) after
    → ReadsField (OptionalTagged n C) view May old (Err x) new
unfolding OptionalTagged Required
tagged_unopened {V = V} n C {May = May} {old = old} {new = new} {after = after} {e = e} {x = x} o fresh =
    let r : ReadsNext (Required (opened_type ContextSpecific true n C)) (λ (v : V). v) May old (Err x) new = unopened_next ContextSpecific true n C old e after new x o.1 in record {
      found = tt;
      only = λ v rest. elim v as (λ u. OptionalTagged n C (rules_of old) (octets_left old) u rest → May x) [
        | None ↦ λ z. absurd (z.0 o.0)
        | Some u ↦ λ z. r.only u rest z
      ];
    }

-- one, whose octets are kept
pub tagged_octets : (n : ℕ) {old new : Cursor} {result : Result (Option Cursor) (ReadError BerError)} → OpensTagged n old result new
    → ReadsField (OptionalTagged n Octets) (option_map octets_left) Never old result new
unfolding Octets
tagged_octets n {result = Ok None} o fresh = tagged_absent n Octets {view = octets_left} o fresh
tagged_octets n {result = Ok (Some inner)} o fresh = tagged_inside n Octets {view = octets_left} o (λ f. record { found = refl; only = λ v z. sym z }) fresh
tagged_octets n {result = Err e} o fresh = tagged_unopened n Octets o fresh

-- Any element, and one that is there if anything is left.
pub any_read : {old new : Cursor} {result : Result Any (ReadError BerError)} → ReadsAnyAt old result new → ReadsField AnyElement element_of Never old result new
unfolding AnyElement
any_read {old = old} {new = new} {result = Ok x} h fresh = record {
  found = ((h.any_read.found, h.header), h.place);
  only = λ v rest z. let q = h.any_read.only (record { class = v.0; constructed = v.1; number = v.2; content = v.3; rest = rest }) z.0 in
      (header_told _ _ (element_of x) v (ap (λ e. e.class) q) (ap (λ e. e.constructed) q) (ap (λ e. e.number) q) (ap (λ e. e.content) q) h.header z.1, ap (λ e. e.rest) q);
}
any_read {old = old} {new = new} {result = Err e} h fresh = record {
  found = tt;
  only = λ v rest z. absurd (never _ e.reason (h.any_read.only (record { class = v.0; constructed = v.1; number = v.2; content = v.3; rest = rest }) z.0));
}

module _ {V : Type 0} (F : Field V) {T E : Type 0} {view : T → V} {May : E → Type 0} {c : Cursor} where
  pub none_left : octets_left c ≡ [] → ReadsField {E = E} (IfLeft F) (option_map view) May c (Ok None) c
  unfolding IfLeft
  none_left q fresh = record {
    found = ((q, refl), ap (λ m. record c { implicit = m }) fresh);
    only = λ v rest. elim v as (λ u. IfLeft F (rules_of c) (octets_left c) u rest → (None ≡ u) × (octets_left c ≡ rest)) [
      | None ↦ λ z. (refl, z.1)
      | Some u ↦ λ z. absurd (z.0 q)
    ];
  }

  pub some_left : {d : Cursor} {x : T} → octets_left c ≢ [] → ReadsField {E = E} F view May c (Ok x) d → ReadsField (IfLeft F) (option_map view) May c (Ok (Some x)) d
  unfolding IfLeft
  some_left {d = d} {x = x} q h fresh = let r = h fresh in record {
    found = ((q, r.found.0), r.found.1);
    only = λ v rest. elim v as (λ u. IfLeft F (rules_of c) (octets_left c) u rest → (Some (view x) ≡ u) × (octets_left d ≡ rest)) [
      | None ↦ λ z. absurd (q z.0)
      | Some u ↦ λ z. let e = r.only u rest z.1 in (ap Some e.0, e.1)
    ];
  }

  pub left_stops : {T' : Type 0} {view' : T' → Option V} {d after : Cursor} {e : E} → octets_left c ≢ [] → ReadsField F view May c (Err e) d → ReadsField (IfLeft F) view' May c (Err e) after
  unfolding IfLeft
  left_stops {e = e} q h fresh = let r = h fresh in record {
    found = tt;
    only = λ v rest. elim v as (λ u. IfLeft F (rules_of c) (octets_left c) u rest → May e) [
      | None ↦ λ z. absurd (q z.0)
      | Some u ↦ λ z. r.only u rest z.1
    ];
  }

-- Values of which P holds.
module _ {V : Type 0} (P : V → Type 0) (T : Format V) {X E : Type 0} {view : X → V} {May : E → Type 0} {old : Cursor} where
  pub limited_read : {new : Cursor} {x : X} → P (view x) → ReadsField {E = E} (Required T) view May old (Ok x) new → ReadsField (Required (Limited P T)) view May old (Ok x) new
  unfolding Required
  limited_read {new = new} p h fresh = let r = h fresh in record {
    found = let z = r.found.0 in ((z.0, (z.1, p), z.2), r.found.1);
    only = λ v rest z. r.only v rest (z.0, z.1.0, z.2);
  }

  pub limited_stops : {new after : Cursor} {e : E} → ReadsField (Required T) view May old (Err e) new → ReadsField (Required (Limited P T)) view May old (Err e) after
  unfolding Required
  limited_stops h fresh = let r = h fresh in record { found = tt; only = λ v rest z. r.only v rest (z.0, z.1.0, z.2) }

  pub not_limited : {new after : Cursor} {x : X} {e : E} → ¬ P (view x) → ReadsField {E = E} (Required T) view May old (Ok x) new → ReadsField (Required (Limited P T)) view May old (Err e) after
  unfolding Required
  not_limited p h fresh = let r = h fresh in record {
    found = tt;
    only = λ v rest z. absurd (p (subst P (sym (r.only v rest (z.0, z.1.0, z.2)).0) z.1.1));
  }

-- A value with a default, and a choice of times.
apart_next : (r : Rules) (p : Bool) (n m : ℕ) (i : List ℕ) (v : List ℕ × List ℕ) → n ≢ m → SpellsElement r Universal p n i v → ¬ IsNext Universal m i
apart_next r p n m i v d s h =
    let z = spelled_next r Universal p n i v s in
    d (identifier_same Universal Universal p h.0 n m z.0 h.1 (sym z.1 ∙ h.2)).2

-- a BOOLEAN with a default
pub boolean_or_read : (d : Bool) {old new : Cursor} {result : Result Bool (ReadError BerError)} → ReadsOr (λ v. v) (booleans (rules_of old)) 1 d old result new
    → ReadsField (Default Boolean d) (λ v. v) Never old result new
unfolding Default
boolean_or_read d {old = old} {new = new} {result = Ok x} (inl (absent, same, moved)) fresh =
    let q = stays old new moved in record {
      found = (inl ((λ z. absent (unwanted (λ v. v) booleans 1 old new Universal 1 (ap class_wanted fresh) (ap (λ m. number_wanted m 1) fresh) z)), same, q.0), q.1);
      only = λ v rest z. elim z [
        | inl y ↦ (same ∙ sym y.1, sym q.0 ∙ y.2)
        | inr y ↦ absurd (absent (unwanted (λ v. v) booleans 1 old new Universal 1 (ap class_wanted fresh) (ap (λ m. number_wanted m 1) fresh)
            (next (λ v. v) booleans 1 old new Universal 1 (ap class_wanted fresh) (ap (λ m. number_wanted m 1) fresh) v rest y.0)))
      ];
    }
boolean_or_read d {old = old} {new = new} {result = Ok x} (inr (present, read, other)) fresh =
    let r = value_read booleans read fresh in record {
      found = (inr (r.found.0, other), r.found.1);
      only = λ v rest z. elim z [
        | inl y ↦ absurd (y.0 (wanted (λ v. v) booleans 1 old new Universal 1 (ap class_wanted fresh) (ap (λ m. number_wanted m 1) fresh) present))
        | inr y ↦ r.only v rest y.0
      ];
    }
boolean_or_read d {old = old} {new = new} {result = Err e} (present, inl read) fresh =
    let r = value_read booleans read fresh in record {
      found = tt;
      only = λ v rest z. elim z [
        | inl y ↦ absurd (y.0 (wanted (λ v. v) booleans 1 old new Universal 1 (ap class_wanted fresh) (ap (λ m. number_wanted m 1) fresh) present))
        | inr y ↦ r.only v rest y.0
      ];
    }
boolean_or_read d {old = old} {new = new} {result = Err e} (present, inr (der, later, read, told, moved)) fresh =
    let r = value_read booleans read fresh in record {
      found = tt;
      only = λ v rest z. elim z [
        | inl y ↦ absurd (y.0 (wanted (λ v. v) booleans 1 old new Universal 1 (ap class_wanted fresh) (ap (λ m. number_wanted m 1) fresh) present))
        | inr y ↦ absurd (y.1 der (sym (r.only v rest y.0).0))
      ];
    }

-- a type that may be absent, which was looked for
module _ {V : Type 0} (F : Format V) {T E : Type 0} {view : T → V} {May : E → Type 0} {c : Cursor} where
  pub not_next : ¬ IsNext F.class F.number (octets_left c) → ReadsField {E = E} (Optional F) (option_map view) May c (Ok None) c
  unfolding Optional Required
  not_next q fresh = record {
    found = ((q, refl), ap (λ m. record c { implicit = m }) fresh);
    only = λ v rest. elim v as (λ u. Optional F (rules_of c) (octets_left c) u rest → (None ≡ u) × (octets_left c ≡ rest)) [
      | None ↦ λ z. (refl, z.1)
      | Some u ↦ λ z. absurd (q (is_next _ _ _ _ _ _ z.2))
    ];
  }

  pub is_read : {d : Cursor} {x : T} → IsNext F.class F.number (octets_left c) → ReadsField {E = E} (Required F) view May c (Ok x) d → ReadsField (Optional F) (option_map view) May c (Ok (Some x)) d
  unfolding Optional
  is_read {d = d} {x = x} q h fresh = let r = h fresh in record {
    found = r.found;
    only = λ v rest. elim v as (λ u. Optional F (rules_of c) (octets_left c) u rest → (Some (view x) ≡ u) × (octets_left d ≡ rest)) [
      | None ↦ λ z. absurd (z.0 q)
      | Some u ↦ λ z. let e = r.only u rest z in (ap Some e.0, e.1)
    ];
  }

  pub is_refused : {X : Type 0} {view' : X → Option V} {d after : Cursor} {e : E} → IsNext F.class F.number (octets_left c) → ReadsField (Required F) view May c (Err e) d → ReadsField (Optional F) view' May c (Err e) after
  unfolding Optional
  is_refused {e = e} q h fresh = let r = h fresh in record {
    found = tt;
    only = λ v rest. elim v as (λ u. Optional F (rules_of c) (octets_left c) u rest → May e) [
      | None ↦ λ z. absurd (z.0 q)
      | Some u ↦ λ z. r.only u rest z
    ];
  }

-- a content that is kept as it is
pub octets_kept : {E : Type 0} {May : E → Type 0} (c : Cursor) → ReadsContent Octets octets_left May c (Ok c)
unfolding Octets
octets_kept c fresh = record { found = refl; only = λ v z. sym z }

-- an element takes octets
pub element_takes : (r : Rules) (c : Class) (p : Bool) (n : ℕ) (i : List ℕ) (v : List ℕ × List ℕ) → SpellsElement r c p n i v → length v.1 < length i
element_takes Der c p n i v s =
    omega (arith, identifier_octets c p n, ap length s.octets, length-append (identifier c p n ++ shortest_length (length v.0)) (v.0 ++ v.1), length-append (identifier c p n) (shortest_length (length v.0)), length-append v.0 v.1)
element_takes Ber c p n i v (ht, hk, inl (s, hs, d)) =
    omega (arith, identifier_octets c p n, ap length d, length-append (identifier c p n ++ s ++ v.0) v.1, length-append (identifier c p n ++ s) v.0, length-append (identifier c p n) s)
element_takes Ber c p n i v (ht, hk, inr (ep, h2, hw, d)) =
    omega (
      arith,
      identifier_octets c p n,
      ap length d,
      length-append (identifier c p n ++ 128 ∷ v.0 ++ end_marker) v.1,
      length-append (identifier c p n ++ 128 ∷ v.0) end_marker,
      length-append (identifier c p n) (128 ∷ v.0),
    )

pub required_takes : {V : Type 0} (F : Format V) (r : Rules) (i : List ℕ) (v : V) (rest : List ℕ) → Required F r i v rest → length rest < length i
unfolding Required
required_takes F r i v rest z = element_takes r F.class F.constructed F.number i (z.0, rest) z.2

-- a type that is next and isn't opened
pub optional_unopened : {V : Type 0} (t : ℕ) (C : Content V) {T E : Type 0} {view : T → Option V} {May : E → Type 0} {p : Bool} {old new after : Cursor} {e : ReadError BerError} {x : E}
    → IsNext Universal t (octets_left old) → OpensType p t old (Err e) after → ReadsField (Optional (record { class = Universal; number = t; constructed = p; content = C })) view May old (Err x) new
optional_unopened {V} t C {May = May} {p = p} {old = old} {new = new} q o fresh =
    is_refused (record { class = Universal; number = t; constructed = p; content = C }) {view = λ (v : V). v} {May = May} {d = new} q (unopened t C o) fresh

-- what a borrow of a cursor was left as is what the cursor is afterwards
pub returned : {T V E : Type 0} {F : Field V} {view : T → V} {May : E → Type 0} {old new after : Cursor} {result : Result T E} → ReadsField F view May old result new → after ≡ new
    → ReadsField F view May old result after
returned {F = F} {view = view} {May = May} {old = old} {result = result} h q = subst (λ c. ReadsField F view May old result c) (sym q) h

-- an element of a universal type, whose octets are kept
pub kept_read : (t : ℕ) {p : Bool} {old new : Cursor} {result : Result Cursor (ReadError BerError)} → OpensType p t old result new
    → ReadsField (Required (record { class = Universal; number = t; constructed = p; content = Octets })) octets_left Never old result new
kept_read t {result = Ok inner} o = inside t Octets o (octets_kept inner)
kept_read t {result = Err e} o = unopened t Octets o

-- Times.
module _ (old new : Cursor) (fresh : old.implicit ≡ None) where
  utc : (x : Result ASN1DateTime (ReadError BerError)) → ReadsValue (λ v. v) (times (rules_of old) 23) 23 old x new → ReadsNext (Required UtcTime) (λ v. v) Never old x new
  utc x h = value_read (λ r. times r 23) h fresh

  generalized : (x : Result ASN1DateTime (ReadError BerError)) → ReadsValue (λ v. v) (times (rules_of old) 24) 24 old x new → ReadsNext (Required GeneralizedTime) (λ v. v) Never old x new
  generalized x h = value_read (λ r. times r 24) h fresh

  next_24 : IsNextType 24 old → IsNext Universal 24 (octets_left old)
  next_24 h = wanted (λ (v : ASN1DateTime). v) (λ r. times r 24) 24 old new Universal 24 (ap class_wanted fresh) (ap (λ m. number_wanted m 24) fresh) h

  to_24 : IsNext Universal 24 (octets_left old) → IsNextType 24 old
  to_24 h = unwanted (λ (v : ASN1DateTime). v) (λ r. times r 24) 24 old new Universal 24 (ap class_wanted fresh) (ap (λ m. number_wanted m 24) fresh) h

  not_utc : (v : ASN1DateTime) (rest : List ℕ) → Required UtcTime (rules_of old) (octets_left old) v rest → ¬ IsNext Universal 24 (octets_left old)
  unfolding Required
  not_utc v rest z = apart_next _ _ 23 24 _ _ (λ q. absurd (omega (arith, q))) z.2

  is_24 : (v : ASN1DateTime) (rest : List ℕ) → Required GeneralizedTime (rules_of old) (octets_left old) v rest → IsNext Universal 24 (octets_left old)
  unfolding Required
  is_24 v rest z = is_next _ _ _ _ _ _ z.2

  time_next : (x : Result ASN1DateTime (ReadError BerError)) → ReadsTime old x new → ReadsNext Time (λ v. v) Never old x new
  unfolding Time
  time_next (Ok x) (inl (n, h)) = let r = generalized (Ok x) h in record {
    found = (inr r.found.0, r.found.1);
    only = λ v rest z. elim z [ inl y ↦ absurd (not_utc v rest y (next_24 n)) | inr y ↦ r.only v rest y ];
  }
  time_next (Err e) (inl (n, h)) = let r = generalized (Err e) h in record {
    found = tt;
    only = λ v rest z. elim z [ inl y ↦ absurd (not_utc v rest y (next_24 n)) | inr y ↦ r.only v rest y ];
  }
  time_next (Ok x) (inr (n, h)) = let r = utc (Ok x) h in record {
    found = (inl r.found.0, r.found.1);
    only = λ v rest z. elim z [ inl y ↦ r.only v rest y | inr y ↦ absurd (n (to_24 (is_24 v rest y))) ];
  }
  time_next (Err e) (inr (n, h)) = let r = utc (Err e) h in record {
    found = tt;
    only = λ v rest z. elim z [ inl y ↦ r.only v rest y | inr y ↦ absurd (n (to_24 (is_24 v rest y))) ];
  }

pub time_read : {old new : Cursor} {result : Result ASN1DateTime (ReadError BerError)} → ReadsTime old result new → ReadsField Time (λ v. v) Never old result new
time_read {old = old} {new = new} {result = result} h fresh = time_next old new fresh result h

-- a time that may be absent, which was looked for
module _ {X E : Type 0} {view : X → ASN1DateTime} {May : E → Type 0} {c : Cursor} where
  pub no_time_next : ¬ IsNext Universal 23 (octets_left c) → ¬ IsNext Universal 24 (octets_left c) → ReadsField {E = E} OptionalTime (option_map view) May c (Ok None) c
  unfolding OptionalTime Time Required
  no_time_next n m fresh = record {
    found = (((n, m), refl), ap (λ k. record c { implicit = k }) fresh);
    only = λ v rest. elim v as (λ u. OptionalTime (rules_of c) (octets_left c) u rest → (None ≡ u) × (octets_left c ≡ rest)) [
      | None ↦ λ z. (refl, z.1)
      | Some u ↦ λ z. elim z [ inl y ↦ absurd (n (is_next _ _ _ _ _ _ y.2)) | inr y ↦ absurd (m (is_next _ _ _ _ _ _ y.2)) ]
    ];
  }

  pub time_is_read : {d : Cursor} {x : X} → (IsNext Universal 23 (octets_left c) ⊎ IsNext Universal 24 (octets_left c)) → ReadsField {E = E} Time view May c (Ok x) d
      → ReadsField OptionalTime (option_map view) May c (Ok (Some x)) d
  unfolding OptionalTime
  time_is_read {d = d} {x = x} q h fresh = let r = h fresh in record {
    found = r.found;
    only = λ v rest. elim v as (λ u. OptionalTime (rules_of c) (octets_left c) u rest → (Some (view x) ≡ u) × (octets_left d ≡ rest)) [
      | None ↦ λ z. elim q [ inl y ↦ absurd (z.0.0 y) | inr y ↦ absurd (z.0.1 y) ]
      | Some u ↦ λ z. let e = r.only u rest z in (ap Some e.0, e.1)
    ];
  }

  pub time_is_refused : {Y : Type 0} {whole : Y → Option ASN1DateTime} {d after : Cursor} {e : E} → (IsNext Universal 23 (octets_left c) ⊎ IsNext Universal 24 (octets_left c))
      → ReadsField Time view May c (Err e) d → ReadsField OptionalTime whole May c (Err e) after
  unfolding OptionalTime
  time_is_refused {e = e} q h fresh = let r = h fresh in record {
    found = tt;
    only = λ v rest. elim v as (λ u. OptionalTime (rules_of c) (octets_left c) u rest → May e) [
      | None ↦ λ z. elim q [ inl y ↦ absurd (z.0.0 y) | inr y ↦ absurd (z.0.1 y) ]
      | Some u ↦ λ z. r.only u rest z
    ];
  }

pub octets_in : (c : Cursor) {T E : Type 0} {view : T → List ℕ} {May : E → Type 0} {x : T} → view x ≡ octets_left c → ReadsContent {E = E} Octets view May c (Ok x)
unfolding Octets
octets_in c q fresh = record { found = q; only = λ v z. q ∙ sym z }
