-- Filters: their kinds, and the parts that are added.
use Rattle.std.proofs.Common.{◌≡◌, ◌≢◌, ℕ, zero, suc, ◌+◌, ◌-◌, ◌<◌, ◌≤◌, Bool, true, Option, Some, None, List, [], ◌∷◌, ◌++◌, Result, Ok, Err, Bor, length, refl, sym, ap, subst, ◌∙◌, append_assoc, arith}
use Rattle.std.specs.Prelude.{◌==◌, if◌then◌else◌, ok_or, OnOk}
use Rattle.std.specs.Global.{Vec}
use Rattle.std.specs.List.{flat_map}
use Rattle.std.specs.Result.{IsErrAnd}
use Rattle.std.proofs.lemmas.Result.{err_from_is_err_and}
use Rattle.der_base.specs.declared.any.Any.{Any}
use Rattle.der_base.specs.declared.error.Error.{Error as BerError}
use Rattle.der_base.specs.declared.header.Class.TheVariants.{ContextSpecific}
use Rattle.der_base.specs.declared.rules.Rules.{Rules}
use Rattle.der_base.specs.Header.{number_of as header_number}
use Rattle.der_cursor.specs.declared.cursor.Cursor.{Cursor}
use Rattle.der_cursor.specs.declared.error.ReadError.{ReadError}
use Rattle.der_cursor.specs.Cursors.{octets_left, rules_of, EndsAt, OpensAt, ReadsAnyAt}
use Rattle.der_cursor.specs.Formats.{As, Choice, Constructed, Content, Each, Field, Implicit, Never, NoMemory, OctetString, Only, Required, ReadsContent, ReadsField, ReadsNext, TellsNext}
use Rattle.der_cursor.proofs.ChoiceLaws.{next_known, next_unknown}
use Rattle.der_cursor.proofs.FieldLaws.{gives, got}
use Rattle.der_cursor.proofs.FormatLaws.{inside_of, required_takes, unopened_of}
use Rattle.der_cursor.proofs.Lists.{TakesOctets}
use Rattle.der_cursor.proofs.Sequences.{Remains, content_as, no_content_as, only_left, only_read, only_stops, start_as}
use Rattle.messages.specs.declared.ldap.filter.Connective.{Connective}
use Rattle.messages.specs.declared.ldap.filter.Connective.TheVariants.{And, Or, Not}
use Rattle.messages.specs.declared.ldap.filter.FilterKind.{FilterKind}
use Rattle.messages.specs.declared.ldap.filter.FilterKind.TheVariants.{Connective as Connected, Item}
use Rattle.messages.specs.declared.ldap.filter.FilterPart.{FilterPart}
use Rattle.messages.specs.declared.ldap.filter.FilterPart.TheVariants.{Open, Close}
use Rattle.messages.specs.declared.ldap.filter.ItemKind.{ItemKind}
use Rattle.messages.specs.declared.ldap.filter.ItemKind.TheVariants.{Comparison, Substrings, Present, Extensible}
use Rattle.messages.specs.declared.ldap.filter.Place.{Place}
use Rattle.messages.specs.declared.ldap.filter.Place.TheVariants.{Initial, Any as AnyPlace, Final}
use Rattle.messages.specs.declared.ldap.filter.Relation.TheVariants.{Equal, GreaterOrEqual, LessOrEqual, Approximate}
use Rattle.messages.specs.Ldap.FilterKinds.{IsFilterAt, IsPlaceAt, connective_number, filter_number, item_number, place_number}
use Rattle.messages.specs.Ldap.Filters.{Adds, AddsContent, FilterField, FilterType, IsAdded, ItemType, NoFilter, OneOf, Part, PieceType, PieceValue, closed, enclosed, filter_of, inside_content, is_item_list, item_content, opened, part_of}

-- kinds have different numbers
kind_at : ℕ → FilterKind
kind_at n =
    if n == 0 then Connected And else if n == 1 then Connected Or else if n == 2 then Connected Not
    else if n == 3 then Item (Comparison Equal) else if n == 4 then Item Substrings else if n == 5 then Item (Comparison GreaterOrEqual)
    else if n == 6 then Item (Comparison LessOrEqual) else if n == 7 then Item Present else if n == 8 then Item (Comparison Approximate) else Item Extensible

kind_of : (k : FilterKind) → kind_at (filter_number k) ≡ k
unfolding kind_at
kind_of (Connected And) = refl
kind_of (Connected Or) = refl
kind_of (Connected Not) = refl
kind_of (Item (Comparison Equal)) = refl
kind_of (Item (Comparison GreaterOrEqual)) = refl
kind_of (Item (Comparison LessOrEqual)) = refl
kind_of (Item (Comparison Approximate)) = refl
kind_of (Item Substrings) = refl
kind_of (Item Present) = refl
kind_of (Item Extensible) = refl

pub one_filter : (k u : FilterKind) → filter_number k ≡ filter_number u → k ≡ u
one_filter k u e = sym (kind_of k) ∙ ap kind_at e ∙ kind_of u

pub one_place : (k u : Place) → place_number k ≡ place_number u → k ≡ u
one_place Initial Initial e = refl
one_place AnyPlace AnyPlace e = refl
one_place Final Final e = refl
one_place k u e = absurd (omega (arith, e))

-- the filter that is next, and the piece
pub next_filter_is : {c d : Cursor} (e : ReadError BerError) (a : Any) (t : ℕ) (o : Option FilterKind) → ReadsAnyAt c (Ok a) d → t ≡ header_number a.header → IsFilterAt t o → TellsNext (FilterType NoFilter) c (ok_or o e)
next_filter_is e a t (Some o) h q n = next_known (FilterType NoFilter) one_filter a o t h q n
next_filter_is e a t None h q n = next_unknown (FilterType NoFilter) a t h q n

pub next_place_is : {c d : Cursor} (e : ReadError BerError) (a : Any) (t : ℕ) (o : Option Place) → ReadsAnyAt c (Ok a) d → t ≡ header_number a.header → IsPlaceAt t o → TellsNext PieceType c (ok_or o e)
next_place_is e a t (Some o) h q n = next_known PieceType one_place a o t h q n
next_place_is e a t None h q n = next_unknown PieceType a t h q n

-- An item that is a list.
module _ {T E : Type 0} {view : T → Part} {May : E → Type 0} {old inner new : Cursor} (k : ItemKind) {m : ℕ} (q : m ≡ item_number k) where
  pub item_opened : {result : Result T E} → OpensAt ContextSpecific true m old (Ok inner) new → ReadsContent (item_content k) view May inner result
      → ReadsField (Required (Constructed ContextSpecific (item_number k) (item_content k))) view May old result new
  item_opened o h = inside_of (item_content k) (subst (λ n. OpensAt ContextSpecific true n old (Ok inner) new) q o) h

pub item_unopened : {T : Type 0} {view : T → Part} {May : ReadError BerError → Type 0} {old after new : Cursor} (k : ItemKind) {m : ℕ} (q : m ≡ item_number k) {e : ReadError BerError} {result : Result T (ReadError BerError)}
    → OpensAt ContextSpecific true m old (Err e) after → IsErrAnd result (λ y. y ≡ e)
    → ReadsField (Required (Constructed ContextSpecific (item_number k) (item_content k))) view May old result new
item_unopened {old = old} {after = after} k q {e = e} {result = result} o n =
    let y = err_from_is_err_and result n in
    rw y.1 (unopened_of (item_content k) (subst (λ m. OpensAt ContextSpecific true m old (Err e) after) q o))

-- a filter of the kind that is next
module _ (F : Field (List Part)) {c : Cursor} (k : FilterKind) (n : TellsNext (FilterType NoFilter) c (Ok k)) {T : Type 0} {view : T → List Part} {May : ReadError BerError → Type 0} where
  pub one_of : {new : Cursor} (result : Result T (ReadError BerError)) → ReadsField (Required (FilterType F k)) view May c result new → ReadsField (OneOf F) view May c result new
  unfolding OneOf Required
  one_of (Ok x) h fresh = let r = h fresh in record {
    found = ((k, r.found.0), r.found.1);
    only = λ v rest z. r.only v rest (subst (λ j. Required (FilterType F j) (rules_of c) (octets_left c) v rest) (sym (n.only z.0 (z.1.0, rest) z.1.2)) z.1);
  }
  one_of (Err e) h fresh = let r = h fresh in record {
    found = tt;
    only = λ v rest z. r.only v rest (subst (λ j. Required (FilterType F j) (rules_of c) (octets_left c) v rest) (sym (n.only z.0 (z.1.0, rest) z.1.2)) z.1);
  }

no_field : {T : Type 0} {view : T → List Part} {May : ReadError BerError → Type 0} {c d : Cursor} {e : ReadError BerError} → ReadsField NoFilter view May c (Err e) d
no_field fresh = record { found = tt; only = λ v rest z. absurd z }

-- filters one level further in
pub deeper : {T : Type 0} {view : T → List Part} {May : ReadError BerError → Type 0} {c d : Cursor} (n : ℕ) {m : ℕ} (result : Result T (ReadError BerError)) → n ≡ suc m
    → ReadsField (OneOf (FilterField m)) view May c result d → ReadsField (FilterField n) view May c result d
unfolding FilterField
deeper n result q h = rw q h

pub filter_takes : (n : ℕ) → TakesOctets (FilterField n)
unfolding FilterField OneOf
filter_takes zero r i v rest z = absurd z
filter_takes (suc n) r i v rest z = required_takes (FilterType (FilterField n) z.0) r i v rest z.1

-- A reader that adds parts, and is refused.
module _ {F : Field (List Part)} {before after : List FilterPart} {old new : Cursor} (e : ReadError BerError) {result : Result (Unit {0}) (ReadError BerError)} (n : IsErrAnd result (λ y. y ≡ e)) where
  pub adds_refused : (old.implicit ≡ None → (v : List Part) (rest : List ℕ) → F (rules_of old) (octets_left old) v rest → NoMemory e) → Adds F before after old result new
  adds_refused h = let y = err_from_is_err_and result n in rw (y.1, y.2) (record { parts = []; added = tt; reads = λ fresh. record { found = tt; only = h fresh } })

-- at the deepest level there is none
pub too_deep : (n : ℕ) {before after : List FilterPart} {old new : Cursor} {e : ReadError BerError} → n ≡ 0 → Adds (FilterField n) before after old (Err e) new
unfolding FilterField
too_deep n q = rw q (record { parts = []; added = tt; reads = no_field })

pub adds_deeper : (n : ℕ) {m : ℕ} {before after : List FilterPart} {old new : Cursor} (k : FilterKind) {result : Result (Unit {0}) (ReadError BerError)} → n ≡ suc m → TellsNext (FilterType NoFilter) old (Ok k)
    → Adds (Required (FilterType (FilterField m) k)) before after old result new → Adds (FilterField n) before after old result new
adds_deeper n {m = m} k {result = result} q t h = record { parts = h.parts; added = h.added; reads = deeper n result q (one_of (FilterField m) k t result h.reads) }

-- no kind is next
pub none_next : (n : ℕ) {m : ℕ} {before after : List FilterPart} {old new : Cursor} {e : ReadError BerError} {result : Result (Unit {0}) (ReadError BerError)} → n ≡ suc m → TellsNext (FilterType NoFilter) old (Err e)
    → IsErrAnd result (λ y. y ≡ e) → Adds (FilterField n) before after old result new
unfolding FilterField OneOf Required
none_next n {e = e} q t s = adds_refused e s (rw q (λ fresh v rest z. absurd (t.only z.0 (z.1.0, rest) z.1.2)))

-- An item is one part.
single : (F : Field (List Part)) (k : ItemKind) {old new : Cursor} (x : FilterPart) → ReadsField {E = ReadError BerError} (Required (ItemType k)) part_of NoMemory old (Ok x) new
    → ReadsField {E = ReadError BerError} (Required (FilterType F (Item k))) (λ (u : Unit {0}). part_of x ∷ []) NoMemory old (Ok tt) new
unfolding Required As
single F k x h fresh = let r = h fresh in record {
  found = (let z = r.found.0 in (z.0, (part_of x, z.1, refl), z.2), r.found.1);
  only = λ v rest z. let e = r.only z.1.0 rest (z.0, z.1.1, z.2) in (ap (λ p. p ∷ []) e.0 ∙ sym z.1.2, e.1);
}

pub item_added : (F : Field (List Part)) (k : ItemKind) {before after : List FilterPart} {old new : Cursor} (x : FilterPart) (result : Result (Unit {0}) (ReadError BerError)) → ReadsField {E = ReadError BerError} (Required (ItemType k)) part_of NoMemory old (Ok x) new
    → IsAdded x before result after → Adds (Required (FilterType F (Item k))) before after old result new
item_added F k x (Ok u) h a = record { parts = part_of x ∷ []; added = a.added; reads = λ fresh. let r = single F k x h fresh in record { found = r.found; only = r.only } }
item_added F k x (Err e) h a = record { parts = []; added = tt; reads = λ fresh. record { found = tt; only = λ v rest z. a.memory } }

pub item_refused : (F : Field (List Part)) (k : ItemKind) {before after : List FilterPart} {old new mid : Cursor} (e : ReadError BerError) {result : Result (Unit {0}) (ReadError BerError)} → ReadsField {T = FilterPart} (Required (ItemType k)) part_of NoMemory old (Err e) mid
    → IsErrAnd result (λ y. y ≡ e) → Adds (Required (FilterType F (Item k))) before after old result new
unfolding Required As
item_refused F k e h s = adds_refused e s (λ fresh v rest z. (h fresh).only z.1.0 rest (z.0, z.1.1, z.2))

all_four : (a : List Part) (p : Part) (b d : List Part) → ((a ++ p ∷ []) ++ b) ++ d ≡ a ++ (p ∷ (b ++ d))
all_four a p b d = append_assoc (a ++ p ∷ []) b d ∙ append_assoc a (p ∷ []) (b ++ d)

-- Filters that are joined.
module _ (F : Field (List Part)) (c : Connective) {m : ℕ} (q : m ≡ connective_number c) {old : Cursor} where
  pub not_opened : {before after : List FilterPart} {new mid : Cursor} (e : ReadError BerError) {result : Result (Unit {0}) (ReadError BerError)} → OpensAt ContextSpecific true m old (Err e) mid → IsErrAnd result (λ y. y ≡ e)
      → Adds (Required (FilterType F (Connected c))) before after old result new
  not_opened {mid = mid} e o s =
      adds_refused e s (λ fresh v rest z.
      (unopened_of (As (enclosed c) (inside_content F c)) {T = Unit {0}} {view = λ u. v} {May = NoMemory} {new = mid} {x = e} (subst (λ n. OpensAt ContextSpecific true n old (Err e) mid) q o) fresh).only v rest z)

  pub no_room : {before one after : List FilterPart} {new : Cursor} (x : FilterPart) (e : ReadError BerError) {result : Result (Unit {0}) (ReadError BerError)} → IsAdded x before (Err e) one → IsErrAnd result (λ y. y ≡ e)
      → Adds (Required (FilterType F (Connected c))) before after old result new
  no_room x e a s = adds_refused e s (λ fresh v rest z. a.memory)

  module _ {inner new : Cursor} (o : OpensAt ContextSpecific true m old (Ok inner) new) where
    opens_it : OpensAt ContextSpecific true (connective_number c) old (Ok inner) new
    opens_it = subst (λ n. OpensAt ContextSpecific true n old (Ok inner) new) q o

    pub inside_refused : {before one two after : List FilterPart} (e : ReadError BerError) {result : Result (Unit {0}) (ReadError BerError)} → AddsContent (inside_content F c) one two inner (Err e) → IsErrAnd result (λ y. y ≡ e)
        → Adds (Required (FilterType F (Connected c))) before after old result new
    inside_refused e {result = result} h s = record {
      parts = [];
      added = let y = err_from_is_err_and result s in rw y.1 tt;
      reads = inside_of (As (enclosed c) (inside_content F c)) opens_it (no_content_as (enclosed c) (inside_content F c) inner e s h.reads);
    }

    pub joined_read : {before one two after : List FilterPart} {x y : Unit {0}} (result : Result (Unit {0}) (ReadError BerError)) → IsAdded (Open c) before (Ok x) one → AddsContent (inside_content F c) one two inner (Ok y) → IsAdded Close two result after
        → Adds (Required (FilterType F (Connected c))) before after old result new
    joined_read {before = before} (Ok u) a h b = record {
      parts = enclosed c h.parts;
      added = b.added ∙ ap (λ w. w ++ closed ∷ []) (h.added ∙ ap (λ w. w ++ h.parts) a.added) ∙ all_four (filter_of before) (opened c) h.parts (closed ∷ []);
      reads = inside_of (As (enclosed c) (inside_content F c)) opens_it (content_as (enclosed c) (inside_content F c) inner refl h.reads);
    }
    joined_read (Err e) a h b = record { parts = []; added = tt; reads = λ fresh. record { found = tt; only = λ v rest z. b.memory } }

-- the one filter of a not
pub negated : (F : Field (List Part)) {before after : List FilterPart} {inner mid : Cursor} {x : Unit {0}} (result : Result (Unit {0}) (ReadError BerError)) → Adds F before after inner (Ok x) mid → EndsAt mid result → AddsContent (Only F) before after inner result
negated F (Ok u) h e = record { parts = h.parts; added = h.added; reads = only_read h.reads e }
negated F (Err x) h e = record { parts = []; added = tt; reads = only_left h.reads e.0 }

pub not_negated : (F : Field (List Part)) {before mid_parts after : List FilterPart} {inner mid : Cursor} (e : ReadError BerError) {result : Result (Unit {0}) (ReadError BerError)} → Adds F before mid_parts inner (Err e) mid → IsErrAnd result (λ y. y ≡ e)
    → AddsContent (Only F) before after inner result
not_negated F e {result = result} h s = let y = err_from_is_err_and result s in rw (y.1, y.2) (record { parts = []; added = tt; reads = only_stops h.reads })

-- an and or an or
pub all_or_any : (F : Field (List Part)) (c : Connective) {before after : List FilterPart} {inner : Cursor} (result : Result (Unit {0}) (ReadError BerError)) → c ≢ Not → AddsContent (inside_content F And) before after inner result
    → AddsContent (inside_content F c) before after inner result
all_or_any F And result n h = h
all_or_any F Or result n h = h
all_or_any F Not result n h = absurd (n refl)

-- Filters one after another: the parts that were added so far.
abbrev pub flat : List (List Part) → List Part
flat v = flat_map (λ w. w) v

pub record Joined (F : Field (List Part)) (c d : Cursor) (before now : List FilterPart) : Type 0 where
  pub parts : List Part
  pub added : filter_of now ≡ filter_of before ++ parts
  pub left : c.implicit ≡ None → Remains (As flat (Each F) (rules_of c) (octets_left c)) (Each F) d (λ us. parts ++ flat us)

append_none : (w : List Part) → w ++ [] ≡ w
append_none [] = refl
append_none (x ∷ w) = ap (λ y. x ∷ y) (append_none w)

pub joined_none : (F : Field (List Part)) (c : Cursor) (before : List FilterPart) → Joined F c c before before
joined_none F c before = record { parts = []; added = sym (append_none (filter_of before)); left = λ fresh. start_as flat c fresh }

-- one filter less is left
more_only : {F : Field (List Part)} {d next : Cursor} {x : Unit {0}} (parts p : List Part) → octets_left d ≢ [] → ReadsNext {E = ReadError BerError} F (λ (u : Unit {0}). p) NoMemory d (Ok x) next → rules_of next ≡ rules_of d
    → (us : List (List Part)) → Each F (rules_of d) (octets_left d) us → (v : List Part) → v ≡ parts ++ flat us
    → (ts : List (List Part)) × Each F (rules_of next) (octets_left next) ts × (v ≡ (parts ++ p) ++ flat ts)
unfolding Each
more_only parts p n r same [] z v e = absurd (n z)
more_only {F = F} {d = d} {next = next} parts p n r same (t ∷ ts) z v e =
    let q = r.only t z.0 z.1 in (
      ts,
      subst (λ k. Each F k (octets_left next) ts) (sym same) (subst (λ w. Each F (rules_of d) w ts) (sym q.1) z.2),
      e ∙ ap (λ y. parts ++ (y ++ flat ts)) (sym q.0) ∙ sym (append_assoc parts p (flat ts)),
    )

-- no filter is left
none_left : {F : Field (List Part)} (takes : TakesOctets F) (r : Rules) (w : List ℕ) → w ≡ [] → (us : List (List Part)) → Each F r w us → us ≡ []
unfolding Each
none_left takes r w q [] z = refl
none_left takes r w q (t ∷ ts) z = let h = takes r w t z.0 z.1 in absurd (omega (arith, h, ap length q))

-- the first that is left
first_left : (F : Field (List Part)) {Q : Type 0} (r : Rules) (w : List ℕ) → w ≢ [] → ((v : List Part) (rest : List ℕ) → F r w v rest → Q) → (us : List (List Part)) → Each F r w us → Q
unfolding Each
first_left F r w n h [] z = absurd (n z)
first_left F r w n h (t ∷ ts) z = h t z.0 z.1

module _ {F : Field (List Part)} {c d : Cursor} {before now : List FilterPart} (j : Joined F c d before now) where
  pub joined_more : {next : Cursor} {later : List FilterPart} {x : Unit {0}} → octets_left d ≢ [] → Adds F now later d (Ok x) next → Joined F c next before later
  unfolding Each
  joined_more {next = next} n h = record {
    parts = j.parts ++ h.parts;
    added = h.added ∙ ap (λ w. w ++ h.parts) j.added ∙ append_assoc (filter_of before) j.parts h.parts;
    left = λ fresh.
        let l = j.left fresh in
        let r = h.reads l.fresh in
        let same : rules_of next ≡ rules_of d = ap rules_of r.found.1 in record {
          fresh = ap (λ y. y.implicit) r.found.1;
          back = λ us z.
              subst (λ w. As flat (Each F) (rules_of c) (octets_left c) w) (sym (append_assoc j.parts h.parts (flat us)))
              (l.back (h.parts ∷ us) (octets_left next, r.found.0, subst (λ k. Each F k (octets_left next) us) same z));
          only = λ v p. let y = l.only v p in more_only j.parts h.parts n r same y.0 y.1 v y.2;
        };
  }

  pub joined_all : TakesOctets F → octets_left d ≡ [] → AddsContent (As flat (Each F)) before now c (Ok tt)
  unfolding Each
  joined_all takes q = record {
    parts = j.parts;
    added = j.added;
    reads = λ fresh. let l = j.left fresh in record {
      found = subst (λ w. As flat (Each F) (rules_of c) (octets_left c) w) (append_none j.parts) (l.back [] q);
      only = λ v p. let y = l.only v p in sym (y.2 ∙ ap (λ us. j.parts ++ flat us) (none_left takes (rules_of d) (octets_left d) q y.0 y.1) ∙ append_none j.parts);
    };
  }

  pub joined_refused : {next : Cursor} {later after : List FilterPart} (e : ReadError BerError) {result : Result (Unit {0}) (ReadError BerError)} → octets_left d ≢ [] → Adds F now later d (Err e) next → IsErrAnd result (λ y. y ≡ e)
      → AddsContent (As flat (Each F)) before after c result
  joined_refused e {result = result} n h s =
      let x = err_from_is_err_and result s in
      rw (x.1, x.2) (record {
        parts = [];
        added = tt;
        reads = λ fresh. record {
          found = tt;
          only = λ v p. let l = j.left fresh in let y = l.only v p in first_left F (rules_of d) (octets_left d) n (h.reads l.fresh).only y.0 y.1;
        };
      })

  pub joined_stuck : TakesOctets F → {next : Cursor} {later after : List FilterPart} {e : ReadError BerError} {x : Unit {0}} → Adds F now later d (Ok x) next → length (octets_left d) ≤ length (octets_left next)
      → AddsContent (As flat (Each F)) before after c (Err e)
  joined_stuck takes {next = next} h k = record {
    parts = [];
    added = tt;
    reads = λ fresh. record {
      found = tt;
      only = λ v p. let less = takes (rules_of d) (octets_left d) h.parts (octets_left next) (h.reads (j.left fresh).fresh).found.0 in absurd (omega (arith, less, k));
    };
  }

-- all parts of a filter
pub filter_read : {F : Field (List Part)} {before : List FilterPart} {after : Vec FilterPart} {old new : Cursor} {x : Unit {0}} → before ≡ [] → Adds F before after.items old (Ok x) new
    → ReadsField {E = ReadError BerError} F (λ (x : Vec FilterPart). filter_of x.items) NoMemory old (Ok after) new
filter_read q h = gives (h.added ∙ ap (λ w. filter_of w ++ h.parts) q) (got h.reads)

pub filter_refused : {T : Type 0} {view : T → List Part} {F : Field (List Part)} {before after : List FilterPart} {old new later : Cursor} {e : ReadError BerError} {result : Result T (ReadError BerError)} → Adds F before after old (Err e) new
    → IsErrAnd result (λ y. y ≡ e) → ReadsField F view NoMemory old result later
filter_refused {result = result} h s = let y = err_from_is_err_and result s in rw (y.1, y.2) (λ fresh. record { found = tt; only = (h.reads fresh).only })

-- Pieces of values.
pub piece_takes : TakesOctets (Choice PieceType)
unfolding Choice
piece_takes r i v rest z = required_takes (PieceType v.0) r i v.1 rest z

pub no_piece : {T : Type 0} {view : T → PieceValue} {c new : Cursor} {e : ReadError BerError} {result : Result T (ReadError BerError)} → TellsNext PieceType c (Err e) → IsErrAnd result (λ y. y ≡ e)
    → ReadsField (Choice PieceType) view Never c result new
unfolding Choice Required
no_piece {result = result} t s fresh = let y = err_from_is_err_and result s in rw (y.1, y.2) (record { found = tt; only = λ v rest z. absurd (t.only v.0 (z.0, rest) z.2) })

pub piece_numbered : {T : Type 0} {view : T → List ℕ} {c new : Cursor} {result : Result T (ReadError BerError)} (p : Place) {n : ℕ} → n ≡ place_number p → ReadsField (Required (Implicit n OctetString)) view Never c result new
    → ReadsField (Required (PieceType p)) view Never c result new
piece_numbered {view = view} {c = c} {new = new} {result = result} p q h = subst (λ k. ReadsField (Required (Implicit k OctetString)) view Never c result new) q h
