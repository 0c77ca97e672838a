-- Readers of the element that an input begins with, and of an input that is one element.
use Rattle.std.proofs.Common.{◌≡◌, ℕ, Bool, List, [], Result, Ok, Err, Bor, refl, sym, ap, subst, ◌∙◌, inl}
use Rattle.std.specs.Prelude.{IfErr}
use Rattle.std.specs.Result.{IsErrAnd}
use Rattle.std.proofs.lemmas.Result.{err_from_is_err_and}
use Rattle.der_base.specs.declared.error.Err.{Err as Refused}
use Rattle.der_base.specs.declared.error.Err.TheVariants.{Incomplete, Error, Failure, OutOfMemory}
use Rattle.der_base.specs.declared.error.Error.{Error as BerError}
use Rattle.der_base.specs.declared.error.Error.TheVariants.{Incomplete as CutShort}
use Rattle.der_base.specs.declared.error.Needed.{Needed}
use Rattle.der_base.specs.declared.error.Needed.TheVariants.{Unknown, Size}
use Rattle.der_base.specs.declared.header.Class.TheVariants.{Universal}
use Rattle.der_base.specs.declared.rules.Rules.{Rules}
use Rattle.der_base.specs.Answer.{MatchAnswer, AnswersErrorOr, AnswersIncompleteOr}
use Rattle.der_base.specs.Errors.{RefusesCutItem}
use Rattle.der_base.specs.Refusal.{Refusal as Name}
use Rattle.der_base.proofs.Answers.Answering.{passed_on}
use Rattle.der_cursor.specs.declared.cursor.Cursor.{Cursor}
use Rattle.der_cursor.specs.declared.named.FieldError.{FieldError}
use Rattle.der_cursor.specs.declared.error.ReadError.{ReadError}
use Rattle.der_cursor.specs.Cursors.{LacksAt, OpensAt, OpensType, RefusesAt, StartsAt, class_wanted, number_wanted, octets_left, reason_of, rules_of}
use Rattle.der_cursor.specs.Elements.{ElementLacks, ElementRefuses, SpellsElement}
use Rattle.der_cursor.specs.Formats.{Content, Format, IsCutAt, NoMemoryIn, Only, ReadsContent, ReadsElement, ReadsField, ReadsFront, ReadsWhole, Required, ShowsElement}
use Rattle.der_cursor.specs.Named.{IsOfElement, IsSettled, NamesOfElement, NamesRefusal, Settles, reason_in}
use Rattle.der_cursor.proofs.ElementLaws.{element_shows_one}
use Rattle.der_cursor.proofs.FormatLaws.{never}
use Rattle.der_cursor.proofs.Sequences.{front_read, front_stops, inside_named, ok_named, unopened_named}

-- no settled refusal is Incomplete
not_incomplete : (old new : Refused BerError) (m : Needed) → RefusesCutItem old new → new ≡ Incomplete m → ⊥
not_incomplete (Incomplete n) new m h q = let e : Error (CutShort n) ≡ Incomplete m = sym h ∙ q in cc
not_incomplete (Error x) new m h q = let e : Error x ≡ Incomplete m = sym h ∙ q in cc
not_incomplete (Failure x) new m h q = let e : Failure x ≡ Incomplete m = sym h ∙ q in cc
not_incomplete OutOfMemory new m h q = let e : OutOfMemory ≡ Incomplete m = sym h ∙ q in cc

settled_memory : (f g : FieldError) → IsSettled f g → NoMemoryIn f → NoMemoryIn g
settled_memory f g h m = subst (λ x. RefusesCutItem x g.refusal.reason) m h.refusal.reason

-- what is Incomplete lacks octets
lacking_at : {T : Type 0} (P : T → Type 0) (Q : Name → Type 0) (L : ℕ → Type 0) (m : Needed) → MatchAnswer (Err (Incomplete m)) P Q L ⊥ → (n : ℕ) × (m ≡ Size n) × L n
lacking_at P Q L (Size n) h = (n, refl, h)
lacking_at P Q L Unknown h = absurd h

lacks_told : {T : Type 0} (P : T → Type 0) (Q : Name → Type 0) (L : ℕ → Type 0) (x : Refused BerError) (m : Needed) → MatchAnswer (Err x) P Q L ⊥ → x ≡ Incomplete m → (n : ℕ) × (m ≡ Size n) × L n
lacks_told P Q L x m h q = lacking_at P Q L m (subst (λ y. MatchAnswer (Err y) P Q L ⊥) q h)

-- a refusal with a name is the one without
names_same : {T : Type 0} (name : Bor (List ℕ)) (f : FieldError) (r : Result T (ReadError BerError)) → NamesRefusal r name (Err f) → (e : ReadError BerError) × (r ≡ Err e) × (f.refusal ≡ e)
names_same name f (Ok y) n = absurd (cc)
names_same name f (Err e) n = (e, refl, n.0)

module _ {V : Type 0} (F : Format V) {r : Rules} {i : List ℕ} (c d : Cursor) (s : StartsAt r i c) where
  refuses_at : (e : Name) → ElementRefuses r F.class F.constructed F.number i e → RefusesAt c (ElementRefuses (rules_of c) F.class F.constructed F.number (octets_left c)) e
  refuses_at e h = inl (subst (λ k. ElementRefuses k F.class F.constructed F.number (octets_left c) e) (sym s.3) (subst (λ w. ElementRefuses r F.class F.constructed F.number w e) (sym s.0) h))

  lacks_at : (n : ℕ) → ElementLacks r i n → LacksAt c n
  lacks_at n h = (s.2, subst (λ k. ElementLacks k (octets_left c) n) (sym s.3) (subst (λ w. ElementLacks r w n) (sym s.0) h))

  lacking : (n : ℕ) → LacksAt c n → ElementLacks r i n
  lacking n h = subst (λ w. ElementLacks r w n) s.0 (subst (λ k. ElementLacks k (octets_left c) n) s.3 h.1)

  -- the element is there
  whole : {T : Type 0} {inner : Cursor} (result : Result T (Refused BerError)) → OpensAt F.class F.constructed F.number c (Ok inner) d → IfErr result (IsCutAt r i) → ShowsElement r F i result
  whole result o k = record { refuses = λ e z. absurd (o.element.refuses e (refuses_at e z)); lacks = λ n z. absurd (o.element.lacks n (lacks_at n z)); cut = k }

  -- it isn't
  refused : {T : Type 0} (e : ReadError BerError) (x : Refused BerError) → x ≡ e.reason → OpensAt F.class F.constructed F.number c (Err e) d → ShowsElement {T = T} r F i (Err x)
  refused {T} e x q o = record {
    refuses = λ n a. subst (λ x. AnswersErrorOr {T = T} ⊥ (Err x) n) (sym q) (passed_on _ _ e.reason (o.element.refuses n (refuses_at n a)) (λ x k. k) (λ m k. k) (λ m. m));
    lacks = λ n a. subst (λ x. AnswersIncompleteOr {T = T} ⊥ (Err x) n) (sym q) (passed_on _ _ e.reason (o.element.lacks n (lacks_at n a)) (λ x k. k) (λ m k. k) (λ m. m));
    cut = λ m p.
        let y = lacks_told _ _ (LacksAt c) e.reason m o.element.found (sym q ∙ p) in
        (y.0, y.1, lacking y.0 y.2);
  }

-- the element is opened with a name, and its content is read
abbrev Opened : {V : Type 0} → ℕ → Bool → Content V → Format V
Opened t p C = record { class = Universal; number = t; constructed = p; content = C }

untagged : (t : ℕ) (p : Bool) {r : Rules} {i : List ℕ} (c d : Cursor) {opening : Result Cursor (ReadError BerError)} → StartsAt r i c → OpensType p t c opening d → (q : Result Cursor (ReadError BerError)) → opening ≡ q → OpensAt Universal p t c q d
untagged t p c d s o q e = subst (λ m. OpensAt (class_wanted m) p (number_wanted m t) c q d) s.4 (subst (λ x. OpensType p t c x d) e o)

module _ {T V : Type 0} (t : ℕ) (C : Content V) {view : T → V} {p : Bool} {r : Rules} {i : List ℕ} (c d : Cursor) {opening : Result Cursor (ReadError BerError)} (name : Bor (List ℕ))
    (s : StartsAt r i c) (o : OpensType p t c opening d) where
  pub front_unopened : (f : FieldError) {result : Result (Bor (List ℕ) × T) FieldError} → NamesRefusal opening name (Err f) → IsErrAnd result (λ y. y ≡ f) → ReadsFront r (Opened t p C) view NoMemoryIn i result
  front_unopened f {result = result} n q =
      let y = err_from_is_err_and result q in
      let e = names_same name f opening n in
      let h : ReadsField (Required (Opened t p C)) view NoMemoryIn c (Err f) d = unopened_named t C name f o n refl in
      rw (y.1, y.2) (record { value = front_stops f s refl h; shows = refused (Opened t p C) c d s e.0 f.refusal.reason (ap (λ x. x.reason) e.2) (untagged t p c d s o (Err e.0) e.1) })

  pub front_settled : (inner : Cursor) (f g : FieldError) → NamesRefusal opening name (Ok inner) → ReadsContent {T = T} C view NoMemoryIn inner (Err f) → IsSettled f g
      → ReadsFront {T = T} r (Opened t p C) view NoMemoryIn i (Err g)
  front_settled inner f g n h k =
      let e : ReadsField {T = T} (Required (Opened t p C)) view NoMemoryIn c (Err f) d = inside_named t C name inner o n h in
      let settled : ReadsField {T = T} (Required (Opened t p C)) view NoMemoryIn c (Err g) d = (λ fresh. record { found = tt; only = λ v rest z. settled_memory f g k ((e fresh).only v rest z) }) in
      record {
        value = front_stops g s refl settled;
        shows = whole (Opened t p C) c d s (Err g.refusal.reason) (untagged t p c d s o (Ok inner) (ok_named name inner opening n))
            (λ m q. absurd (not_incomplete f.refusal.reason g.refusal.reason m k.refusal.reason q));
      }

  pub front_opened : (inner : Cursor) (x : T) (rest : Bor (List ℕ)) → NamesRefusal opening name (Ok inner) → ReadsContent {E = FieldError} C view NoMemoryIn inner (Ok x) → rest.now ≡ octets_left d
      → ReadsFront r (Opened t p C) view NoMemoryIn i (Ok (rest, x))
  front_opened inner x rest n h q = record {
    value = front_read rest s q (inside_named t C name inner o n h);
    shows = whole (Opened t p C) c d s (Ok (rest, x)) (untagged t p c d s o (Ok inner) (ok_named name inner opening n)) tt;
  }

-- An input that is one element: each value of its content is one.
pub record Framed {V W : Type 0} (r : Rules) (F : Format W) (C : Content V) (i : List ℕ) : Type 0 where
  pub element : (v : V) → C r i v → (w : List ℕ × List ℕ) × SpellsElement r F.class F.constructed F.number i w

pub framed : {V : Type 0} (F : Format V) {r : Rules} {i : List ℕ} → Framed r F (Only (Required F)) i
unfolding Only Required
framed F = record { element = λ v z. ((z.0, []), z.2) }

-- what a refusal leaves open
pub never_kept : (f g : ReadError BerError) → Settles f g → ⊥ → ⊥
never_kept f g s m = m

pub never_kept_in : (f g : FieldError) → Settles f.refusal g.refusal → ⊥ → ⊥
never_kept_in f g s m = m

pub memory_kept_in : (f g : FieldError) → Settles f.refusal g.refusal → NoMemoryIn f → NoMemoryIn g
memory_kept_in f g s m = subst (λ x. RefusesCutItem x g.refusal.reason) m s.reason

module _ {V W : Type 0} {F : Format W} {C : Content V} {r : Rules} {i : List ℕ} (h : Framed r F C i) where
  -- a value
  shows_value : {T : Type 0} (v : V) (x : T) → C r i v → ShowsElement r F i (Ok x)
  shows_value v x z =
      let w = h.element v z in
      let one = element_shows_one r F.class F.constructed F.number i (λ (y : List ℕ × List ℕ). y) in record {
        refuses = λ e y. absurd (one.not_refused w.0 e w.1 y);
        lacks = λ n y. absurd (one.not_lacking w.0 n w.1 y);
        cut = tt;
      }

  pub value_alone : {T : Type 0} {view : T → V} {May : ReadError BerError → Type 0} {x : T} → ReadsWhole (C r i) view May (Ok x) → ReadsElement reason_of r F C view May i (Ok x)
  value_alone {view = view} {x = x} z = record { value = z; shows = shows_value (view x) x z.found }

  pub named_alone : {T : Type 0} {view : T → V} {May : FieldError → Type 0} {x : T} → ReadsWhole (C r i) view May (Ok x) → ReadsElement reason_in r F C view May i (Ok x)
  named_alone {view = view} {x = x} z = record { value = z; shows = shows_value (view x) x z.found }

  module _ {c : Cursor} (s : StartsAt r i c) where
    -- where a value is spelled, the refusal was one of its content
    settled : {Q : Type 0} (old new : ReadError BerError) → IsOfElement F.class F.constructed F.number c old new → (v : V) → C r i v → (Settles old new → Q) → Q
    settled old new (Ok inner, d, o, m) v z k = k m
    settled old new (Err e, d, o, m) v z k =
        let w = h.element v z in
        absurd (never _ e.reason (o.element.only w.0 (subst (λ k. SpellsElement k F.class F.constructed F.number (octets_left c) w.0) (sym s.3) (subst (λ u. SpellsElement r F.class F.constructed F.number u w.0) (sym s.0) w.1))))

    shows_refusal : {T : Type 0} (old new : ReadError BerError) → IsOfElement F.class F.constructed F.number c old new → ShowsElement {T = T} r F i (Err new.reason)
    shows_refusal old new (Ok inner, d, o, m) = whole F c d s (Err new.reason) o (λ n q. absurd (not_incomplete old.reason new.reason n m.reason q))
    shows_refusal old new (Err e, d, o, m) = refused F c d s e new.reason (ap (λ x. x.reason) m) o

    pub refused_alone : {T : Type 0} {view : T → V} {May : ReadError BerError → Type 0} {old new : ReadError BerError} → ((f g : ReadError BerError) → Settles f g → May f → May g)
        → ReadsWhole {T = T} (C r i) view May (Err old) → IsOfElement F.class F.constructed F.number c old new → ReadsElement {T = T} reason_of r F C view May i (Err new)
    refused_alone {old = old} {new = new} k z o = record {
      value = record { found = tt; only = λ v p. settled old new o v p (λ q. k old new q (z.only v p)) };
      shows = shows_refusal old new o;
    }

    pub refused_named : {T : Type 0} {view : T → V} {May : FieldError → Type 0} {old new : FieldError} → ((f g : FieldError) → Settles f.refusal g.refusal → May f → May g)
        → ReadsWhole {T = T} (C r i) view May (Err old) → NamesOfElement F.class F.constructed F.number c old new → ReadsElement {T = T} reason_in r F C view May i (Err new)
    refused_named {old = old} {new = new} k z o = record {
      value = record { found = tt; only = λ v p. settled old.refusal new.refusal o.refusal v p (λ q. k old new q (z.only v p)) };
      shows = shows_refusal old.refusal new.refusal o.refusal;
    }
