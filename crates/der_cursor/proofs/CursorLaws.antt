-- What a cursor returns for its next element, from what a reader of elements does.
use Rattle.std.proofs.Common.{◌≡◌, ℕ, Bool, true, false, Ok, Err, refl, sym, ap, ◌∙◌, inl, inr}
use Rattle.std.proofs.lemmas.Bool.{false≢true}
use Rattle.der_base.specs.declared.error.Err.{Err as Refused}
use Rattle.der_base.specs.declared.error.Err.TheVariants.{Incomplete, Error, Failure, OutOfMemory}
use Rattle.der_base.specs.declared.error.Error.{Error as BerError}
use Rattle.der_base.specs.declared.error.Needed.TheVariants.{Unknown, Size}
use Rattle.der_base.specs.declared.header.Class.{Class}
use Rattle.der_base.specs.Answer.{MatchAnswer}
use Rattle.der_base.specs.Errors.{RefusesCutItem}
use Rattle.der_base.specs.Refusal.{Refusal as Name, incomplete}
use Rattle.der_base.proofs.Answers.Answering.{passed_on}
use Rattle.der_base.proofs.Answers.Exactness.{ShowsOne, exactly}
use Rattle.der_cursor.specs.declared.cursor.Cursor.{Cursor}
use Rattle.der_cursor.specs.declared.error.ReadError.{ReadError}
use Rattle.der_cursor.specs.Cursors.{octets_left, rules_of, is_inside, contents, RefusesAt, LacksAt, Finds, OpensAt}
use Rattle.der_cursor.specs.Elements.{SpellsElement, ElementRefuses, ElementLacks}
use Rattle.der_cursor.proofs.ElementLaws.{element_shows_one}

-- an element that is cut short inside a list is refused
module _ {T V : Type 0} {value : T → V} {Reads : T → Type 0} {Spelled : V → Type 0} {Refuses : Name → Type 0} (old : Cursor)
    (s : ShowsOne value Reads Spelled Refuses (ElementLacks (rules_of old) (octets_left old))) where
  refusal_same : (e e' : Name) → RefusesAt old Refuses e → RefusesAt old Refuses e' → e ≡ e'
  refusal_same e e' (inl a) (inl b) = s.one_refusal e e' a b
  refusal_same e e' (inl a) (inr (i, n, l, q)) = absurd (s.not_both e n a l)
  refusal_same e e' (inr (i, n, l, q)) (inl b) = absurd (s.not_both e' n b l)
  refusal_same e e' (inr (i, n, l, q)) (inr (i', n', l', q')) = q ∙ ap (λ k. incomplete (Size k)) (s.one_lack n n' l l') ∙ sym q'

  not_refused : (v : V) (e : Name) → Spelled v → RefusesAt old Refuses e → ⊥
  not_refused v e h (inl a) = s.not_refused v e h a
  not_refused v e h (inr (i, n, l, q)) = s.not_lacking v n h l

  not_both : (e : Name) (n : ℕ) → RefusesAt old Refuses e → LacksAt old n → ⊥
  not_both e n (inl a) l = s.not_both e n a l.1
  not_both e n (inr (i, m, k, q)) l = false≢true (sym l.0 ∙ i)

  pub shows_one_at : ShowsOne value Reads Spelled (RefusesAt old Refuses) (LacksAt old)
  shows_one_at = record {
    spelled = s.spelled;
    one_value = s.one_value;
    one_refusal = refusal_same;
    one_lack = λ n n' l l'. s.one_lack n n' l.1 l'.1;
    not_refused = not_refused;
    not_lacking = λ v n h l. s.not_lacking v n h l.1;
    not_both = not_both;
  }

-- what a reader of elements refuses, as the cursor reports it: inside a list, and in none
pub refused_inside : {T T' : Type 0} (P : T → Type 0) (P' : T' → Type 0) (Q : Name → Type 0) (old : Cursor) (e e' : Refused BerError) → is_inside old ≡ true
    → MatchAnswer {T = T} (Err e) P Q (ElementLacks (rules_of old) (octets_left old)) ⊥ → RefusesCutItem e e' → MatchAnswer {T = T'} (Err e') P' (RefusesAt old Q) (LacksAt old) ⊥
refused_inside P P' Q old (Error x) e' i m r = rw r (inl m)
refused_inside P P' Q old (Incomplete (Size n)) e' i m r = rw r (inr (i, n, m, refl))
refused_inside P P' Q old (Incomplete Unknown) e' i m r = absurd m
refused_inside P P' Q old (Failure x) e' i m r = absurd m
refused_inside P P' Q old OutOfMemory e' i m r = absurd m

pub refused_outside : {T T' : Type 0} (P : T → Type 0) (P' : T' → Type 0) (Q : Name → Type 0) (old : Cursor) (e : Refused BerError) → is_inside old ≡ false
    → MatchAnswer {T = T} (Err e) P Q (ElementLacks (rules_of old) (octets_left old)) ⊥ → MatchAnswer {T = T'} (Err e) P' (RefusesAt old Q) (LacksAt old) ⊥
refused_outside P P' Q old e i m = passed_on P P' e m (λ x h. inl h) (λ n h. (i, h)) (λ z. z)

-- an element that was not found isn't opened
pub not_opened : (c : Class) (p : Bool) (t : ℕ) (old : Cursor) (e : ReadError BerError) → Finds old c p t (Err e) → OpensAt c p t old (Err e) old
not_opened c p t old e f = record {
  element = exactly (Err e.reason) (shows_one_at old (element_shows_one (rules_of old) c p t (octets_left old) contents)) (λ n l m. m)
      (passed_on _ _ e.reason f.0 (λ x h. h) (λ n h. h) (λ m. m));
  places = (f.1, refl);
}

-- one that was is
pub opened_exactly : (c : Class) (p : Bool) (t : ℕ) (old inner new : Cursor) → SpellsElement (rules_of old) c p t (octets_left old) (octets_left inner, octets_left new)
    → MatchAnswer (Ok (inner, new)) (λ x. SpellsElement (rules_of old) c p t (octets_left old) (contents x)) (RefusesAt old (ElementRefuses (rules_of old) c p t (octets_left old))) (LacksAt old) ⊥
opened_exactly c p t old inner new s = s
