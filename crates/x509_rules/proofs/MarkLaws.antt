-- Rules of entries that are marked one after another.
use Rattle.std.proofs.Common.{◌≡◌, ◌⊎◌, ◌∙◌, ℕ, ◌+◌, ◌≤◌, ◌<◌, Bool, false, IsTrue, List, Option, length, replicate, arith, inl, inr, subst, sym}
use Rattle.std.specs.Prelude.{◌↔◌}
use Rattle.std.proofs.lemmas.Bool.{cases_eq, false≢true}
use Rattle.std.proofs.lemmas.List.{get_or-replicate}
use Rattle.x509.specs.Crl.Lists.{Revoked}
use Rattle.x509_rules.specs.declared.crl.entries.EntryRule.{EntryRule}
use Rattle.x509_rules.specs.Crl.Entries.{BreaksEntry, SomeEntry}
use Rattle.x509_rules.specs.Crl.Marks.{AreMarks, IsMarked, Marks, mark_count, marked_rule}

-- Of P is what is marked now, and what Q says of what is left.
pub record MarkedSoFar (P Q : ℕ → Type 0) (old now : List Bool) : Type 0 where
  pub all : length now ≡ mark_count
  pub each : (n : ℕ) → n < mark_count → (IsMarked now n ⊎ Q n) ↔ (IsMarked old n ⊎ P n)

pub marked_none : {P : ℕ → Type 0} {old : List Bool} → length old ≡ mark_count → MarkedSoFar P P old old
marked_none e = record { all = e; each = λ n few. (λ s. s, λ s. s) }

pub marked_more : {P Q Q' R : ℕ → Type 0} {old now new : List Bool} → MarkedSoFar P Q old now → Marks R now new → ((n : ℕ) → n < mark_count → Q n ↔ (R n ⊎ Q' n)) → MarkedSoFar P Q' old new
marked_more {P = P} {Q = Q} {Q' = Q'} {R = R} {old = old} {now = now} {new = new} s m g = record { all = m.all; each = λ n few. (λ z. (s.each n few).0 (on n few z), λ z. back n few ((s.each n few).1 z)) }
  where
    of_new : (n : ℕ) → n < mark_count → IsMarked now n ⊎ R n → IsMarked now n ⊎ Q n
    of_new n few (inl p) = inl p
    of_new n few (inr r) = inr ((g n few).1 (inl r))

    on : (n : ℕ) → n < mark_count → IsMarked new n ⊎ Q' n → IsMarked now n ⊎ Q n
    on n few (inl p) = of_new n few ((m.each n few).0 p)
    on n few (inr q) = inr ((g n few).1 (inr q))

    of_left : (n : ℕ) → n < mark_count → R n ⊎ Q' n → IsMarked new n ⊎ Q' n
    of_left n few (inl r) = inl ((m.each n few).1 (inr r))
    of_left n few (inr q) = inr q

    back : (n : ℕ) → n < mark_count → IsMarked now n ⊎ Q n → IsMarked new n ⊎ Q' n
    back n few (inl p) = inl ((m.each n few).1 (inl p))
    back n few (inr q) = of_left n few ((g n few).0 q)

pub marked_all : {P Q : ℕ → Type 0} {old now : List Bool} → MarkedSoFar P Q old now → ((n : ℕ) → n < mark_count → ¬ Q n) → Marks P old now
marked_all {P = P} {Q = Q} {old = old} {now = now} s none = record { all = s.all; each = λ n few. (λ p. (s.each n few).0 (inl p), λ z. marked n few ((s.each n few).1 z)) }
  where
    marked : (n : ℕ) → n < mark_count → IsMarked now n ⊎ Q n → IsMarked now n
    marked n few (inl p) = p
    marked n few (inr q) = absurd (none n few q)

-- what an entry breaks of the rules from this place on
abbrev pub BreaksFrom : ℕ → Revoked → ℕ → Type 0
BreaksFrom place e n = (place ≤ n) × BreaksEntry (marked_rule n) e

module _ (e : Revoked) where
  pub from_start : {old : List Bool} → length old ≡ mark_count → MarkedSoFar (λ n. BreaksEntry (marked_rule n) e) (BreaksFrom 0 e) old old
  from_start {old = old} same = record { all = same; each = λ n few. (on n, back n) }
    where
      on : (n : ℕ) → IsMarked old n ⊎ BreaksFrom 0 e n → IsMarked old n ⊎ BreaksEntry (marked_rule n) e
      on n (inl p) = inl p
      on n (inr q) = inr q.1

      back : (n : ℕ) → IsMarked old n ⊎ BreaksEntry (marked_rule n) e → IsMarked old n ⊎ BreaksFrom 0 e n
      back n (inl p) = inl p
      back n (inr q) = inr (omega arith, q)

  -- the rule at a place, and those behind it
  pub one_of_them : (place n : ℕ) → BreaksFrom place e n ↔ (((n ≡ place) × BreaksEntry (marked_rule n) e) ⊎ BreaksFrom (place + 1) e n)
  one_of_them place n = (on, back)
    where
      on : BreaksFrom place e n → ((n ≡ place) × BreaksEntry (marked_rule n) e) ⊎ BreaksFrom (place + 1) e n
      on q = elim (cases_eq n place) [
        | inl same ↦ inl (same, q.1)
        | inr other ↦ inr (grind (arith, q.0, other), q.1)
      ]

      back : ((n ≡ place) × BreaksEntry (marked_rule n) e) ⊎ BreaksFrom (place + 1) e n → BreaksFrom place e n
      back (inl p) = (omega (arith, p.0), p.1)
      back (inr q) = (omega (arith, q.0), q.1)

  -- the rule at a place, which the entry breaks
  pub marked_one : {place : ℕ} {old new : List Bool} → BreaksEntry (marked_rule place) e → Marks (λ n. n ≡ place) old new → Marks (λ n. (n ≡ place) × BreaksEntry (marked_rule n) e) old new
  marked_one {place = place} {old = old} b m = record { all = m.all; each = λ n few. (λ p. on n ((m.each n few).0 p), λ z. (m.each n few).1 (back n z)) }
    where
      on : (n : ℕ) → IsMarked old n ⊎ (n ≡ place) → IsMarked old n ⊎ ((n ≡ place) × BreaksEntry (marked_rule n) e)
      on n (inl p) = inl p
      on n (inr same) = inr (same, subst (λ z. BreaksEntry (marked_rule z) e) (sym same) b)

      back : (n : ℕ) → IsMarked old n ⊎ ((n ≡ place) × BreaksEntry (marked_rule n) e) → IsMarked old n ⊎ (n ≡ place)
      back n (inl p) = inl p
      back n (inr q) = inr q.0

  pub none_behind : (place : ℕ) → mark_count ≤ place → (n : ℕ) → n < mark_count → ¬ BreaksFrom place e n
  none_behind place end n few q = omega (arith, end, few, q.0)

-- all marks, from none at the start
pub all_marks : {i : Option (List ℕ)} {new : List Bool} → Marks (λ n. SomeEntry (marked_rule n) i) (replicate 19 false) new → AreMarks i new
all_marks {i = i} {new = new} m = record { all = m.all; each = λ n few. (λ p. broken n few ((m.each n few).0 p), λ s. (m.each n few).1 (inr s)) }
  where
    broken : (n : ℕ) → n < mark_count → IsMarked (replicate 19 false) n ⊎ SomeEntry (marked_rule n) i → SomeEntry (marked_rule n) i
    broken n few (inl p) = absurd (false≢true (sym (get_or-replicate {A = Bool} 19 n false false few) ∙ p))
    broken n few (inr s) = s

-- what a mark tells of its rule
pub tells : {i : Option (List ℕ)} {marks : List Bool} {r rule : EntryRule} {b : Bool} → AreMarks i marks → (place : ℕ) → place < mark_count → r ≡ marked_rule place → r ≡ rule → IsTrue b ↔ IsMarked marks place → IsTrue b ↔ SomeEntry rule i
tells {i = i} {b = b} m place few e f t = subst (λ z. IsTrue b ↔ SomeEntry z i) (sym e ∙ f) (λ h. (m.each place few).0 (t.0 h), λ s. t.1 ((m.each place few).1 s))
