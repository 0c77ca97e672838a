-- Kinds of attributes that are marked one after another.
use Rattle.std.proofs.Common.{◌≡◌, ◌⊎◌, Bool, List, length, inl, inr}
use Rattle.std.specs.Prelude.{◌↔◌}
use Rattle.x509_rule_facts.specs.declared.attributes.AttributeKind.{AttributeKind}
use Rattle.x509_rule_facts.specs.Attributes.{IsMarked, Marks, kind_count}

-- Of P is what is marked now, and what Q says of what is left.
pub record MarkedSoFar (P Q : AttributeKind → Type 0) (old now : List Bool) : Type 0 where
  pub all : length now ≡ kind_count
  pub each : (k : AttributeKind) → (IsMarked now k ⊎ Q k) ↔ (IsMarked old k ⊎ P k)

pub marked_none : {P : AttributeKind → Type 0} {old : List Bool} → length old ≡ kind_count → MarkedSoFar P P old old
marked_none e = record { all = e; each = λ k. (λ s. s, λ s. s) }

pub marked_more : {P Q Q' R : AttributeKind → Type 0} {old now new : List Bool} → MarkedSoFar P Q old now → Marks R now new → ((k : AttributeKind) → Q k ↔ (R k ⊎ Q' k)) → MarkedSoFar P Q' old new
marked_more {P = P} {Q = Q} {Q' = Q'} {R = R} {old = old} {now = now} {new = new} s m g = record { all = m.all; each = λ k. (λ z. (s.each k).0 (on k z), λ z. back k ((s.each k).1 z)) }
  where
    of_new : (k : AttributeKind) → IsMarked now k ⊎ R k → IsMarked now k ⊎ Q k
    of_new k (inl p) = inl p
    of_new k (inr r) = inr ((g k).1 (inl r))

    on : (k : AttributeKind) → IsMarked new k ⊎ Q' k → IsMarked now k ⊎ Q k
    on k (inl p) = of_new k ((m.each k).0 p)
    on k (inr q) = inr ((g k).1 (inr q))

    of_left : (k : AttributeKind) → R k ⊎ Q' k → IsMarked new k ⊎ Q' k
    of_left k (inl r) = inl ((m.each k).1 (inr r))
    of_left k (inr q) = inr q

    back : (k : AttributeKind) → IsMarked now k ⊎ Q k → IsMarked new k ⊎ Q' k
    back k (inl p) = inl ((m.each k).1 (inl p))
    back k (inr q) = of_left k ((g k).0 q)

pub marked_all : {P Q : AttributeKind → Type 0} {old now : List Bool} → MarkedSoFar P Q old now → ((k : AttributeKind) → ¬ Q k) → Marks P old now
marked_all {P = P} {Q = Q} {old = old} {now = now} s n = record { all = s.all; each = λ k. (λ p. (s.each k).0 (inl p), λ z. marked k ((s.each k).1 z)) }
  where
    marked : (k : AttributeKind) → IsMarked now k ⊎ Q k → IsMarked now k
    marked k (inl p) = p
    marked k (inr q) = absurd (n k q)
