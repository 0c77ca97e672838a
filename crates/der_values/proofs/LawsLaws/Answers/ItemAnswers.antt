-- What a reader of items answers, from what it found where the next one should begin.
use Rattle.std.proofs.Common.{◌≡◌, ◌≢◌, ℕ, ◌<◌, List, [], ◌++◌, length, refl, ap, arith, length-append, inl, inr, Err}
use Rattle.der_base.specs.declared.error.Err.{Err as Refused}
use Rattle.der_base.specs.declared.error.Err.TheVariants.{Incomplete, Error, Failure, OutOfMemory}
use Rattle.der_base.specs.declared.error.Error.{Error as BerError}
use Rattle.der_base.specs.declared.error.Needed.TheVariants.{Unknown, Size}
use Rattle.der_base.specs.Answer.{MatchAnswer}
use Rattle.der_base.specs.Cut.{IsCut}
use Rattle.der_base.specs.Errors.{RefusesCutItem}
use Rattle.der_base.specs.Fault.{ItemRefuses}
use Rattle.der_base.specs.Refusal.{Refusal, refusal, incomplete}

pub some_octets : (r : List ℕ) → 0 < length r → r ≢ []
some_octets r h e = omega (arith, h, ap (λ l. length l) e)

-- octets are left, so the content has some
pub some_content : (w u r : List ℕ) → w ≡ u ++ r → 0 < length r → w ≢ []
some_content w u r e h z = omega (arith, h, ap (λ l. length l) z, ap (λ l. length l) e, length-append u r)

-- the refusal of an item is that of its list
pub item_answer : {T T' : Type 0} (P : T → Type 0) (P' : T' → Type 0) (M M' : Type 0) (Q : Refusal → Type 0) (faults : List ℕ → Refusal → Type 0) (lacks : List ℕ → ℕ → Type 0) (r : List ℕ)
    (e e' : Refused BerError)
    → RefusesCutItem e e' → 0 < length r → MatchAnswer {T = T} (Err e) P (faults r) (λ n. IsCut r × lacks r n × ((x : Refusal) → ¬ faults r x)) M
    → ((x : Refusal) → ItemRefuses faults lacks r x → Q x) → (M → M') → MatchAnswer {T = T'} (Err e') P' Q (λ _. ⊥) M'
item_answer P P' M M' Q faults lacks r (Error x) e' k some h f g = rw k (f (refusal x) (some_octets r some, inl h))
item_answer P P' M M' Q faults lacks r (Incomplete (Size n)) e' k some h f g = rw k (f (incomplete (Size n)) (some_octets r some, inr (n, h.0, h.1, h.2, refl)))
item_answer P P' M M' Q faults lacks r (Incomplete Unknown) e' k some h f g = absurd h
item_answer P P' M M' Q faults lacks r (Failure x) e' k some h f g = absurd h
item_answer P P' M M' Q faults lacks r OutOfMemory e' k some h f g = rw k (g h)
