-- What one result of the parser of its items makes of a list, where the items of a SET OF ascend by DER (X.690 11.6).
use Rattle.std.specs.Prelude.{◌≡◌, ℕ, ◌<◌, Option, List, [], length, Result, Ok, Err}
use Rattle.std.specs.Borrow.{Bor}
use Rattle.der_base.specs.declared.error.DerConstraint.TheVariants.{SetOfOrder}
use Rattle.der_base.specs.declared.error.Err.{Err as Refused}
use Rattle.der_base.specs.declared.error.Err.TheVariants.{Error}
use Rattle.der_base.specs.declared.error.Error.{Error as BerError}
use Rattle.der_base.specs.declared.error.ErrorKind.{ErrorKind}
use Rattle.der_base.specs.declared.rules.Rules.{Rules}
use Rattle.der_base.specs.declared.rules.Rules.TheVariants.{Ber, Der}
use Rattle.der_base.specs.Containers.{Answered}
use Rattle.der_base.specs.Inner.Taken.{Takes}
use Rattle.der_base.specs.ListSteps.{taken}
use Rattle.der_base.specs.Refusal.{refusal, der_constraint}
use Rattle.der_base.specs.SetOfOrder.{Descends}
use Rattle.der_combinators.specs.declared.list_type.ListType.{ListType}
use Rattle.der_combinators.specs.declared.list_type.ListType.TheVariants.{Sequence, Set}

-- the octets that the item after an item of the octets s is compared with
abbrev pub octets_compared : Rules → ListType → List ℕ → List ℕ
octets_compared Ber list s = []
octets_compared Der Sequence s = []
octets_compared Der Set s = s

-- the refusal for the order of a SET OF, as the caller's error
pub data IsOutOfOrder {E : Type 0} (from_gives : BerError → E → Type 0) : Refused E → Type 0 where
  order_refused : {e : BerError} {x : E} → refusal e ≡ der_constraint SetOfOrder → from_gives e x
      → IsOutOfOrder from_gives (Error x)

-- the octets that a result on p takes are not less than those before
abbrev pub IsInOrder : {O E : Type 0} → List ℕ → Bor (List ℕ) → Answered O E → Type 0
IsInOrder before p (Ok x) = length x.0.now < length p.now → ¬ Descends before (taken p.now x.0.now)
IsInOrder before p (Err e) = Unit {0}

module _ {O E : Type 0} (from_error_kind_gives : Bor (List ℕ) → ErrorKind → E → Type 0)
    (from_gives : BerError → E → Type 0) where
  -- of the result a on the input p, after the values vs and the octets before: what a list makes of it, or the refusal
  -- of a value that descends
  pub data TakesInOrder (before : List ℕ) (p : Bor (List ℕ)) (a : Answered O E) (vs : List O)
      : Result (Option (Bor (List ℕ))) (Refused E) → List O → Type 0 where
    in_order : {x : Result (Option (Bor (List ℕ))) (Refused E)} {us : List O} → IsInOrder before p a
        → Takes from_error_kind_gives p a vs x us → TakesInOrder before p a vs x us
    out_of_order : {r : Bor (List ℕ)} {v : O} {e : Refused E} {us : List O} → a ≡ Ok (r, v)
        → length r.now < length p.now → Descends before (taken p.now r.now) → IsOutOfOrder from_gives e
        → TakesInOrder before p a vs (Err e) us
