-- What private functions promise: no public contract cites these.
use Rattle.std.specs.Prelude.{◌≡◌, ℕ, List, [], Err, IfOk, MatchResult}
use Rattle.der_parser.specs.declared.error.Err.TheVariants.{Incomplete, OutOfMemory}
use Rattle.der_parser.specs.declared.error.Error.{Error as BerError}
use Rattle.der_parser.specs.Containers.{Answered}
use Rattle.der_uses.specs.Names.Names.{AnswersSpelled}

abbrev pub IsIncomplete : {T : Type 0} → Answered T BerError → Type 0
IsIncomplete (Err (Incomplete n)) = Unit {0}
IsIncomplete _ = ⊥

-- a reader of values that are items of a list, which ends where no octets are left
pub record AnswersItem {T V : Type 0} (Spells : List ℕ → V → Type 0) (view : T → V) (i : List ℕ)
    (result : Answered T BerError) : Type 0 where
  pub spelled : AnswersSpelled Spells view i result
  pub at_end : i ≡ [] → IsIncomplete result

-- a reader of a whole content
pub record AnswersWhole {T V : Type 0} (Whole : List ℕ → V → Type 0) (view : T → V) (w : List ℕ)
    (result : Answered T BerError) : Type 0 where
  pub found : IfOk result (λ x. Whole w (view x.1))
  pub only : (v : V) → Whole w v → MatchResult result (λ x. view x.1 ≡ v) (λ e. e ≡ OutOfMemory)
