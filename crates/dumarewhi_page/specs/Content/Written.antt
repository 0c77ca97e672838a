-- What is written of an input.
use Rattle.std.specs.Prelude.{◌≡◌, ℕ, List, Result, IfErr, MatchResult}
use Rattle.der_canon.specs.declared.error.NotCanonical.{NotCanonical}
use Rattle.der_canon.specs.Errors.{IsErrorOf}
use Rattle.der_canon.specs.Written.{KeepsDer, WritesDer}

-- It is written as DER writes it, if there is room. The answer is 0 and the octets that are needed, or 1.
abbrev pub WritesInput : List ℕ → List ℕ → List ℕ → ℕ → ℕ → ℕ → Type 0
WritesInput i old new before after answer = (found : Result ℕ NotCanonical)
    × MatchResult found (λ n. (answer ≡ 0) × (after ≡ n)) (λ _. (answer ≡ 1) × (after ≡ before))
    × WritesDer i new found × KeepsDer i old new found × IfErr found (IsErrorOf i)
