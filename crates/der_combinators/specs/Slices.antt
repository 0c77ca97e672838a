-- What a reader of the content of a tag number returns: content octets, a refusal, or how many octets are missing.
use Rattle.std.specs.Prelude.{◌≡◌, ◌≢◌, ℕ, ◌⊎◌, Bool, Some, List, Result}
use Rattle.std.specs.Borrow.{Bor}
use Rattle.der_base.specs.declared.error.Err.{Err as Refused}
use Rattle.der_base.specs.declared.error.Error.{Error as BerError}
use Rattle.der_base.specs.declared.error.ErrorKind.TheVariants.{Eof}
use Rattle.der_base.specs.declared.header.Class.{Class}
use Rattle.der_base.specs.declared.rules.Rules.{Rules}
use Rattle.der_base.specs.Containers.{BeginsWithElementBy, HasShortContent, OpeningLacks, OpeningRefuses}
use Rattle.der_base.specs.Exactly.{AnswersExactly}
use Rattle.der_base.specs.Refusal.{Refusal, unexpected_tag, parser_fault}

-- i begins with an element of the number n, of any class, with the content w, and rest follows
abbrev pub ReadsSlice : Rules → ℕ → List ℕ → List ℕ → List ℕ → Type 0
ReadsSlice rules n i w rest = (c : Class) × (p : Bool) × BeginsWithElementBy rules i c p n w rest

-- a fault of header or framing, a definite content that is short, or a whole element of another number
abbrev pub SliceRefuses : Rules → ℕ → List ℕ → Refusal → Type 0
SliceRefuses rules n i e = OpeningRefuses rules i e
    ⊎ ((behind : List ℕ) × HasShortContent rules i behind × (e ≡ parser_fault Eof))
    ⊎ ((t : ℕ) × (w rest : List ℕ) × ReadsSlice rules t i w rest × (t ≢ n) × (e ≡ unexpected_tag (Some n) t))

-- the result of such a reader
abbrev pub SliceAnswer : Type 0
SliceAnswer = Result (Bor (List ℕ) × Bor (List ℕ)) (Refused BerError)

-- the content octets, and what is left of the input
abbrev pub slice_value_of : Bor (List ℕ) × Bor (List ℕ) → List ℕ × List ℕ
slice_value_of x = (x.1.now, x.0.now)

-- the reader of the number n returns exactly what i shows, and takes no memory
abbrev pub AnswersSlice : Rules → ℕ → List ℕ → SliceAnswer → Type 0
AnswersSlice rules n i result = AnswersExactly result slice_value_of (λ x. ReadsSlice rules n i x.1.now x.0.now)
    (λ v. ReadsSlice rules n i v.0 v.1) (SliceRefuses rules n i) (OpeningLacks rules i) ⊥ ⊥
