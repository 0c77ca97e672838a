-- What octets that follow an input change of its reading: they lengthen the rest, and complete what is cut short.
use Rattle.std.specs.Prelude.{◌≡◌, ◌≢◌, ℕ, Bool, List, [], ◌++◌, Result}
use Rattle.der_base.specs.declared.error.Err.{Err as Refused}
use Rattle.der_base.specs.declared.error.Error.{Error as BerError}
use Rattle.der_base.specs.declared.header.Class.{Class}
use Rattle.der_base.specs.declared.header.Length.{Length}
use Rattle.der_base.specs.Answer.{MatchAnswer}
use Rattle.der_base.specs.Cut.{IsCut, Lacks, DerLacks}
use Rattle.der_base.specs.Fault.{ShowsFault, DerShowsFault}
use Rattle.der_base.specs.Headers.{BeginsWithHeader, BeginsWithDerHeader}
use Rattle.der_base.specs.Refusal.{Refusal}
use Rattle.der_base.specs.Tree.{Node}

-- i is a proper front of an element, lacks n octets, and shows no refusal by BER
abbrev pub BerIsCut : ℕ → List ℕ → ℕ → Type 0
BerIsCut d i n = IsCut i × Lacks i n × ((e : Refusal) → ¬ ShowsFault d i e)

-- nor by DER
abbrev pub DerIsCut : ℕ → List ℕ → ℕ → Type 0
DerIsCut d i n = IsCut i × DerLacks i n × ((e : Refusal) → ¬ DerShowsFault d i e)

-- whatever octets follow i, no header begins it
abbrev pub BeginsNoHeader : List ℕ → Type 0
BeginsNoHeader i = (z : List ℕ) (c : Class) (p : Bool) (t : ℕ) (l : Length) (rest : List ℕ)
    → ¬ BeginsWithHeader (i ++ z) c p t l rest

-- nor one by DER
abbrev pub BeginsNoDerHeader : List ℕ → Type 0
BeginsNoDerHeader i = (z : List ℕ) (c : Class) (p : Bool) (t n : ℕ) (rest : List ℕ)
    → ¬ BeginsWithDerHeader (i ++ z) c p t n rest

-- whatever octets follow i, it shows the refusal
abbrev pub FaultStays : (ℕ → List ℕ → Refusal → Type 0) → ℕ → List ℕ → Refusal → Type 0
FaultStays faults d i e = (z : List ℕ) → faults d (i ++ z) e

-- whatever octets follow i, it begins with a spelling of the tree, and they only lengthen the rest
abbrev pub RestLengthens : (ℕ → List ℕ → Node → List ℕ → Type 0) → ℕ → List ℕ → Node → List ℕ → Type 0
RestLengthens begins d i o rest = (z : List ℕ) → begins d (i ++ z) o (rest ++ z)

-- each proper front of b is cut short
abbrev pub FrontsAreCut : (ℕ → List ℕ → ℕ → Type 0) → ℕ → List ℕ → Type 0
FrontsAreCut cut d b = (u v : List ℕ) → v ≢ [] → b ≡ u ++ v → (n : ℕ) × cut d u n

-- i begins with a spelling of the tree, and so it does whatever octets follow; each proper front of that spelling is
-- cut short
pub record SpellingStays (begins : ℕ → List ℕ → Node → List ℕ → Type 0) (cut : ℕ → List ℕ → ℕ → Type 0)
    (d : ℕ) (i : List ℕ) (o : Node) (rest : List ℕ) : Type 0 where
  pub longer : RestLengthens begins d i o rest
  pub fronts : (b : List ℕ) → i ≡ b ++ rest → FrontsAreCut cut d b

-- The result stays whatever octets follow: an Ok but for the rest, and an Error. Of an Ok, each proper front of what
-- was read is cut short.
abbrev pub AnswerStays : {T : Type 0} → Result T (Refused BerError) → (T → Node × List ℕ)
    → (ℕ → List ℕ → Node → List ℕ → Type 0) → (ℕ → List ℕ → Refusal → Type 0) → (ℕ → List ℕ → ℕ → Type 0)
    → ℕ → List ℕ → Type 0
AnswerStays result value begins faults cut d i = MatchAnswer result
    (λ x. SpellingStays begins cut d i (value x).0 (value x).1) (FaultStays faults d i) (λ n. Unit {0}) (Unit {0})
