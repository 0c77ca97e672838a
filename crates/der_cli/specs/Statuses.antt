-- The exit status of the program.
use Rattle.std.specs.Prelude.{◌≡◌, ◌≢◌, ◌≤◌, ◌⊎◌, ℕ, Bool, true, false, Option, Some, None, List}
use Rattle.clap.specs.declared.error.kind.ErrorKind.{ErrorKind}
use Rattle.clap.specs.declared.error.kind.ErrorKind.TheVariants.{DisplayHelp, DisplayVersion}
use Rattle.der_actions.specs.declared.diff.Difference.{Difference}
use Rattle.der_actions.specs.declared.diff.Difference.TheVariants.{Same, Different}
use Rattle.der_actions.specs.declared.options.Options.{Options}
use Rattle.der_actions.specs.Differences.{Compares, WritesDifference}

-- 0 if all inputs are accepted, 1 if one is rejected, 2 if the arguments are wrong, and 141 if the reader of the output
-- closed it
abbrev pub IsStatus : ℕ → Type 0
IsStatus n = (n ≤ 2) ⊎ (n ≡ 141)

-- the status after inputs: whether all are accepted
abbrev pub status_of : Bool → ℕ
status_of true = 0
status_of false = 1

-- the status after a comparison: 0 if the elements are the same, 1 if they differ, and 2 if an input is rejected
abbrev pub status_of_comparison : Option Difference → ℕ
status_of_comparison (Some Same) = 0
status_of_comparison (Some Different) = 1
status_of_comparison None = 2

-- two inputs are compared and their changes are written, and the status says what is found
abbrev pub ComparesTo : Options → List ℕ → List ℕ → Option (List ℕ) → Option (List ℕ) → ℕ → Type 0
ComparesTo o i j old new n =
    (d : Option Difference) × Compares o i j d × WritesDifference o i j old new d × (n ≡ status_of_comparison d)

-- the status after a text about the command line: 0 for the help and the version, 2 for an error
pub record IsStatusTold (k : ErrorKind) (status : ℕ) : Type 0 where
  pub help : k ≡ DisplayHelp → status ≡ 0
  pub version : k ≡ DisplayVersion → status ≡ 0
  pub error : k ≢ DisplayHelp → k ≢ DisplayVersion → status ≡ 2
