-- The files that a run takes.
use Rattle.std.specs.Prelude.{◌≡◌, ◌≢◌, ◌&&◌, ◌||◌, ℕ, not, nat_lt, Bool, true, false, Option, Some, None}
use Rattle.std.specs.Prelude.{List, [], ◌∷◌, ◌++◌, length, codes}
use Rattle.std.specs.Io.KnownBytes.{Keeps}
use Rattle.der_actions.specs.declared.options.Action.{Action}
use Rattle.der_actions.specs.declared.options.Action.TheVariants.{Tree, Check, Json, Canon, Get, Show}
use Rattle.der_actions.specs.declared.options.Options.{Options}
use Rattle.der_cli.specs.declared.summary.Outcome.{Outcome}
use Rattle.der_cli.specs.declared.summary.Outcome.TheVariants.{Accepted, Rejected, Unread}
use Rattle.der_cli.specs.Counts.{is_accepted}
use Rattle.der_input.specs.declared.form.Form.{Form}
use Rattle.der_cli.specs.Inputs.{IsDecoded, IsReadFrom, IsUndecoded, ReadsInput, RefusesInput, shown_name}

-- only `-` reads the standard input
abbrev pub LeavesInput : List ℕ → Option (List ℕ) → Option (List ℕ) → Type 0
LeavesInput name input left = name ≢ codes "-" → left ≡ input

-- A file is read and decoded, in the given form or else in the one that is detected; or it can't be decoded or read.
-- What is left of the standard input follows it.
pub data OpensFile (asked : Option Form) (name : List ℕ) (input left : Option (List ℕ)) : Option (List ℕ) → Type 0 where
  decoded : (i octets : List ℕ) → LeavesInput name input left → IsReadFrom input name i → IsDecoded asked i octets
      → OpensFile asked name input left (Some octets)
  undecoded : (i : List ℕ) → LeavesInput name input left → IsReadFrom input name i → IsUndecoded asked i
      → OpensFile asked name input left None
  unopened : LeavesInput name input left → OpensFile asked name input left None

-- A file is accepted, rejected or can't be read, with this output. What is left of the standard input follows it.
pub data TakesFile (o : Options) (name : List ℕ) (input left old new : Option (List ℕ)) : Outcome → Type 0 where
  accepted : (octets : List ℕ) → LeavesInput name input left → IsReadFrom input name octets
      → ReadsInput o (shown_name name) octets old new → TakesFile o name input left old new Accepted
  rejected : (octets : List ℕ) → LeavesInput name input left → IsReadFrom input name octets
      → RefusesInput o (shown_name name) octets old new → TakesFile o name input left old new Rejected
  unread : LeavesInput name input left → Keeps old new → TakesFile o name input left old new Unread

-- Files are taken in this order, each once, and whether all are accepted.
pub data TakesFiles (o : Options) : List (List ℕ) → Option (List ℕ) → Option (List ℕ) → Option (List ℕ)
    → Option (List ℕ) → Bool → Type 0 where
  none_yet : {input old : Option (List ℕ)} → TakesFiles o [] input input old old true
  one_more : {names : List (List ℕ)} {input left after old between new : Option (List ℕ)} {all : Bool}
      (name : List ℕ) (outcome : Outcome) → TakesFiles o names input left old between all
      → TakesFile o name left after between new outcome
      → TakesFiles o (names ++ name ∷ []) input after old new (all && is_accepted outcome)

-- whether the number of files follows them
abbrev pub is_check : Action → Bool
is_check Tree = false
is_check Check = true
is_check Json = false
is_check Canon = false
is_check Get = false
is_check Show = false

abbrev pub has_summary : Options → Bool
has_summary o = is_check o.action && (o.has_several_files && not o.is_quiet)

-- the options for so many files, or for those in folders
abbrev pub among : ℕ → Bool → Options → Options
among count is_recursive o = record o { has_several_files = nat_lt 1 count || is_recursive }

-- The action of the options runs on files, and with -r on those in folders. It is good if there is a file, all are
-- accepted, and each folder was read to its end and contains a file.
pub record RunsFiles (o : Options) (files : List (List ℕ)) (is_recursive : Bool) (input old new : Option (List ℕ))
    (is_good : Bool) : Type 0 where
  pub names : List (List ℕ)
  pub is_whole : Bool
  pub named : is_recursive ≡ false → (names ≡ files) × (is_whole ≡ true)
  pub left : Option (List ℕ)
  pub between : Option (List ℕ)
  pub are_accepted : Bool
  pub takes : TakesFiles (among (length names) is_recursive o) names input left old between are_accepted
  pub summed : has_summary (among (length names) is_recursive o) ≡ false → new ≡ between
  pub good : is_good ≡ (nat_lt 0 (length names) && (are_accepted && is_whole))
