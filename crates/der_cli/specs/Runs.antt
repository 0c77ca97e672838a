-- What a subcommand runs on, and its exit status.
use Rattle.std.specs.Prelude.{◌≡◌, ◌≤◌, ℕ, Bool, true, false, is_some, Option, Some, None, IfSome, List, [], ◌∷◌, codes}
use Rattle.std.specs.Prelude.{Ok, IsErr, unwrap_or}
use Rattle.std.specs.Io.KnownBytes.{Appends}
use Rattle.clap.specs.Words.{Row, all_of, first_of}
use Rattle.der_input.specs.declared.form.Form.{Form}
use Rattle.der_print.specs.declared.style.Style.{Style}
use Rattle.der_text.specs.Looks.{ElementsText}
use Rattle.der_text.specs.Texts.{octets_of_text}
use Rattle.der_actions.specs.declared.options.Action.{Action}
use Rattle.der_actions.specs.declared.options.Action.TheVariants.{Tree}
use Rattle.der_actions.specs.declared.options.Options.{Options}
use Rattle.der_cli.specs.declared.arguments.Task.{Task}
use Rattle.der_cli.specs.declared.arguments.Task.TheVariants.{Act, Diff, Text, Octets, Modules}
use Rattle.der_cli.specs.Arguments.{Asks, NamesForm, has_flag}
use Rattle.der_cli.specs.Inputs.{IsReadFrom}
use Rattle.der_cli.specs.Statuses.{ComparesTo, status_of}
use Rattle.der_cli.specs.Taken.{OpensFile, RunsFiles}

-- the files of a subcommand: those that are named, or else `-`
abbrev pub files_named : List Row → List (List ℕ)
files_named rows = unwrap_or (all_of (codes "file") rows) (codes "-" ∷ [])

-- the file of an argument, or else `-`
abbrev pub file_named : List ℕ → List Row → List ℕ
file_named name rows = unwrap_or (first_of name rows) (codes "-")

-- the options for which the arguments ask, with a type, a table of names, and without --now a time by the clock
pub record IsAsked (a : Action) (rows : List Row) (terminal : Style) (o : Options) : Type 0 where
  pub asked : Options
  pub asks : Asks a rows terminal asked
  pub others : o ≡ record asked { naming = o.naming; own_names = o.own_names; present = o.present }
  pub present : IfSome asked.present (λ n. o.present ≡ Some n)

-- The status of an action is 0 if its files are good, 1 if they aren't, and 2 if --as names no known type.
pub data RunsAction (a : Action) (rows : List Row) (terminal : Style) (input old new : Option (List ℕ))
    : ℕ → Type 0 where
  on_files : (o : Options) (is_good : Bool) → IsAsked a rows terminal o
      → RunsFiles o (files_named rows) (has_flag rows (codes "recursive")) input old new is_good
      → RunsAction a rows terminal input old new (status_of is_good)
  no_type : (word : List ℕ) → first_of (codes "as") rows ≡ Some word → new ≡ old
      → RunsAction a rows terminal input old new 2

-- Two files are compared. The status is 2 if one can't be read or decoded.
pub data ComparesFiles (o : Options) (first second : List ℕ) (input old new : Option (List ℕ)) : ℕ → Type 0 where
  both_files : {n : ℕ} (i j : List ℕ) (left after : Option (List ℕ)) → OpensFile o.form first input left (Some i)
      → OpensFile o.form second left after (Some j) → ComparesTo o i j old new n
      → ComparesFiles o first second input old new n
  no_first : (left : Option (List ℕ)) → OpensFile o.form first input left None → new ≡ old
      → ComparesFiles o first second input old new 2
  no_second : (i : List ℕ) (left after : Option (List ℕ)) → OpensFile o.form first input left (Some i)
      → OpensFile o.form second left after None → new ≡ old → ComparesFiles o first second input old new 2

-- The status of a comparison is that of its files, or 2 if --as names no known type.
pub data RunsDiff (rows : List Row) (terminal : Style) (input old new : Option (List ℕ)) : ℕ → Type 0 where
  on_both : {n : ℕ} (o : Options) → IsAsked Tree rows terminal o
      → ComparesFiles o (file_named (codes "first") rows) (file_named (codes "second") rows) input old new n
      → RunsDiff rows terminal input old new n
  of_no_type : (word : List ℕ) → first_of (codes "as") rows ≡ Some word → new ≡ old
      → RunsDiff rows terminal input old new 2

-- a text with these octets is written, or nothing if there are none
abbrev pub WritesTextOf : Option (List ℕ) → Option (List ℕ) → Option (List ℕ) → Type 0
WritesTextOf (Some w) old new =
    (text : List ℕ) × (octets_of_text text ≡ Ok w) × ElementsText 0 w text × Appends old new text
WritesTextOf None old new = new ≡ old

-- The text of a file is written, unless the file can't be read or decoded.
pub record RunsText (rows : List Row) (input old new : Option (List ℕ)) (is_written : Bool) : Type 0 where
  pub form : Option Form
  pub asks : NamesForm (first_of (codes "from") rows) form
  pub left : Option (List ℕ)
  pub octets : Option (List ℕ)
  pub opens : OpensFile form (file_named (codes "file") rows) input left octets
  pub writes : WritesTextOf octets old new
  pub written : is_written ≡ is_some octets

-- The octets of a text are written. Or the text breaks the grammar or can't be read, and nothing is written.
pub data RunsOctets (rows : List Row) (input old new : Option (List ℕ)) : Bool → Type 0 where
  octets_written : (text w : List ℕ) → IsReadFrom input (file_named (codes "file") rows) text
      → octets_of_text text ≡ Ok w → Appends old new w → RunsOctets rows input old new true
  no_octets : (text : List ℕ) → IsReadFrom input (file_named (codes "file") rows) text → IsErr (octets_of_text text)
      → new ≡ old → RunsOctets rows input old new false
  no_text : new ≡ old → RunsOctets rows input old new false

-- the status of what is done, or isn't
abbrev pub EndsBy : (Bool → Type 0) → ℕ → Type 0
EndsBy Does n = (done : Bool) × Does done × (n ≡ status_of done)

-- what a task does, and its status; of modules only that it is 0 or 1
abbrev pub RunsTask : Task → List Row → Style → Option (List ℕ) → Option (List ℕ) → Option (List ℕ) → ℕ → Type 0
RunsTask (Act a) rows terminal input old new n = RunsAction a rows terminal input old new n
RunsTask Diff rows terminal input old new n = RunsDiff rows terminal input old new n
RunsTask Text rows terminal input old new n = EndsBy (RunsText rows input old new) n
RunsTask Octets rows terminal input old new n = EndsBy (RunsOctets rows input old new) n
RunsTask Modules rows terminal input old new n = n ≤ 1
