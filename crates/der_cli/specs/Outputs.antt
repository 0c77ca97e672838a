-- The output of an action, for octets that are accepted to their end, and for those that are rejected.
use Rattle.std.specs.Prelude.{◌≡◌, ◌&&◌, not, ℕ, Bool, true, false, MatchBool, Option, List, ◌++◌, codes}
use Rattle.std.specs.Io.KnownBytes.{Appends}
use Rattle.der_actions.specs.declared.options.Action.{Action}
use Rattle.der_actions.specs.declared.options.Action.TheVariants.{Tree, Check, Json, Canon, Get, Show}
use Rattle.der_actions.specs.declared.options.Options.{Options}
use Rattle.der_actions.specs.declared.print.Lines.TheVariants as kind
use Rattle.der_actions.specs.Labels.{label_text, name_text}
use Rattle.der_actions.specs.Outputs.{IsChecked, RefusesDer, RefusesLines, RefusesPart}
use Rattle.der_actions.specs.Outputs.{WritesDer, WritesLines, WritesNothing, WritesPart, WritesPem}
use Rattle.der_cli.specs.Shown.{RefusesShown, ShowsWords}

-- the output of an action for octets
abbrev pub Writes : Action → Options → List ℕ → Option (List ℕ) → Option (List ℕ) → Type 0
Writes Tree o i old new = WritesLines kind.Tree o i old new
Writes Check o i old new = WritesNothing o i old new
Writes Json o i old new = WritesLines kind.Json o i old new
Writes Canon o i old new = WritesDer i old new
Writes Get o i old new = WritesPart o i old new
Writes Show o i old new = ShowsWords o i old new

-- the output of an action for the octets of a block with this label; a DER encoding is in PEM again
abbrev pub WritesInside : Action → Options → List ℕ → List ℕ → Option (List ℕ) → Option (List ℕ) → Type 0
WritesInside Tree o label i old new = WritesLines kind.Tree o i old new
WritesInside Check o label i old new = WritesNothing o i old new
WritesInside Json o label i old new = WritesLines kind.Json o i old new
WritesInside Canon o label i old new = WritesPem label i old new
WritesInside Get o label i old new = WritesPart o i old new
WritesInside Show o label i old new = ShowsWords o i old new

-- octets are rejected by an action, with this output; nothing is promised about the report of a check
abbrev pub IsRefusedBy : Action → Options → List ℕ → Option (List ℕ) → Option (List ℕ) → Type 0
IsRefusedBy Tree o i old new = RefusesLines kind.Tree o i old new
IsRefusedBy Check o i old new = ¬ IsChecked o i
IsRefusedBy Json o i old new = RefusesLines kind.Json o i old new
IsRefusedBy Canon o i old new = RefusesDer i old new
IsRefusedBy Get o i old new = RefusesPart o i old new
IsRefusedBy Show o i old new = RefusesShown o i old new

-- whether an action writes lines of a tree or of a summary, unless these are JSON
abbrev pub writes_lines : Action → Bool
writes_lines Tree = true
writes_lines Check = false
writes_lines Json = false
writes_lines Canon = false
writes_lines Get = false
writes_lines Show = true

-- whether a line with the name precedes the output
abbrev pub has_heading : Options → Bool
has_heading o = writes_lines o.action && not o.is_json

-- the line before the tree of a block, with the name of the input and the label
abbrev pub heading_text : List ℕ → List ℕ → List ℕ
heading_text name label = name_text name ++ codes ": " ++ label_text label ++ codes "\n"

-- what precedes the output for a block with this label: the name and the label
abbrev pub WritesHeading : Options → List ℕ → List ℕ → Option (List ℕ) → Option (List ℕ) → Type 0
WritesHeading o name label old new = MatchBool (has_heading o) (Appends old new (heading_text name label)) (new ≡ old)

-- what precedes the output for a file without blocks: its name, if there are several files
abbrev pub WritesName : Options → List ℕ → Option (List ℕ) → Option (List ℕ) → Type 0
WritesName o name old new =
    MatchBool (has_heading o) (Appends old new (name_text name ++ codes ":\n")) (new ≡ old)

-- the output for a file without blocks, which has these octets
pub record WritesFile (o : Options) (name i : List ℕ) (old new : Option (List ℕ)) : Type 0 where
  pub between : Option (List ℕ)
  pub heading : MatchBool o.has_several_files (WritesName o name old between) (between ≡ old)
  pub writes : Writes o.action o i between new

-- a file without blocks, which has these octets, is rejected with this output
pub record RefusesFile (o : Options) (name i : List ℕ) (old new : Option (List ℕ)) : Type 0 where
  pub between : Option (List ℕ)
  pub heading : MatchBool o.has_several_files (WritesName o name old between) (between ≡ old)
  pub refused : IsRefusedBy o.action o i between new
