-- What is written of objects.
use Rattle.std.specs.Prelude.{◌≡◌, ℕ, List, [], ◌∷◌, ◌++◌, codes, true, false, Option}
use Rattle.std.specs.Io.KnownBytes.{Appends}
use Rattle.der_parser.specs.Encoding.{encoding}
use Rattle.der_parser.specs.Pretty.{pretty, plain_form}
use Rattle.der_parser.specs.Tree.{Node}
use Rattle.derdump.specs.declared.command.Command.{Command}
use Rattle.derdump.specs.declared.command.Command.TheVariants.{Ber, Der, Canon}

-- the text of the object and its items, and a newline; no header is printed, so no length shows
abbrev pub line_of : Node → List ℕ
line_of o = pretty (record { recursive = true; headers = false; increment = 2 }) 0 o plain_form ++ codes "\n"

-- w is what the command writes of the object: its line, or its encoding
abbrev pub IsOutput : Command → Node → List ℕ → Type 0
IsOutput Ber o w = w ≡ line_of o
IsOutput Der o w = w ≡ line_of o
IsOutput Canon o w = w ≡ encoding o

-- new is old and then the output of the object
pub record AddsOutput (command : Command) (old new : List ℕ) (o : Node) : Type 0 where
  pub output : List ℕ
  pub is_output : IsOutput command o output
  pub adds : new ≡ old ++ output

-- new is old and something behind it
abbrev pub AddsSome : List ℕ → List ℕ → Type 0
AddsSome old new = (more : List ℕ) × (new ≡ old ++ more)

-- w is the outputs of the objects, one after another
pub data AreOutputs (command : Command) : List Node → List ℕ → Type 0 where
  no_outputs : AreOutputs command [] []
  one_more_output : {o : Node} {os : List Node} (w : List ℕ) {rest : List ℕ}
      → IsOutput command o w → AreOutputs command os rest → AreOutputs command (o ∷ os) (w ++ rest)

-- a writer took the outputs of the objects behind what it had
pub record TookOutputs (command : Command) (old new : Option (List ℕ)) (os : List Node) : Type 0 where
  pub outputs : List ℕ
  pub are_outputs : AreOutputs command os outputs
  pub appends : Appends old new outputs
