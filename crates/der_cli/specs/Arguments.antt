-- What the words of a command line ask for. An argument goes by the name that the help has.
use Rattle.std.specs.Prelude.{◌≡◌, ◌≢◌, ◌==◌, ◌<◌, ◌^◌, ℕ, Bool, true, false, not, if◌then◌else◌, MatchBool}
use Rattle.std.specs.Prelude.{Option, Some, None, MatchOption, SomeIff, IsSomeAnd, option_map, List, ◌∷◌, codes}
use Rattle.std.specs.Option.{option_map_or}
use Rattle.std.specs.Str.{bytes_eq}
use Rattle.std.specs.Str.Parse.{IsNumeral, digits_value, without_leading_plus}
use Rattle.clap.specs.Words.{Row, first_of, one_of}
use Rattle.der_base.specs.declared.rules.Rules.{Rules}
use Rattle.der_base.specs.declared.rules.Rules.TheVariants.{Ber, Der}
use Rattle.der_input.specs.declared.form.Form.{Form}
use Rattle.der_input.specs.declared.form.Form.TheVariants as form
use Rattle.der_print.specs.declared.style.Limit.{Limit}
use Rattle.der_print.specs.declared.style.Limit.TheVariants.{Whole, Columns}
use Rattle.der_print.specs.declared.style.Style.{Style}
use Rattle.der_actions.specs.declared.options.Action.{Action}
use Rattle.der_actions.specs.declared.options.Action.TheVariants.{Tree, Check, Json, Canon, Get, Show}
use Rattle.der_actions.specs.declared.options.Naming.TheVariants.{Unnamed}
use Rattle.der_actions.specs.declared.options.Options.{Options}
use Rattle.der_actions.specs.declared.place.Place.{Place}
use Rattle.der_actions.specs.declared.place.Place.TheVariants.{Path, Offset}
use Rattle.der_cli.specs.declared.arguments.Task.{Task}
use Rattle.der_cli.specs.declared.arguments.Task.TheVariants as task

-- the subcommand of an action
abbrev pub action_word : Action → List ℕ
action_word Tree = codes "tree"
action_word Check = codes "check"
action_word Json = codes "json"
action_word Canon = codes "canon"
action_word Get = codes "get"
action_word Show = codes "show"

-- the subcommand of a task
abbrev pub task_word : Task → List ℕ
task_word (task.Act a) = action_word a
task_word task.Diff = codes "diff"
task_word task.Text = codes "text"
task_word task.Octets = codes "octets"
task_word task.Modules = codes "asn1"

-- the argument of --from
abbrev pub form_word : Form → List ℕ
form_word form.Der = codes "der"
form_word form.Pem = codes "pem"
form_word form.Hex = codes "hex"
form_word form.Base64 = codes "base64"

-- the form that a word names; None if there is no word, or it names none
abbrev pub NamesForm : Option (List ℕ) → Option Form → Type 0
NamesForm word (Some f) = word ≡ Some (form_word f)
NamesForm word None = (f : Form) → word ≢ Some (form_word f)

-- whether a flag is given
abbrev pub has_flag : List Row → List ℕ → Bool
has_flag rows name = option_map_or (λ word. bytes_eq word (codes "true")) (one_of name rows) false

-- the number that a word writes, if it is one below 2^64
abbrev pub IsNumberIn : List ℕ → Option ℕ → Type 0
IsNumberIn word n = let digits = without_leading_plus word in
    SomeIff n (IsNumeral 10 digits × (digits_value 10 digits < 2 ^ 64)) (digits_value 10 digits)

-- the number of an argument, if it is given
abbrev pub IsNumberOf : List Row → List ℕ → Option ℕ → Type 0
IsNumberOf rows name n = MatchOption (one_of name rows) (n ≡ None) (λ word. IsNumberIn word n)

-- DER if it is asked for, else BER
abbrev pub der_if : Bool → Rules
der_if true = Der
der_if false = Ber

-- a check is by DER without --ber; lines and parts are by BER without --der
abbrev pub rules_asked : Action → List Row → Rules
rules_asked Tree rows = der_if (has_flag rows (codes "der"))
rules_asked Check rows = der_if (not (has_flag rows (codes "ber")))
rules_asked Json rows = der_if (has_flag rows (codes "der"))
rules_asked Canon rows = Ber
rules_asked Get rows = der_if (has_flag rows (codes "der"))
rules_asked Show rows = Ber

-- whether the elements inside strings are visited
abbrev pub strings_asked : Action → List Row → Bool
strings_asked Tree rows = not (has_flag rows (codes "no-inside"))
strings_asked Check rows = false
strings_asked Json rows = not (has_flag rows (codes "no-inside"))
strings_asked Canon rows = false
strings_asked Get rows = true
strings_asked Show rows = false

-- a number of columns, where 0 is no limit; without a number, the limit of the terminal
abbrev pub limit_by : Option ℕ → Limit → Limit
limit_by None terminal = terminal
limit_by (Some n) terminal = if n == 0 then Whole else Columns n

-- how much of a line is printed: all by --full, or as --width says
abbrev pub AsksLimit : List Row → Limit → Limit → Type 0
AsksLimit rows terminal limit = MatchBool (has_flag rows (codes "full")) (limit ≡ Whole)
    ((width : Option ℕ) × IsNumberOf rows (codes "width") width × (limit ≡ limit_by width terminal))

-- the offset in a word: a number after @ (64)
abbrev pub IsOffsetIn : List ℕ → Option ℕ → Type 0
IsOffsetIn word (Some n) = (digits : List ℕ) × (word ≡ 64 ∷ digits) × IsNumberIn digits (Some n)
IsOffsetIn word None = (digits : List ℕ) → word ≡ 64 ∷ digits → IsNumberIn digits None

-- a place is this path
abbrev pub IsPath : List ℕ → Place → Type 0
IsPath word (Path path) = path.now ≡ word
IsPath word (Offset n) = ⊥

-- the place that a word names: the offset in it, or else it is a path
abbrev pub IsPlaceNamed : List ℕ → Place → Type 0
IsPlaceNamed word (Path path) = (path.now ≡ word) × IsOffsetIn word None
IsPlaceNamed word (Offset n) = IsOffsetIn word (Some n)

-- the place behind the file, or else --path, or else --offset
abbrev pub AsksPlace : List Row → Option Place → Type 0
AsksPlace rows place = MatchOption (first_of (codes "place") rows)
    (MatchOption (first_of (codes "path") rows)
    ((n : Option ℕ) × IsNumberOf rows (codes "offset") n × (place ≡ option_map Offset n))
    (λ path. IsSomeAnd place (IsPath path)))
    (λ word. IsSomeAnd place (IsPlaceNamed word))

-- the options for which the arguments of an action ask, with the style of the terminal
pub record Asks (a : Action) (rows : List Row) (terminal : Style) (o : Options) : Type 0 where
  pub action : o.action ≡ a
  pub rules : o.rules ≡ rules_asked a rows
  pub strings : o.enters_strings ≡ strings_asked a rows
  pub form : NamesForm (first_of (codes "from") rows) o.form
  pub tree : a ≡ Tree → AsksLimit rows terminal.limit o.style.limit × (o.style.colours ≡ terminal.colours)
  pub others : a ≢ Tree → o.style ≡ record terminal { colours = false }
  pub place : AsksPlace rows o.place
  pub depth : IsNumberOf rows (codes "depth") o.depth
  pub json : o.is_json ≡ has_flag rows (codes "json")
  pub octets : o.has_octets ≡ has_flag rows (codes "octets")
  pub content : o.is_content ≡ has_flag rows (codes "content")
  pub quiet : o.is_quiet ≡ has_flag rows (codes "quiet")
  pub strict : o.is_strict ≡ has_flag rows (codes "strict")
  pub present : IsNumberOf rows (codes "now") o.present
  pub own_names : o.own_names ≡ None
  pub naming : o.naming ≡ Unnamed
  pub several : o.has_several_files ≡ false
