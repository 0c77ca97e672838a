-- The words that name a command.
use Rattle.std.specs.Prelude.{◌≡◌, ℕ, List, [], codes, Option, None, Some, String, string_bytes}
use Rattle.derdump.specs.declared.command.Command.{Command}
use Rattle.derdump.specs.declared.command.Command.TheVariants.{Ber, Der, Canon}
use Rattle.der_parser.specs.declared.Rules.{Rules}
use Rattle.der_parser.specs.declared.Rules.TheVariants.{Ber as ByBer, Der as ByDer}

abbrev pub Names : List ℕ → Command → Type 0
Names word Ber = word ≡ codes "ber"
Names word Der = word ≡ codes "der"
Names word Canon = word ≡ codes "canon"

-- the rules by which a command reads
abbrev pub rules_of : Command → Rules
rules_of Ber = ByBer
rules_of Der = ByDer
rules_of Canon = ByBer

-- the only argument, or no word
abbrev pub word_of : {A : Type 0} → Option (String A) → List ℕ
word_of None = []
word_of (Some word) = string_bytes word
