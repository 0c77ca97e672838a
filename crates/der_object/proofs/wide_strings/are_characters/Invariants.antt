use Rattle.std.proofs.Common.{◌≡◌, is_some, length}
use Rattle.der_base.specs.Pretty.{characters_text}
use Rattle.der_object.specs.Characters.{chars_of}
use Rattle.der_object.proofs.wide_strings.are_characters.Given as goal

abbrev pub invariant-loop-character : goal.invariant-loop-character
invariant-loop-character l = is_some (characters_text (chars_of l.coding l.octets)) ≡ is_some (characters_text (chars_of l.coding l.rest))

abbrev pub decreases-loop-character : goal.decreases-loop-character
decreases-loop-character l = length l.rest
