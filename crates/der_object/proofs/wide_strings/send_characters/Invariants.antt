use Rattle.std.proofs.Common.{◌≡◌, ◌++◌, List, ℕ, Ok, length}
use Rattle.der_object.specs.Characters.{chars_of, text_of_chars}
use Rattle.der_object.specs.Writing.{Wrote}
use Rattle.der_object.proofs.wide_strings.send_characters.Given as goal

-- the characters in front of the rest were sent
abbrev pub invariant-loop-character : goal.invariant-loop-character
invariant-loop-character g l = record {
  done : (sent : List ℕ) × (text_of_chars (chars_of l.coding l.octets) ≡ sent ++ text_of_chars (chars_of l.coding l.rest)) × Wrote g.W.Write.contents l.initial.w l.w (Ok tt) sent;
}

abbrev pub decreases-loop-character : goal.decreases-loop-character
decreases-loop-character g l = length l.rest
