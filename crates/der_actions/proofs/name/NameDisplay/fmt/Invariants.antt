use Rattle.std.proofs.Common.{◌≡◌, ◌++◌, List, ℕ}
use Rattle.std.specs.Prelude.{IsUtf8}
use Rattle.std.specs.Fmt.{HasWritten, IsPlainFormatter}
use Rattle.std.specs.List.{flat_map}
use Rattle.std.specs.Str.{chars}
use Rattle.std.specs.Str.Iter.{chars_rest}
use Rattle.der_actions.specs.Labels.{character_text, name_text}
use Rattle.der_actions.proofs.name.NameDisplay.fmt.Given as goal

-- the characters before those that are left were written
abbrev pub invariant-loop-character : goal.invariant-loop-character
invariant-loop-character g l = record {
  utf8 : IsUtf8 (chars_rest l.character-iterator);
  done : IsPlainFormatter l.fn.f → (sent : List ℕ) × (name_text l.self.0.now ≡ sent ++ flat_map character_text (chars (chars_rest l.character-iterator)))
      × HasWritten g.W.Write.write_str_gives l.fn.f sent l.f;
}
