use Rattle.std.proofs.Common.{◌≡◌, ◌+◌, ◌++◌, List, ℕ, length}
use Rattle.std.specs.Prelude.{IsUtf8, map}
use Rattle.std.specs.Fmt.{HasWritten, IsPlainFormatter}
use Rattle.std.specs.List.{concat}
use Rattle.std.specs.Str.{chars}
use Rattle.std.specs.Str.Iter.{chars_rest}
use Rattle.der_print.specs.declared.pieces.Piece.TheVariants.{Character}
use Rattle.der_print.specs.Quotes.{piece_text}
use Rattle.der_print.proofs.text.write_characters.Given as goal

abbrev texts_of : List ℕ → List (List ℕ)
texts_of w = map piece_text (map (λ c. Character c) (chars w))

-- the texts in front of those that are left were written
abbrev pub invariant-loop-character : goal.invariant-loop-character
invariant-loop-character g l = record {
  utf8 : IsUtf8 (chars_rest l.character-iterator);
  done : IsPlainFormatter l.fn.f → (sent : List (List ℕ)) × (texts_of l.text ≡ sent ++ texts_of (chars_rest l.character-iterator)) × (length sent + l.wanted ≡ l.most)
      × HasWritten g.W.Write.write_str_gives l.fn.f (concat sent) l.f;
}
