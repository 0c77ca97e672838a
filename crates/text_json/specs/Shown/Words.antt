-- The lines and the words of the code.
use Rattle.std.specs.Prelude.{◌≡◌, ◌≤◌, ℕ, List, [], ◌∷◌}
use Rattle.serde_json.specs.View.{view}
use Rattle.text_json.specs.declared.shown.line.Line.{Line as Made}
use Rattle.text_json.specs.declared.shown.words.Word.{Word}
use Rattle.text_json.specs.Shown.Lines.{Line, Placed}

abbrev pub line_view : Made → Line
line_view l = record {
  indent = l.indent;
  name = view l.name;
  kind = view l.kind;
  value = view l.value;
  offset = l.offset;
}

abbrev pub placed_of : Word → Placed
placed_of w = record { indent = w.indent; word = view w.value }

-- the first word, if there is one, isn't deeper than a line with this indent
abbrev pub IsFirstBeside : ℕ → List Word → Type 0
IsFirstBeside n [] = Unit {0}
IsFirstBeside n (w ∷ words) = w.indent ≤ n

-- no first word is deeper, so none is taken
abbrev pub IsNoneDeeper : ℕ → List Word → List Word → Type 0
IsNoneDeeper n old new = (new ≡ old) × IsFirstBeside n old
