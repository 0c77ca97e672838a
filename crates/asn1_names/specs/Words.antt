-- Words that a comment says.
use Rattle.std.specs.Prelude.{◌≡◌, ℕ, Bool, true, false, ◌||◌, is_some, Option, Some, None, List, []}
use Rattle.std.specs.Borrow.{Bor}
use Rattle.asn1_names.specs.declared.comments.Said.{Said}
use Rattle.der_schema.specs.declared.words.Notation.{Notation}
use Rattle.der_schema.specs.declared.words.Notation.TheVariants.{NameOf, NumberOf, Silent}
use Rattle.der_schema.specs.declared.words.NumberName.{NumberName}
use Rattle.der_schema.specs.declared.words.Words.{Words}

-- a text that is said, or none
abbrev pub said_text : Option (Bor (List ℕ)) → List ℕ
said_text None = []
said_text (Some w) = w.now

-- a notation that is said, with these names of numbers; one that isn't said has no line
abbrev pub said_notation : Option Notation → Bor (List NumberName) → Notation
said_notation None names = Silent
said_notation (Some (NumberOf none)) names = NumberOf names
said_notation (Some (NameOf none)) names = NameOf names
said_notation (Some n) names = n

-- something is said besides secrecy
abbrev pub has_words : Said → Bool
has_words s = is_some s.label || is_some s.kind || is_some s.notation || s.heads

-- the words that are said
pub record AreWords (s : Said) (names : Bor (List NumberName)) (w : Words) : Type 0 where
  pub label : w.label.now ≡ said_text s.label
  pub kind : w.kind.now ≡ said_text s.kind
  pub notation : w.notation ≡ said_notation s.notation names
  pub heads : w.heads ≡ s.heads

abbrev pub IsSaid : Said → Bor (List NumberName) → Option Words → Type 0
IsSaid s names None = has_words s ≡ false
IsSaid s names (Some w) = (has_words s ≡ true) × AreWords s names w
