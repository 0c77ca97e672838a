-- Identifiers by their names.
use Rattle.std.specs.Prelude.{◌≡◌, ℕ, false, Option, Some, None, IfSome, List, ◌++◌, codes}
use Rattle.der_print.specs.Values.{IsNameOf, identifier_text}
use Rattle.extension_text.specs.Names.Pieces.{Exactly, ◌⨾◌}

-- an identifier with these content octets, by its name and its arcs
abbrev pub text_with_name : Option (List ℕ) → List ℕ → List ℕ
text_with_name (Some name) w = name ++ (codes " (" ++ (identifier_text false w ++ codes ")"))
text_with_name None w = identifier_text false w

-- the name is one of the table, and may be left out
abbrev pub IsIdentifier : List ℕ → List ℕ → Type 0
IsIdentifier w text = (name : Option (List ℕ)) × IfSome name (IsNameOf w) × (text ≡ text_with_name name w)

abbrev pub IsIdentifierLine : List ℕ → List ℕ → List ℕ → Type 0
IsIdentifierLine label w = Exactly label ⨾ (IsIdentifier w ⨾ Exactly (codes "\n"))
