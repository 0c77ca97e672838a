-- Texts of identifiers and fields.
use Rattle.std.specs.Prelude.{◌≡◌, ℕ, false, IfSome, Option, Some, None, List, ◌++◌, codes}
use Rattle.std.specs.Option.{option_copied}
use Rattle.der_print.specs.Values.{IsNameOf, identifier_text}
use Rattle.certificate_text.specs.declared.identifier.NamedIdentifier.{NamedIdentifier}
use Rattle.type_words.specs.Texts.{text_of}

-- a name, if there is one, and the arcs of its identifier
abbrev pub text_with_name : Option (List ℕ) → List ℕ → List ℕ
text_with_name (Some name) arcs = name ++ codes " (" ++ arcs ++ codes ")"
text_with_name None arcs = arcs

-- an identifier by its name, if it has one, and its arcs
abbrev pub named_text : NamedIdentifier → List ℕ
named_text x = text_with_name (option_copied x.name) (identifier_text false x.octets.now)

-- the identifier with these content octets, and its name in the table if it has one there
pub record IsNamed (w : List ℕ) (x : NamedIdentifier) : Type 0 where
  pub octets : x.octets.now ≡ w
  pub name : IfSome x.name (λ name. IsNameOf w name.now)

-- the line of a field that is a text, after its label
abbrev pub field_text : List ℕ → List ℕ → List ℕ
field_text label w = codes "  " ++ label ++ codes ": " ++ text_of w ++ codes "\n"
