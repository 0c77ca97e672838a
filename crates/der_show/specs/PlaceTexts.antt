-- The position of an element in a type, as text.
use Rattle.std.specs.Prelude.{◌≡◌, ℕ, Option, Some, None, List, [], ◌++◌, codes}
use Rattle.std.specs.Option.{option_map}
use Rattle.extension_text.specs.Names.Identifiers.{IsIdentifier}
use Rattle.extension_text.specs.Names.Pieces.{Exactly, ◌⨾◌}
use Rattle.der_schema.specs.NamePaths.{name_path_text}
use Rattle.der_show.specs.declared.place.Place.{Place}

-- the extension, by the name and the arcs of its identifier
abbrev pub IsExtensionText : List ℕ → List ℕ → Type 0
IsExtensionText w text = (id : List ℕ) × IsIdentifier w id × (text ≡ codes " of " ++ id)

abbrev pub IsOptionalExtension : Option (List ℕ) → List ℕ → Type 0
IsOptionalExtension (Some w) = IsExtensionText w
IsOptionalExtension None = Exactly []

-- the path to the element, and its extension
abbrev pub IsPathText : Place → List ℕ → Type 0
IsPathText p = Exactly (name_path_text p.path.steps.items)
    ⨾ IsOptionalExtension (option_map (λ w. w.now) p.extension)
