-- The names of classes and of universal types, as they are printed.
use Rattle.std.specs.Prelude.{ℕ, ◌==◌, if◌then◌else◌, Option, Some, None, List, [], ◌∷◌, ◌++◌, codes, decimal}
use Rattle.std.specs.Option.{unwrap_or}
use Rattle.der_base.specs.declared.header.Class.{Class}
use Rattle.der_base.specs.declared.header.Class.TheVariants.{Universal, Application, ContextSpecific, Private}

-- the name beside a number in a table
abbrev pub name_at : List (ℕ × List ℕ) → ℕ → Option (List ℕ)
name_at [] k = None
name_at (r ∷ rs) k = if k == r.0 then Some r.1 else name_at rs k

abbrev pub class_name : Class → List ℕ
class_name Universal = codes "UNIVERSAL"
class_name Application = codes "APPLICATION"
class_name ContextSpecific = codes "CONTEXT-SPECIFIC"
class_name Private = codes "PRIVATE"

-- the universal types (X.680 8.4, table 1)
abbrev pub type_names : List (ℕ × List ℕ)
type_names =
    (0, codes "EndOfContent")
    ∷ (1, codes "Boolean")
    ∷ (2, codes "Integer")
    ∷ (3, codes "BitString")
    ∷ (4, codes "OctetString")
    ∷ (5, codes "Null")
    ∷ (6, codes "Oid")
    ∷ (7, codes "ObjectDescriptor")
    ∷ (8, codes "External")
    ∷ (9, codes "RealType")
    ∷ (10, codes "Enumerated")
    ∷ (11, codes "EmbeddedPdv")
    ∷ (12, codes "Utf8String")
    ∷ (13, codes "RelativeOid")
    ∷ (16, codes "Sequence")
    ∷ (17, codes "Set")
    ∷ (18, codes "NumericString")
    ∷ (19, codes "PrintableString")
    ∷ (20, codes "TeletexString")
    ∷ (21, codes "VideotexString")
    ∷ (22, codes "Ia5String")
    ∷ (23, codes "UtcTime")
    ∷ (24, codes "GeneralizedTime")
    ∷ (25, codes "GraphicString")
    ∷ (26, codes "VisibleString")
    ∷ (27, codes "GeneralString")
    ∷ (28, codes "UniversalString")
    ∷ (30, codes "BmpString") ∷ []

-- the name of a universal type, or Tag and its number
abbrev pub type_name : ℕ → List ℕ
type_name n = unwrap_or (name_at type_names n) (codes "Tag(" ++ decimal n ++ codes ")")
