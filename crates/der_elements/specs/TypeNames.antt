-- The names of types and tags, as ASN.1 writes them.
use Rattle.std.specs.Prelude.{ℕ, Option, None, List, [], ◌∷◌, ◌++◌, codes, decimal}
use Rattle.std.specs.Option.{unwrap_or}
use Rattle.der_base.specs.declared.header.Class.{Class}
use Rattle.der_base.specs.declared.header.Class.TheVariants.{Universal, Application, ContextSpecific, Private}
use Rattle.der_base.specs.Names.{name_at}

-- the universal types from NumericString on (X.680 8.4, table 1)
abbrev pub string_names : List (ℕ × List ℕ)
string_names =
    (18, codes "NumericString")
    ∷ (19, codes "PrintableString")
    ∷ (20, codes "T61String")
    ∷ (21, codes "VideotexString")
    ∷ (22, codes "IA5String")
    ∷ (23, codes "UTCTime")
    ∷ (24, codes "GeneralizedTime")
    ∷ (25, codes "GraphicString")
    ∷ (26, codes "VisibleString")
    ∷ (27, codes "GeneralString")
    ∷ (28, codes "UniversalString")
    ∷ (29, codes "CHARACTER STRING")
    ∷ (30, codes "BMPString")
    ∷ (31, codes "DATE")
    ∷ (32, codes "TIME-OF-DAY")
    ∷ (33, codes "DATE-TIME")
    ∷ (34, codes "DURATION")
    ∷ (35, codes "OID-IRI")
    ∷ (36, codes "RELATIVE-OID-IRI") ∷ []

-- all universal types
abbrev pub universal_names : List (ℕ × List ℕ)
universal_names =
    (0, codes "end-of-contents")
    ∷ (1, codes "BOOLEAN")
    ∷ (2, codes "INTEGER")
    ∷ (3, codes "BIT STRING")
    ∷ (4, codes "OCTET STRING")
    ∷ (5, codes "NULL")
    ∷ (6, codes "OBJECT IDENTIFIER")
    ∷ (7, codes "ObjectDescriptor")
    ∷ (8, codes "EXTERNAL")
    ∷ (9, codes "REAL")
    ∷ (10, codes "ENUMERATED")
    ∷ (11, codes "EMBEDDED PDV")
    ∷ (12, codes "UTF8String")
    ∷ (13, codes "RELATIVE-OID")
    ∷ (14, codes "TIME")
    ∷ (16, codes "SEQUENCE")
    ∷ (17, codes "SET") ∷ string_names

-- the name of a universal type, and none for another tag
abbrev pub known_text : Class → ℕ → Option (List ℕ)
known_text Universal n = name_at universal_names n
known_text Application n = None
known_text ContextSpecific n = None
known_text Private n = None

-- a tag
abbrev pub tag_text : Class → ℕ → List ℕ
tag_text Universal n = codes "[UNIVERSAL " ++ decimal n ++ codes "]"
tag_text Application n = codes "[APPLICATION " ++ decimal n ++ codes "]"
tag_text ContextSpecific n = codes "[" ++ decimal n ++ codes "]"
tag_text Private n = codes "[PRIVATE " ++ decimal n ++ codes "]"

-- the name of a universal type, or else the tag
abbrev pub type_text : Class → ℕ → List ℕ
type_text class n = unwrap_or (known_text class n) (tag_text class n)
