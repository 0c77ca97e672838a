-- Octets of a known type, with the names of their fields.
use Rattle.std.specs.Prelude.{◌≡◌, ◌⊎◌, ◌↔◌, ℕ, Bool, true, false, IsTrue, MatchBool, ◌&&◌, Option, Some, None}
use Rattle.std.specs.Prelude.{List, [], ◌∷◌, ◌++◌, codes, length}
use Rattle.der_base.specs.declared.rules.Rules.TheVariants.{Ber}
use Rattle.text_json.specs.Fields.Secrets.{IsSecret, secret_text}
use Rattle.der_known.specs.declared.known.KnownTypes.{KnownTypes}
use Rattle.der_print.specs.Lines.{IsFieldLine, content_in}
use Rattle.der_schema.specs.declared.schema.Schema.{Schema}
use Rattle.der_schema.specs.Known.{IsFirstSchema, IsKnownType, IsOfType, all_extras}
use Rattle.der_schema.specs.Meaning.{all_types, root_of}
use Rattle.der_elements.specs.Visits.{Visited, Visits}
use Rattle.der_show.specs.declared.known.Known.{Known}
use Rattle.der_show.specs.declared.words.Words.{Words}
use Rattle.der_show.specs.ByTypes.{AreLinesAlone, AreTypeWords, IsInWords, has_title}
use Rattle.der_show.specs.InWords.{octets_in}
use Rattle.der_show.specs.Known.{IsKnown, KeepsRules}
use Rattle.der_show.specs.Leaves.{IsInLeaf, field_of, fields_style, leaf_line, words_text}
use Rattle.der_show.specs.Shown.{IsShown}

-- what is written for elements: their lines, the summaries of those that are certificates, CRLs or certification
-- requests, and whether these keep all rules
pub record Said : Type 0 where
  pub lines : List ℕ
  pub words : List ℕ
  pub keeps_rules : Bool

-- only lines
abbrev pub lines_alone : List ℕ → Said
lines_alone text = record { lines = text; words = []; keeps_rules = true }

-- what is written first, and then
abbrev pub joined : Said → Said → Said
joined a b = record {
  lines = a.lines ++ b.lines;
  words = a.words ++ b.words;
  keeps_rules = a.keeps_rules && b.keeps_rules;
}

-- what is written for an element after others of an input: nothing inside a leaf, no value of a secret one, a summary,
-- or its line with the name of its field
pub data IsSaid (now : Option ℕ) (sc : Schema) (i : List ℕ) (before : List Visited) (v : Visited) : Said → Type 0 where
  in_leaf : {s : Said} → IsInLeaf sc i before v → s ≡ lines_alone [] → IsSaid now sc i before v s
  secret : {s : Said} → ¬ IsInLeaf sc i before v → IsSecret (root_of sc) i before v
      → s ≡ lines_alone (leaf_line secret_text (field_of sc i before v) v) → IsSaid now sc i before v s
  in_words : {s : Said} (known : Known) → ¬ IsInLeaf sc i before v → ¬ IsSecret (root_of sc) i before v
      → IsKnown (octets_in i v) (Some known) → s.lines ≡ leaf_line words_text (field_of sc i before v) v
      → IsShown now (octets_in i v) known s.words → IsTrue s.keeps_rules ↔ KeepsRules known
      → IsSaid now sc i before v s
  plain : {s : Said} (line : List ℕ) → ¬ IsInLeaf sc i before v → ¬ IsSecret (root_of sc) i before v
      → IsKnown (octets_in i v) None → IsFieldLine (field_of sc i before v) fields_style v (content_in i v) line
      → s ≡ lines_alone line → IsSaid now sc i before v s

-- what is written for the first elements of an input, in order
pub data AreShown (now : Option ℕ) (sc : Schema) (i : List ℕ) : List Visited → Said → Type 0 where
  none_said : {vs : List Visited} {s : Said} → vs ≡ [] → s ≡ lines_alone [] → AreShown now sc i vs s
  one_more : {vs : List Visited} {s : Said} (before : List Visited) (v : Visited) (first last : Said)
      → vs ≡ before ++ v ∷ [] → AreShown now sc i before first → IsSaid now sc i before v last
      → s ≡ joined first last → AreShown now sc i vs s

-- The text for octets that have a type by BER: its name, the lines of their elements, and then the summaries of those
-- that are certificates, CRLs or certification requests. The rules are those of these elements.
pub record AreWordsByFields (now : Option ℕ) (sc : Schema) (i : List ℕ) (w : Words) : Type 0 where
  pub elements : List Visited
  pub visits : Visits all_extras Ber 101 0 0 i elements
  pub said : Said
  pub are_shown : AreShown now sc i elements said
  pub whole : w.text.items ≡ (sc.name.now ++ codes "\n" ++ said.lines) ++ said.words
  pub start : w.words_at ≡ length (sc.name.now ++ codes "\n" ++ said.lines)
  pub rules : w.keeps_rules ≡ said.keeps_rules
  pub by_type : w.by_type ≡ None

-- the first of some types that octets have by BER; None if they have none
abbrev pub IsTypeOf : KnownTypes → List ℕ → Option Schema → Type 0
IsTypeOf types i found =
    let ts = all_types types.types in IsFirstSchema (IsKnownType ts Ber i) types.known.now ts found

-- the types that are only shown by their readers, which read DER: a certificate, CRL or certification request that
-- isn't DER breaks a rule, and private keys are secret
abbrev pub IsReadAlone : List ℕ → Type 0
IsReadAlone name = (name ≡ codes "Certificate") ⊎ (name ≡ codes "CertificateList")
    ⊎ (name ≡ codes "CertificationRequest") ⊎ (name ≡ codes "PrivateKeyInfo") ⊎ (name ≡ codes "RSAPrivateKey")
    ⊎ (name ≡ codes "ECPrivateKey")

-- the words of the type, or its fields
abbrev pub AreWordsOfType : Option ℕ → Schema → List ℕ → Words → Type 0
AreWordsOfType now sc i w = (IsInWords sc × AreTypeWords sc i w) ⊎ ((¬ IsInWords sc) × AreWordsByFields now sc i w)

-- the words of the type, if they begin with a title, or its fields
abbrev pub AreWordsAs : Option ℕ → Schema → List ℕ → Words → Type 0
AreWordsAs now sc i w = MatchBool (has_title sc.components.now) (AreLinesAlone sc i w) (AreWordsByFields now sc i w)

-- the text for octets by this type, if they have it
abbrev pub IsShownAs : Option ℕ → Schema → List ℕ → Option Words → Type 0
IsShownAs now sc i (Some w) = IsOfType (root_of sc) Ber i × AreWordsAs now sc i w
IsShownAs now sc i None = ¬ IsOfType (root_of sc) Ber i

-- the text for octets by that type, if there is one that isn't only shown by its reader
abbrev pub IsByFields : Option ℕ → KnownTypes → List ℕ → Option Words → Type 0
IsByFields now types i (Some w) = (sc : Schema) × IsTypeOf types i (Some sc) × (¬ IsReadAlone sc.name.now)
    × AreWordsOfType now sc i w
IsByFields now types i None = IsTypeOf types i None
    ⊎ ((sc : Schema) × IsTypeOf types i (Some sc) × IsReadAlone sc.name.now)
