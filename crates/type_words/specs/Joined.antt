-- The texts of elements, with slashes between them.
use Rattle.std.specs.Prelude.{◌≡◌, ◌+◌, ◌<◌, ℕ, zero, suc, Option, List, [], ◌∷◌, ◌++◌, codes}
use Rattle.der_base.specs.declared.rules.Rules.TheVariants.{Ber}
use Rattle.der_elements.specs.declared.error.ElementError.{ElementError}
use Rattle.der_elements.specs.Visits.{Visited}
use Rattle.der_elements.specs.Walked.{index_in}
use Rattle.der_schema.specs.Encodings.{octets_at}
use Rattle.type_words.specs.Counts.{values_kept}
use Rattle.type_words.specs.Puts.{EndsWith}
use Rattle.type_words.specs.Texts.{text_of}

-- a text in quotes, after a slash if others are before it
abbrev pub part_text : ℕ → List ℕ → List ℕ
part_text zero w = text_of w
part_text (suc n) w = codes "/" ++ text_of w

-- the texts of the outermost of the elements that are visited in w
pub data AreTexts (w : List ℕ) : List Visited → List ℕ → Type 0 where
  no_texts : {vs : List Visited} {text : List ℕ} → vs ≡ [] → text ≡ [] → AreTexts w vs text
  outermost : {vs : List Visited} {text : List ℕ} (before : List Visited) (v : Visited) (texts : List ℕ)
      → vs ≡ before ++ v ∷ [] → AreTexts w before texts → v.depth ≡ 0
      → text ≡ texts ++ part_text (index_in 0 before) (octets_at w (v.offset + v.header) v.length)
      → AreTexts w vs text
  inner : {vs : List Visited} {text : List ℕ} (before : List Visited) (v : Visited)
      → vs ≡ before ++ v ∷ [] → AreTexts w before text → 0 < v.depth → AreTexts w vs text

-- those of the elements that w begins with
abbrev pub AreJoined : List ℕ → List ℕ → Type 0
AreJoined w text = (vs : List Visited) × (end : Option ElementError) × EndsWith values_kept Ber w vs end
    × AreTexts w vs text
