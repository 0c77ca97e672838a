-- The private functions that write the lines of a type.
use Rattle.std.specs.Prelude.{◌≡◌, ◌↔◌, ℕ, Bool, true, false, IsTrue, ◌&&◌, Option, None, Some}
use Rattle.std.specs.Prelude.{List, ◌++◌, length}
use Rattle.text_json.specs.Fields.Secrets.{is_inside, secret_text}
use Rattle.der_print.specs.Lines.{IsFieldLine}
use Rattle.der_print.specs.Texts.{content_of}
use Rattle.der_schema.specs.declared.schema.Schema.{Schema}
use Rattle.der_elements.specs.declared.element.Element.{Element}
use Rattle.der_elements.specs.Visits.{Visited}
use Rattle.der_elements.specs.Walked.{visited_of}
use Rattle.der_show.specs.declared.field_lines.Written.{Written}
use Rattle.der_show.specs.declared.known.Known.{Known}
use Rattle.der_show.specs.declared.manner.Manner.{Manner}
use Rattle.der_show.specs.declared.manner.Manner.TheVariants.{InLeaf, InWords, Plain, Secret}
use Rattle.der_show.specs.declared.words.Words.{Words}
use Rattle.der_show.specs.Fields.{AreShown, Said}
use Rattle.der_show.specs.InWords.{octets_in}
use Rattle.der_show.specs.Known.{IsKnown, KeepsRules}
use Rattle.der_show.specs.Leaves.{fields_style, leaf_line, words_text}
use Rattle.der_show.specs.Shown.{IsShown}

-- the manner for an element of an input, which is secret or not, if the walk is in this leaf
abbrev pub IsManner : Option ℕ → List ℕ → Element → Bool → Manner → Type 0
IsManner leaf i e secret InLeaf = is_inside leaf e.depth ≡ true
IsManner leaf i e secret Secret = (is_inside leaf e.depth ≡ false) × (secret ≡ true)
IsManner leaf i e secret (InWords w known) = (is_inside leaf e.depth ≡ false) × (secret ≡ false)
    × (w.now ≡ octets_in i (visited_of e)) × IsKnown (octets_in i (visited_of e)) (Some known)
IsManner leaf i e secret Plain = (is_inside leaf e.depth ≡ false) × (secret ≡ false)
    × IsKnown (octets_in i (visited_of e)) None

-- the leaf that the walk is in after an element at this depth
abbrev pub leaf_past : Manner → Option ℕ → ℕ → Option ℕ
leaf_past InLeaf leaf depth = leaf
leaf_past Secret leaf depth = Some depth
leaf_past (InWords w known) leaf depth = Some depth
leaf_past Plain leaf depth = None

-- the output grew by a line
pub record AddsLine (line : List ℕ) (old new : Written) : Type 0 where
  pub lines : new.lines.items ≡ old.lines.items ++ line
  pub words : new.words.items ≡ old.words.items
  pub keeps : new.keeps_rules ≡ old.keeps_rules

-- the output grew by the summary of the octets w
pub record AddsWords (now : Option ℕ) (w : List ℕ) (known : Known) (old new : Written) : Type 0 where
  pub text : List ℕ
  pub is_shown : IsShown now w known text
  pub words : new.words.items ≡ old.words.items ++ text
  pub keeps_rules : Bool
  pub rules : IsTrue keeps_rules ↔ KeepsRules known
  pub keeps : new.keeps_rules ≡ old.keeps_rules && keeps_rules
  pub lines : new.lines.items ≡ old.lines.items

-- the output grew by what is written for an element in this manner
abbrev pub AddsShown : Option ℕ → Manner → List ℕ → Element → Written → Written → Type 0
AddsShown now InLeaf field e old new = new ≡ old
AddsShown now Secret field e old new = AddsLine (leaf_line secret_text field (visited_of e)) old new
AddsShown now (InWords w known) field e old new = (mid : Written)
    × AddsLine (leaf_line words_text field (visited_of e)) old mid × AddsWords now w.now known mid new
AddsShown now Plain field e old new = (line : List ℕ)
    × IsFieldLine field fields_style (visited_of e) (content_of e) line × AddsLine line old new

-- the output grew by these lines and summaries
pub record Adds (s : Said) (old new : Written) : Type 0 where
  pub lines : new.lines.items ≡ old.lines.items ++ s.lines
  pub words : new.words.items ≡ old.words.items ++ s.words
  pub keeps : new.keeps_rules ≡ old.keeps_rules && s.keeps_rules

-- the output grew by what is written for all elements of an input
pub record AddsAll (now : Option ℕ) (sc : Schema) (i : List ℕ) (elements : List Visited) (old new : Written)
    : Type 0 where
  pub said : Said
  pub are_shown : AreShown now sc i elements said
  pub adds : Adds said old new

-- the text from the lines and the summaries after them
pub record AreWordsFrom (written : Written) (w : Words) : Type 0 where
  pub text : w.text.items ≡ written.lines.items ++ written.words.items
  pub start : w.words_at ≡ length written.lines.items
  pub keeps : w.keeps_rules ≡ written.keeps_rules
  pub by_type : w.by_type ≡ None
