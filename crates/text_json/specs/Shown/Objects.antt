-- The summary of an input as a JSON object.
use Rattle.std.specs.Prelude.{ℕ, Bool, Option, List, codes, map}
use Rattle.std.specs.Option.{option_map}
use Rattle.std.specs.Str.Lines.{lines}
use Rattle.std.specs.Str.Lossy.{utf8_lossy}
use Rattle.serde_json.specs.Data.{Data, array, boolean, member, no_members, object, string}
use Rattle.serde_json.specs.View.{items_of}
use Rattle.serde_json.specs.Written.{compact_text}
use Rattle.text_json.specs.declared.shown.object.Source.{Source}
use Rattle.text_json.specs.Shown.Lines.{number_or_null, text_or_null, words_in}

abbrev pub label_of : Source → Data
label_of s = text_or_null (option_map (λ x. x.now) s.label)

-- The summary of octets: their source, the lines before the words, the words, and whether they keep the rules of RFC
-- 5280.
abbrev pub shown_members : Source → List Data → List Data → Bool → Data
shown_members s before words keeps_rules = object (member (codes "block") (number_or_null s.block)
    (member (codes "file") (string s.file.now) (member (codes "keeps_rules") (boolean keeps_rules)
    (member (codes "label") (label_of s) (member (codes "lines") (array (items_of before))
    (member (codes "words") (array (items_of words)) no_members))))))

-- Why octets are rejected: their source, the error, its offset, and the words that were read before it.
abbrev pub refused_members : Source → List ℕ → Option ℕ → List Data → Data
refused_members s error offset words = object (member (codes "block") (number_or_null s.block)
    (member (codes "error") (string error) (member (codes "file") (string s.file.now)
    (member (codes "label") (label_of s) (member (codes "offset") (number_or_null offset)
    (member (codes "words") (array (items_of words)) no_members))))))

-- the summary with these texts
abbrev pub shown_data : Source → List ℕ → List ℕ → Bool → Data
shown_data s before words keeps_rules =
    shown_members s (map string (lines (utf8_lossy before))) (words_in (utf8_lossy words)) keeps_rules

abbrev pub refused_data : Source → List ℕ → Option ℕ → List ℕ → Data
refused_data s error offset words = refused_members s error offset (words_in (utf8_lossy words))

-- these objects as JSON, without spaces
abbrev pub shown_text : Source → List ℕ → List ℕ → Bool → List ℕ
shown_text s before words keeps_rules = compact_text (shown_data s before words keeps_rules)

abbrev pub refused_text : Source → List ℕ → Option ℕ → List ℕ → List ℕ
refused_text s error offset words = compact_text (refused_data s error offset words)
