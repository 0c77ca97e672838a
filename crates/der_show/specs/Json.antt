-- Summaries as JSON.
use Rattle.std.specs.Prelude.{◌≡◌, ℕ, Option, Some, None, List, drop, take}
use Rattle.std.specs.Option.{option_map}
use Rattle.der_base.specs.declared.rules.Rules.TheVariants.{Ber}
use Rattle.der_known.specs.declared.known.KnownTypes.{KnownTypes}
use Rattle.der_known.specs.Tables.{AreKnown}
use Rattle.der_schema.specs.declared.schema.Schema.{Schema}
use Rattle.der_schema.specs.Known.{IsFirstSchema}
use Rattle.der_schema.specs.Meaning.{all_types}
use Rattle.der_show.specs.declared.words.Words.{Words}
use Rattle.text_json.specs.declared.shown.object.Source.{Source}
use Rattle.text_json.specs.Shown.Items.{IsTypedText}
use Rattle.text_json.specs.Shown.Objects.{shown_text}

-- a summary, in which all values are texts, with the lines before it
abbrev pub text_json : Source → Words → List ℕ
text_json s w = shown_text s (take w.words_at w.text.items) (drop w.words_at w.text.items) w.keeps_rules

-- the words of octets by a type; without a type, those of the text
abbrev pub IsJsonBy : Source → List ℕ → Words → Option Schema → List ℕ → Type 0
IsJsonBy s i w (Some sc) text = IsTypedText s Ber sc i text
IsJsonBy s i w None text = text ≡ text_json s w

-- those by the known type with this name
abbrev pub IsNamedJson : Source → List ℕ → Words → List ℕ → List ℕ → Type 0
IsNamedJson s i w name text = (types : KnownTypes) × AreKnown types × (found : Option Schema)
    × IsFirstSchema (λ k. k.name.now ≡ name) types.known.now (all_types types.types) found
    × IsJsonBy s i w found text

abbrev pub IsJsonWith : Source → List ℕ → Words → Option (List ℕ) → List ℕ → Type 0
IsJsonWith s i w (Some name) text = IsNamedJson s i w name text
IsJsonWith s i w None text = text ≡ text_json s w

-- the summary of i
abbrev pub IsJson : Source → List ℕ → Words → List ℕ → Type 0
IsJson s i w text = IsJsonWith s i w (option_map (λ n. n.now) w.by_type) text
