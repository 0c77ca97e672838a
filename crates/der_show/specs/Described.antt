-- The summary of octets.
use Rattle.std.specs.Prelude.{◌≡◌, ◌⊎◌, ◌↔◌, IsTrue, true, ℕ, Option, Some, None, List}
use Rattle.der_known.specs.declared.known.KnownTypes.{KnownTypes}
use Rattle.der_known.specs.Tables.{AreKnown}
use Rattle.der_show.specs.declared.known.Known.{Known}
use Rattle.der_show.specs.declared.words.Words.{Words}
use Rattle.der_show.specs.Fields.{IsByFields}
use Rattle.der_show.specs.Known.{IsKnown, KeepsRules}
use Rattle.der_show.specs.Messages.{IsKeyText, IsMessage, ◌⊳◌}
use Rattle.der_show.specs.Shown.{IsShown}

-- there is a summary, that of what was read from i
abbrev pub AreWordsOf : Option ℕ → List ℕ → Known → Option Words → Type 0
AreWordsOf now i known (Some w) = IsShown now i known w.text.items × (w.words_at ≡ 0)
    × (IsTrue w.keeps_rules ↔ KeepsRules known) × (w.by_type ≡ None)
AreWordsOf now i known None = ⊥

-- the summary of the message that octets are, or else that by the first type that the octets have
abbrev pub AreTypedWords : Option ℕ → KnownTypes → List ℕ → Option Words → Type 0
AreTypedWords now types = IsMessage types ⊳ IsByFields now types

-- the summary of the key that octets are, which has no rules beyond its ASN.1, or else of another thing
abbrev pub AreOtherWords : Option ℕ → KnownTypes → List ℕ → Option Words → Type 0
AreOtherWords now types i (Some w) =
    (IsKeyText i (Some w.text.items) × (w.words_at ≡ 0) × (w.keeps_rules ≡ true) × (w.by_type ≡ None))
    ⊎ (IsKeyText i None × AreTypedWords now types i (Some w))
AreOtherWords now types i None = IsKeyText i None × AreTypedWords now types i None

-- the summary of the certificate, CRL or certification request that i is, or else of the key, the message or the known
-- type
abbrev pub IsDescribed : Option ℕ → List ℕ → Option Words → Type 0
IsDescribed now i words = ((known : Known) × IsKnown i (Some known) × AreWordsOf now i known words)
    ⊎ (IsKnown i None × (types : KnownTypes) × AreKnown types × AreOtherWords now types i words)
