-- Notices to users in qualifiers of policies (RFC 5280 4.2.1.4), in words.
use Rattle.std.specs.Prelude.{◌≡◌, ◌≢◌, ℕ, ◌⊎◌, Option, Some, None, List, [], ◌++◌, codes, MatchOption}
use Rattle.std.specs.Borrow.{Bor}
use Rattle.der_base.specs.declared.rules.Rules.TheVariants.{Der}
use Rattle.der_cursor.specs.Formats.{Element, Integer, Required}
use Rattle.der_extensions.specs.Extensions.{QualifierValue}
use Rattle.der_extensions.specs.Lists.{BeginsWith, BeginsWithNone}
use Rattle.der_extensions.specs.Notices.{IsUserNotice, NoticeValue, ReferenceValue, user_notice}
use Rattle.extension_text.specs.Names.Pieces.{Each, Exactly, Then}
use Rattle.extension_text.specs.Names.Values.{any_text, line, number_line, optional_any}

-- the numbers, as far as the octets are INTEGERs
abbrev pub IsNumber : List ℕ → List ℕ → Type 0
IsNumber w = Exactly (number_line (codes "          Number: ") w)

abbrev pub AreNumbers : List ℕ → List ℕ → Type 0
AreNumbers i = Each (Required Integer Der) IsNumber i

-- the INTEGER that octets begin with, and what follows it; None where they begin with none
abbrev pub FindsNumber : List ℕ → Option (Bor (List ℕ) × Bor (List ℕ)) → Type 0
FindsNumber i result = MatchOption result (BeginsWithNone (Required Integer) i)
    (λ x. BeginsWith (Required Integer) i x.0.now x.1.now)

abbrev pub IsReferenceText : ReferenceValue → List ℕ → Type 0
IsReferenceText r = Then (Exactly (line (codes "          Organization: ") (any_text r.0))) (AreNumbers r.1.0)

abbrev pub IsOptionalReference : Option ReferenceValue → List ℕ → Type 0
IsOptionalReference (Some r) = IsReferenceText r
IsOptionalReference None = Exactly []

abbrev pub IsNoticeText : NoticeValue → List ℕ → Type 0
IsNoticeText n = Then (Exactly (codes "\n"))
    (Then (IsOptionalReference n.0) (Exactly (optional_any (codes "          Explicit text: ") n.1.0)))

-- a value of any type
abbrev pub detail_text : Element → List ℕ
detail_text e = codes ", " ++ (any_text e ++ codes "\n")

-- a notice, or a value that is none
abbrev pub IsNoticeDetail : Element → List ℕ → Type 0
IsNoticeDetail e text = ((n : NoticeValue) × IsUserNotice e n × IsNoticeText n text)
    ⊎ (((n : NoticeValue) → ¬ IsUserNotice e n) × (text ≡ detail_text e))

-- what a qualifier says
abbrev pub IsDetail : QualifierValue → List ℕ → Type 0
IsDetail q text = ((q.0 ≡ user_notice) × IsNoticeDetail q.1.0 text)
    ⊎ ((q.0 ≢ user_notice) × (text ≡ detail_text q.1.0))
