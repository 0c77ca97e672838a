-- What RFC 5280 asks of the qualifiers of policies (4.2.1.4, with RFC 6818 3).
use Rattle.std.specs.Prelude.{◌≡◌, ◌≢◌, ℕ, ◌<◌, ◌%◌, ◌⊎◌, false, IfSome, Option, Some, None, List, length}
use Rattle.std.specs.Option.{IsSomeAnd}
use Rattle.der_base.specs.declared.header.Class.TheVariants.{Universal}
use Rattle.der_base.specs.Text.{IsTextOf, IsUtf16}
use Rattle.der_cursor.specs.Formats.{Element, Field, Required}
use Rattle.der_extensions.specs.Extensions.{PolicyQualifierInfo, PolicyValue, QualifierValue}
use Rattle.der_extensions.specs.Notices.{IsUserNotice, NoticeValue, user_notice}
use Rattle.x509_value_rules.specs.declared.notices.NoticeRule.{NoticeRule}
use Rattle.x509_value_rules.specs.declared.notices.NoticeRule.TheVariants.{NoIa5Text, NoReference, TextSize, Utf8Text}
use Rattle.x509_value_rules.specs.declared.notices.QualifierRule.{QualifierRule}
use Rattle.x509_value_rules.specs.declared.notices.QualifierRule.TheVariants.{Notice, NoticeOfType, PointerOfType}
use Rattle.x509_rule_facts.specs.Attributes.{character_count}
use Rattle.x509_rule_facts.specs.Lists.{Among}
use Rattle.x509_value_rules.specs.Policies.{cps}

-- a field of which P holds, too
unfoldable pub Kept : {V : Type 0} → (V → Type 0) → Field V → Field V
Kept P F r i v rest = F r i v rest × P v

-- UTF8String, IA5String and VisibleString
abbrev pub IsKeptText : ℕ → Type 0
IsKeptText t = (t ≡ 12) ⊎ (t ≡ 22) ⊎ (t ≡ 26)

-- the octets are characters of one of these types, or of BMPString
abbrev pub IsDisplayString : ℕ → List ℕ → Type 0
IsDisplayString t w = (IsKeptText t × IsTextOf t w) ⊎ ((t ≡ 30) × (length w % 2 ≡ 0) × IsUtf16 w)

abbrev pub IsPrimitiveType : Element → Type 0
IsPrimitiveType e = (e.0 ≡ Universal) × (e.1 ≡ false)

abbrev pub IsDisplayText : Element → Type 0
IsDisplayText e = IsPrimitiveType e × IsDisplayString e.2 e.3

-- The texts are DisplayTexts: CHOICE { ia5String IA5String, visibleString VisibleString, bmpString BMPString,
-- utf8String UTF8String }, each of SIZE (1..200), which is a rule of its own here.
abbrev pub HasDisplayTexts : NoticeValue → Type 0
HasDisplayTexts v = IfSome v.0 (λ r. IsDisplayText r.0) × IfSome v.1.0 IsDisplayText

-- CPSuri ::= IA5String
abbrev pub IsPointer : Element → Type 0
IsPointer e = (e.0 ≡ Universal) × (e.1 ≡ false) × (e.2 ≡ 22) × IsTextOf 22 e.3

-- not 1 to 200 characters
abbrev pub IsOddSize : Element → Type 0
IsOddSize e = (character_count e.2 e.3 ≡ 0) ⊎ (200 < character_count e.2 e.3)

-- the user notice breaks the rule
abbrev pub BreaksNotice : NoticeRule → NoticeValue → Type 0
BreaksNotice TextSize v = IsSomeAnd v.1.0 IsOddSize ⊎ IsSomeAnd v.0 (λ r. IsOddSize r.0)
BreaksNotice NoIa5Text v = IsSomeAnd v.1.0 (λ t. t.2 ≡ 22)
BreaksNotice Utf8Text v = IsSomeAnd v.1.0 (λ t. t.2 ≢ 12)
BreaksNotice NoReference v = v.0 ≢ None

-- a notice of the right type does
abbrev pub IsBrokenNotice : NoticeRule → NoticeValue → Type 0
IsBrokenNotice r v = HasDisplayTexts v × BreaksNotice r v

-- the qualifier breaks the rule
abbrev pub BreaksQualifier : QualifierRule → QualifierValue → Type 0
BreaksQualifier PointerOfType q = (q.0 ≡ cps) × (¬ IsPointer q.1.0)
BreaksQualifier NoticeOfType q =
    (q.0 ≡ user_notice) × (¬ ((v : NoticeValue) × IsUserNotice q.1.0 v × HasDisplayTexts v))
BreaksQualifier (Notice r) q = (q.0 ≡ user_notice) × ((v : NoticeValue) × IsUserNotice q.1.0 v × IsBrokenNotice r v)

-- one of the qualifiers does, if there are any
abbrev pub HasBrokenQualifier : QualifierRule → Option (List ℕ) → Type 0
HasBrokenQualifier r None = ⊥
HasBrokenQualifier r (Some w) = Among (Required PolicyQualifierInfo) (BreaksQualifier r) w

-- one of the policy does
abbrev pub IsBadlyQualified : QualifierRule → PolicyValue → Type 0
IsBadlyQualified r v = HasBrokenQualifier r v.1.0

-- a qualifier that isn't a CPS pointer of its type
abbrev pub IsRemark : QualifierValue → Type 0
IsRemark q = (q.0 ≢ cps) ⊎ (¬ IsPointer q.1.0)

-- one of the qualifiers is such a one, if there are any
abbrev pub IsRemarked : Option (List ℕ) → Type 0
IsRemarked None = ⊥
IsRemarked (Some w) = Among (Required PolicyQualifierInfo) IsRemark w

abbrev pub HasRemark : PolicyValue → Type 0
HasRemark v = IsRemarked v.1.0
