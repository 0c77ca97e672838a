-- User notices in qualifiers of policies, as their ASN.1 has them (RFC 5280 4.2.1.4).
use Rattle.std.specs.Prelude.{◌≡◌, ℕ, true, Option, List, [], ◌∷◌}
use Rattle.std.specs.Option.{option_map}
use Rattle.der_base.specs.declared.header.Class.TheVariants.{Universal}
use Rattle.der_base.specs.declared.rules.Rules.TheVariants.{Der}
use Rattle.der_cursor.specs.Formats.{AnyElement, Content, Element, End, Format, IfLeft, Octets, Optional}
use Rattle.der_cursor.specs.Formats.{Required, Sequence, element_of, ◌⨾◌}
use Rattle.der_extensions.specs.declared.user_notice.NoticeReference.{NoticeReference as ReferenceStruct}
use Rattle.der_extensions.specs.declared.user_notice.UserNotice.{UserNotice as NoticeStruct}

-- id-qt-unotice, 1.3.6.1.5.5.7.2.2
abbrev pub user_notice : List ℕ
user_notice = 0x2b ∷ 6 ∷ 1 ∷ 5 ∷ 5 ∷ 7 ∷ 2 ∷ 2 ∷ []

abbrev pub ReferenceValue : Type 0
ReferenceValue = Element × (List ℕ × Unit {0})

-- NoticeReference ::= SEQUENCE {                                        (4.2.1.4)
-- Which of its types a DisplayText is isn't asked.
abbrev pub NoticeReference : Format ReferenceValue
NoticeReference = Sequence (
    AnyElement  -- organization     DisplayText,
    ⨾ (Required (Sequence Octets)  -- noticeNumbers    SEQUENCE OF INTEGER }
    ⨾ End))

abbrev pub NoticeValue : Type 0
NoticeValue = Option ReferenceValue × (Option Element × Unit {0})

-- UserNotice ::= SEQUENCE {                                             (4.2.1.4)
abbrev pub UserNotice : Content NoticeValue
UserNotice = Optional NoticeReference  -- noticeRef        NoticeReference OPTIONAL,
    ⨾ (IfLeft AnyElement  -- explicitText     DisplayText OPTIONAL }
    ⨾ End)

abbrev pub reference_of : ReferenceStruct → ReferenceValue
reference_of x = (element_of x.organization, (x.numbers.now, tt))

abbrev pub notice_of : NoticeStruct → NoticeValue
notice_of x = (option_map reference_of x.reference, (option_map element_of x.explicit_text, tt))

abbrev pub IsSequence : Element → Type 0
IsSequence e = (e.0 ≡ Universal) × (e.1 ≡ true) × (e.2 ≡ 16)

-- the element is a UserNotice with these fields
abbrev pub IsUserNotice : Element → NoticeValue → Type 0
IsUserNotice e n = IsSequence e × UserNotice Der e.3 n
