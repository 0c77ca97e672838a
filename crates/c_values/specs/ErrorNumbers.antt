-- The numbers of errors. An error's number does not have the values that it keeps, such as a tag.
use Rattle.std.specs.Prelude.{ℕ, Result, Ok, Err}
use Rattle.der_base.specs.declared.error.DerConstraint.{DerConstraint}
use Rattle.der_base.specs.declared.error.DerConstraint.TheVariants as constraints
use Rattle.der_base.specs.declared.error.Error.{Error as BerError}
use Rattle.der_base.specs.Refusal.{Refusal, refusal, wrong_type, wrong_value, max_depth, invalid_length, invalid_tag}
use Rattle.der_base.specs.Refusal.{unknown_tag, unexpected_tag, unexpected_class, construct_expected}
use Rattle.der_base.specs.Refusal.{construct_unexpected, integer_too_large, integer_negative, invalid_value}
use Rattle.der_base.specs.Refusal.{invalid_charset, invalid_date_time, unsupported, der_constraint, incomplete}
use Rattle.der_base.specs.Refusal.{parser_fault}
use Rattle.der_contents.specs.declared.content_error.ContentError.{ContentError}
use Rattle.der_contents.specs.declared.content_error.ContentError.TheVariants as contents
use Rattle.der_input.specs.declared.error.FormError.{FormError}
use Rattle.der_input.specs.declared.error.FormError.TheVariants as forms
use Rattle.der_elements.specs.declared.cause.Cause.{Cause}
use Rattle.der_elements.specs.declared.cause.Cause.TheVariants as causes
use Rattle.x509.specs.declared.rules.Rule.{Rule}
use Rattle.x509.specs.declared.rules.Rule.TheVariants as rules

-- of a rule of DER beyond those of BER
abbrev pub constraint_number : DerConstraint → ℕ
constraint_number constraints.IndefiniteLength = 32
constraint_number constraints.LengthNotMinimal = 33
constraint_number constraints.Constructed = 34
constraint_number constraints.InvalidBoolean = 35
constraint_number constraints.IntegerEmpty = 36
constraint_number constraints.IntegerLeadingZeroes = 37
constraint_number constraints.IntegerLeadingFF = 38
constraint_number constraints.MissingTimeZone = 39
constraint_number constraints.MissingSeconds = 40
constraint_number constraints.FractionNotMinimal = 41
constraint_number constraints.UnusedBitsNotZero = 42
constraint_number constraints.SetOfOrder = 43

abbrev pub refusal_number : Refusal → ℕ
refusal_number wrong_type = 1
refusal_number wrong_value = 2
refusal_number max_depth = 3
refusal_number invalid_length = 4
refusal_number invalid_tag = 5
refusal_number (unknown_tag n) = 6
refusal_number (unexpected_tag e a) = 7
refusal_number (unexpected_class e a) = 8
refusal_number construct_expected = 9
refusal_number construct_unexpected = 10
refusal_number integer_too_large = 11
refusal_number integer_negative = 12
refusal_number (invalid_value t m) = 13
refusal_number invalid_charset = 14
refusal_number invalid_date_time = 15
refusal_number unsupported = 16
refusal_number (incomplete n) = 17
refusal_number (parser_fault k) = 18
refusal_number (der_constraint k) = constraint_number k

-- 0, or the number of the error
abbrev pub number_of_result : {V : Type 0} → Result V BerError → ℕ
number_of_result (Ok v) = 0
number_of_result (Err e) = refusal_number (refusal e)

-- of a rule that content octets break
abbrev pub content_number : ContentError → ℕ
content_number contents.BooleanLength = 64
content_number contents.BooleanValue = 65
content_number contents.NumberEmpty = 66
content_number contents.NumberPadded = 67
content_number contents.UnusedBitsMissing = 68
content_number contents.UnusedBitsAboveSeven = 69
content_number contents.UnusedBitsOfNone = 70
content_number contents.UnusedBitsNotZero = 71
content_number contents.NullNotEmpty = 72
content_number contents.IdentifierEmpty = 73
content_number contents.ArcOpen = 74
content_number contents.ArcPadded = 75
content_number contents.RealBaseReserved = 76
content_number contents.RealExponentMissing = 77
content_number contents.RealMantissaMissing = 78
content_number contents.RealExponentPadded = 79
content_number contents.RealBaseOrScale = 80
content_number contents.RealExponentNotFewest = 81
content_number contents.RealMantissaNotFewest = 82
content_number contents.RealSpecial = 83
content_number contents.RealDecimal = 84
content_number contents.RealDecimalNotStrict = 85
content_number contents.NotUtf8 = 86
content_number contents.CharacterOutside = 87
content_number contents.UniversalStringLength = 88
content_number contents.BmpStringLength = 89
content_number contents.TimeText = 90
content_number contents.TimeNotInZ = 91
content_number contents.TimeWithoutSeconds = 92
content_number contents.TimeComma = 93
content_number contents.TimeLastZero = 94
content_number contents.SequencePrimitive = 95
content_number contents.SetPrimitive = 96
content_number contents.EmbeddedPdvPrimitive = 97
content_number contents.ExternalPrimitive = 98
content_number contents.CharacterStringPrimitive = 99

-- Of the cause of a fault. An input that is cut short is no error.
abbrev pub cause_number : Cause → ℕ
cause_number (causes.Cut n) = 0
cause_number (causes.PastEnd n) = 17
cause_number causes.NoEndMarker = 48
cause_number causes.EndMarker = 49
cause_number (causes.Header e) = refusal_number (refusal e)
cause_number (causes.Value e) = content_number e
cause_number causes.Constructed = 10
cause_number causes.ConstructedString = 34
cause_number causes.OtherPart = 50
cause_number causes.UnusedBitsInside = 51
cause_number causes.NotDer = 52
cause_number causes.TooDeep = 3

-- of a rule that a certificate breaks
abbrev pub rule_number : Rule → ℕ
rule_number rules.SameAlgorithms = 128
rule_number rules.PositiveSerialNumber = 129
rule_number rules.ShortSerialNumber = 130
rule_number rules.NamedIssuer = 131
rule_number rules.OrderedAttributes = 132
rule_number rules.UtcTimeTo2049 = 133
rule_number rules.WholeSeconds = 134
rule_number rules.UniqueIdVersion = 135
rule_number rules.ExtensionsVersion = 136
rule_number rules.DistinctExtensions = 137
rule_number rules.NamedSubject = 138
rule_number rules.DerValues = 139

-- of a text without a block of PEM, or with one that isn't read; the others are none of those
abbrev pub form_number : FormError → ℕ
form_number forms.NoBlock = 192
form_number forms.NoEnd = 193
form_number forms.LabelsDiffer = 194
form_number forms.Encrypted = 195
form_number (forms.Base64 fault) = 196
form_number forms.OutOfMemory = 197
form_number forms.Hex = 0
form_number (forms.LooksLike kind) = 0
