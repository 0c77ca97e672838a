-- The rules of content octets as they are told.
use Rattle.std.specs.Prelude.{ℕ, List, ◌++◌, codes}
use Rattle.der_contents.specs.declared.content_error.ContentError.{ContentError}
use Rattle.der_contents.specs.declared.content_error.ContentError.TheVariants as errors

-- what was found, and the clause of X.690 (of 02/2021)
abbrev pub rule_text : ContentError → List ℕ × List ℕ
rule_text errors.BooleanLength = (codes "a BOOLEAN isn't one octet", codes "8.2.1")
rule_text errors.BooleanValue = (codes "a BOOLEAN is neither 00 nor ff", codes "11.1")
rule_text errors.NumberEmpty = (codes "a number has no octets", codes "8.3.1")
rule_text errors.NumberPadded = (codes "the first nine bits of a number are alike", codes "8.3.2")
rule_text errors.UnusedBitsMissing = (codes "a BIT STRING has no octets", codes "8.6.2.1")
rule_text errors.UnusedBitsAboveSeven = (codes "more than seven bits are unused", codes "8.6.2.2")
rule_text errors.UnusedBitsOfNone = (codes "a BIT STRING without bits has unused ones", codes "8.6.2.3")
rule_text errors.UnusedBitsNotZero = (codes "an unused bit isn't 0", codes "11.2.1")
rule_text errors.NullNotEmpty = (codes "a NULL has octets", codes "8.8.2")
rule_text errors.IdentifierEmpty = (codes "an identifier has no octets", codes "8.19.2, 8.20.2")
rule_text errors.ArcOpen = (codes "the last arc has no end", codes "8.19.2, 8.20.2")
rule_text errors.ArcPadded = (codes "an arc begins with 80", codes "8.19.2, 8.20.2")
rule_text errors.RealBaseReserved = (codes "the base of a REAL is a reserved one", codes "8.5.7.2")
rule_text errors.RealExponentMissing = (codes "a REAL has no exponent", codes "8.5.7.4")
rule_text errors.RealMantissaMissing = (codes "a REAL has no mantissa", codes "8.5.7.5")
rule_text errors.RealExponentPadded = (codes "the first nine bits of an exponent are alike", codes "8.5.7.4")
rule_text errors.RealBaseOrScale = (codes "a REAL has a base other than 2 or a scaling factor", codes "11.3.1")
rule_text errors.RealExponentNotFewest = (codes "an exponent isn't in its fewest octets", codes "11.3.1")
rule_text errors.RealMantissaNotFewest = (codes "a mantissa is even or begins with 00", codes "11.3.1")
rule_text errors.RealSpecial = (codes "a special value of a REAL isn't known", codes "8.5.9")
rule_text errors.RealDecimal = (codes "a decimal REAL isn't in its form of ISO 6093", codes "8.5.8")
rule_text errors.RealDecimalNotStrict = (codes "a decimal REAL has needless characters", codes "11.3.2")
rule_text errors.NotUtf8 = (codes "a text isn't UTF-8", codes "8.21, 8.22, 8.23.10")
rule_text errors.CharacterOutside = (codes "an octet is outside of the character set", codes "8.23")
rule_text errors.UniversalStringLength = (codes "a UniversalString isn't groups of four octets", codes "8.23.7")
rule_text errors.BmpStringLength = (codes "a BMPString isn't pairs of octets", codes "8.23.9")
rule_text errors.TimeText = (codes "a time isn't a text of its type", codes "8.25")
rule_text errors.TimeNotInZ = (codes "a time doesn't end in Z", codes "11.7.1, 11.8.1")
rule_text errors.TimeWithoutSeconds = (codes "a time has no seconds", codes "11.7.2, 11.8.2")
rule_text errors.TimeComma = (codes "a fraction has a comma", codes "11.7.4")
rule_text errors.TimeLastZero = (codes "a fraction ends in 0", codes "11.7.3")
rule_text errors.SequencePrimitive = (codes "a SEQUENCE is primitive", codes "8.9.1")
rule_text errors.SetPrimitive = (codes "a SET is primitive", codes "8.11.1")
rule_text errors.EmbeddedPdvPrimitive = (codes "an EMBEDDED PDV is primitive", codes "8.17")
rule_text errors.ExternalPrimitive = (codes "an EXTERNAL is primitive", codes "8.18.1")
rule_text errors.CharacterStringPrimitive = (codes "a CHARACTER STRING is primitive", codes "8.24")

abbrev pub content_error_text : ContentError → List ℕ
content_error_text e = (rule_text e).0 ++ codes " (X.690 " ++ (rule_text e).1 ++ codes ")"
