-- Universal tags (X.680 8.4, table 1), and how elements with them are encoded (X.690 8).
use Rattle.std.specs.Prelude.{ℕ}
use Rattle.asn1_modules.specs.declared.syntax.Kind.{Kind}
use Rattle.asn1_modules.specs.declared.syntax.Kind.TheVariants.{Simple, Integer, Enumerated, BitString, OctetString}
use Rattle.asn1_modules.specs.declared.syntax.Kind.TheVariants.{ObjectIdentifier, EmbeddedPdv, CharacterString}
use Rattle.asn1_modules.specs.declared.syntax.Kind.TheVariants.{Sequence, Set, Choice, SequenceOf, SetOf}
use Rattle.asn1_modules.specs.declared.syntax.Kind.TheVariants.{ComponentsOf, Extension, Additions}
use Rattle.asn1_modules.specs.declared.syntax.TagClass.{TagClass}
use Rattle.asn1_modules.specs.declared.syntax.TagClass.TheVariants as Written
use Rattle.asn1_modules.specs.declared.token.SimpleType.{SimpleType}
use Rattle.asn1_modules.specs.declared.token.SimpleType.TheVariants.{Boolean, Null, Real, External, RelativeOid, OidIri}
use Rattle.asn1_modules.specs.declared.token.SimpleType.TheVariants.{RelativeOidIri, Time, Date, TimeOfDay, DateTime}
use Rattle.asn1_modules.specs.declared.token.SimpleType.TheVariants.{Duration, UtcTime, GeneralizedTime}
use Rattle.asn1_modules.specs.declared.token.SimpleType.TheVariants.{ObjectDescriptor, Utf8String, NumericString}
use Rattle.asn1_modules.specs.declared.token.SimpleType.TheVariants.{PrintableString, TeletexString, T61String}
use Rattle.asn1_modules.specs.declared.token.SimpleType.TheVariants.{VideotexString, Ia5String, GraphicString}
use Rattle.asn1_modules.specs.declared.token.SimpleType.TheVariants.{VisibleString, Iso646String, GeneralString}
use Rattle.asn1_modules.specs.declared.token.SimpleType.TheVariants.{UniversalString, BmpString}
use Rattle.asn1_types.specs.declared.item.Shape.{Shape}
use Rattle.asn1_types.specs.declared.item.Shape.TheVariants as Made
use Rattle.der_base.specs.declared.header.Class.{Class}
use Rattle.der_base.specs.declared.header.Class.TheVariants.{Universal, Application, ContextSpecific, Private}
use Rattle.der_schema.specs.declared.schema.Form.{Form}
use Rattle.der_schema.specs.declared.schema.Form.TheVariants.{Primitive, Constructed, Either}

abbrev pub universal_number : SimpleType → ℕ
universal_number Boolean = 1
universal_number Null = 5
universal_number ObjectDescriptor = 7
universal_number External = 8
universal_number Real = 9
universal_number Utf8String = 12
universal_number RelativeOid = 13
universal_number Time = 14
universal_number NumericString = 18
universal_number PrintableString = 19
universal_number TeletexString = 20
universal_number T61String = 20
universal_number VideotexString = 21
universal_number Ia5String = 22
universal_number UtcTime = 23
universal_number GeneralizedTime = 24
universal_number GraphicString = 25
universal_number VisibleString = 26
universal_number Iso646String = 26
universal_number GeneralString = 27
universal_number UniversalString = 28
universal_number BmpString = 30
universal_number Date = 31
universal_number TimeOfDay = 32
universal_number DateTime = 33
universal_number Duration = 34
universal_number OidIri = 35
universal_number RelativeOidIri = 36

-- A string may be constructed (X.690 8.23.6). UTCTime, GeneralizedTime and ObjectDescriptor are strings (X.680 46.3,
-- 47.3, 48.3).
abbrev pub universal_form : SimpleType → Form
universal_form External = Constructed
universal_form Boolean = Primitive
universal_form Null = Primitive
universal_form Real = Primitive
universal_form RelativeOid = Primitive
universal_form OidIri = Primitive
universal_form RelativeOidIri = Primitive
universal_form Time = Primitive
universal_form Date = Primitive
universal_form TimeOfDay = Primitive
universal_form DateTime = Primitive
universal_form Duration = Primitive
universal_form _ = Either

abbrev pub plain : ℕ → Form → Shape
plain n f = Made.Plain (record { number = n; form = f })

-- what a type is that has no name to look up
abbrev pub shape_of : Kind → Shape
shape_of (Simple s) = plain (universal_number s) (universal_form s)
shape_of Integer = plain 2 Primitive
shape_of Enumerated = plain 10 Primitive
shape_of BitString = plain 3 Either
shape_of OctetString = plain 4 Either
shape_of ObjectIdentifier = plain 6 Primitive
shape_of EmbeddedPdv = plain 11 Constructed
shape_of CharacterString = plain 29 Constructed
shape_of Sequence = Made.Components 16
shape_of Set = Made.Components 17
shape_of Choice = Made.Choice
shape_of SequenceOf = Made.Items 16
shape_of SetOf = Made.Items 17
shape_of ComponentsOf = Made.ComponentsOf
shape_of (Extension s) = Made.Extension
shape_of Additions = Made.Additions
shape_of _ = Made.Any

-- the class of a tag (X.680 31.1; X.690 8.1.2.2)
abbrev pub class_of : TagClass → Class
class_of Written.Universal = Universal
class_of Written.Application = Application
class_of Written.ContextSpecific = ContextSpecific
class_of Written.Private = Private
