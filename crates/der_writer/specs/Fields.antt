-- The octets of elements, in words that read beside the ASN.1 (X.680), for definitions of what a writer puts.
use Rattle.std.specs.Prelude.{ℕ, Bool, true, false, ℤ, List, [], ◌∷◌}
use Rattle.der_base.specs.declared.header.Class.{Class}
use Rattle.der_base.specs.declared.header.Class.TheVariants.{Universal, ContextSpecific}
use Rattle.der_base.specs.declared.time.ASN1DateTime.{ASN1DateTime}
use Rattle.der_base.specs.Encoding.{content_octets, element}
use Rattle.der_base.specs.Octets.{shortest_integer}
use Rattle.der_base.specs.Tree.{boolean, time}
use Rattle.der_writer.specs.Octets.{named_bits, signed_integer}
use Rattle.der_writer.specs.Times.{rfc5280_octets, rfc5280_type}

-- a primitive element
unfoldable pub primitive : Class → ℕ → List ℕ → List ℕ
primitive c t x = element c false t x

-- a constructed element
unfoldable pub constructed : Class → ℕ → List ℕ → List ℕ
constructed c t w = element c true t w

abbrev pub Boolean : Bool → List ℕ
Boolean v = primitive Universal 1 (content_octets (boolean v))

abbrev pub Integer : ℤ → List ℕ
Integer n = primitive Universal 2 (signed_integer n)

-- with these content octets
abbrev pub IntegerOctets : List ℕ → List ℕ
IntegerOctets w = primitive Universal 2 w

abbrev pub Enumerated : ℕ → List ℕ
Enumerated n = primitive Universal 10 (shortest_integer n)

abbrev pub BitString : ℕ → List ℕ → List ℕ
BitString unused w = primitive Universal 3 (unused ∷ w)

-- of bits that have names
abbrev pub NamedBits : List ℕ → List ℕ
NamedBits w = primitive Universal 3 (named_bits w)

abbrev pub OctetString : List ℕ → List ℕ
OctetString w = primitive Universal 4 w

abbrev pub Null : List ℕ
Null = primitive Universal 5 []

abbrev pub ObjectIdentifier : List ℕ → List ℕ
ObjectIdentifier w = primitive Universal 6 w

-- a string type that is kept as a text
abbrev pub Text : ℕ → List ℕ → List ℕ
Text t w = primitive Universal t w

abbrev pub UtcTime : ASN1DateTime → List ℕ
UtcTime t = primitive Universal 23 (content_octets (time 23 t))

abbrev pub GeneralizedTime : ASN1DateTime → List ℕ
GeneralizedTime t = primitive Universal 24 (content_octets (time 24 t))

-- a time of a certificate
abbrev pub Rfc5280Time : ASN1DateTime → List ℕ
Rfc5280Time t = primitive Universal (rfc5280_type t) (rfc5280_octets t)

abbrev pub Sequence : List ℕ → List ℕ
Sequence w = constructed Universal 16 w

abbrev pub Set : List ℕ → List ℕ
Set w = constructed Universal 17 w

-- an explicit tag around fields, or an implicit one of a SEQUENCE or SET
abbrev pub Tagged : ℕ → List ℕ → List ℕ
Tagged n w = constructed ContextSpecific n w
