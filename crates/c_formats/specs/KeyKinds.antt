-- What public keys are: their types, curves and sizes.
use Rattle.std.specs.Prelude.{◌≡◌, ℕ, ◌-◌, ◌^◌, ◌==◌, ◌&&◌, min, if◌then◌else◌, List, [], find, Option, Some, None}
use Rattle.std.specs.Option.{option_map, option_map_or, unwrap_or}
use Rattle.der_base.specs.declared.rules.Rules.TheVariants.{Der}
use Rattle.der_base.specs.TreeEquality.{same_octets}
use Rattle.der_cursor.specs.Formats.{AnyElement, Content, Element, Ignored, Integer, Only, Required, ◌⨾◌}
use Rattle.x509_keys.specs.OtherKeys.{RsaPublicValue, whole_rsa_public_key}
use Rattle.certificate_text.specs.Keys.{bit_length}
use Rattle.certificate_text.specs.PrivateKeys.{Finds}
use Rattle.c_values.specs.declared.any.DmAny.{DmAny}
use Rattle.c_values.specs.declared.parts.DmAlgorithm.{DmAlgorithm}
use Rattle.c_values.specs.AnyElements.{HasAnyOrNone}
use Rattle.c_formats.specs.declared.key_kind.DmKeyKind.{DmKeyKind}
use Rattle.c_formats.specs.declared.key_kind.Size.{Size}
use Rattle.c_formats.specs.declared.key_kind.Size.TheVariants.{Modulus, Prime, Curve, Field}
use Rattle.c_formats.specs.declared.key_kind.TheConstants.{CURVES, KEY_TYPES}

-- what the first row of a table with these octets has
abbrev pub row_of : {T : Type 0} → List (record { now : List ℕ } × T) → List ℕ → Option T
row_of rows w = option_map (λ row. row.1) (find (λ row. same_octets row.0.now w) rows)

-- the content octets of an element of this universal type and constructed bit
abbrev pub content_if : ℕ → ℕ → DmAny → List ℕ
content_if n c e = if (e.tag_class == 0) && ((e.number == n) && (e.constructed == c)) then e.content.now else []

-- the number of the curve whose identifier parameters are (RFC 5480 2.1.1), and the bits of its field
abbrev pub curve_in : DmAny → ℕ × ℕ
curve_in e = unwrap_or (row_of CURVES.now (content_if 6 0 e)) (0, 0)

-- the bits of a number by the content octets of its INTEGER, as far as there is room; 0 without one
abbrev pub bits_of : Option (List ℕ) → ℕ
bits_of n = option_map_or (λ w. min (bit_length w) (2 ^ 32 - 1)) n 0

-- of the modulus of the key that octets are (RFC 8017 A.1.1)
abbrev pub HasModulus : List ℕ → ℕ → Type 0
HasModulus w n = (k : Option RsaPublicValue) × Finds whole_rsa_public_key w k
    × (n ≡ bits_of (option_map (λ v. v.0) k))

-- an INTEGER, whatever follows
abbrev pub FirstInteger : Content (List ℕ × Unit {0})
FirstInteger = Required Integer ⨾ Ignored

-- the INTEGER that octets begin with by DER
abbrev pub FindsInteger : List ℕ → Option (List ℕ) → Type 0
FindsInteger i (Some w) = FirstInteger Der i (w, tt)
FindsInteger i None = (v : List ℕ × Unit {0}) → ¬ FirstInteger Der i v

abbrev pub HasPrime : List ℕ → ℕ → Type 0
HasPrime i n = (w : Option (List ℕ)) × FindsInteger i w × (n ≡ bits_of w)

-- the number of the curve and the size: of the modulus, of the first INTEGER of the parameters (RFC 3279 2.3.2, 2.3.3),
-- of the field of the curve that they name, or of a field
abbrev pub HasSize : Size → DmAny → List ℕ → ℕ × ℕ → Type 0
HasSize Modulus e w x = (x.0 ≡ 0) × HasModulus w x.1
HasSize Prime e w x = (x.0 ≡ 0) × HasPrime (content_if 16 1 e) x.1
HasSize Curve e w x = x ≡ curve_in e
HasSize (Field n) e w x = x ≡ (0, n)

-- the type in the table, or none
abbrev pub HasType : Option (ℕ × Size) → DmAny → List ℕ → DmKeyKind → Type 0
HasType (Some t) e w k = (k.key_type ≡ t.0) × HasSize t.1 e w (k.curve, k.bits)
HasType None e w k = (k.key_type ≡ 0) × (k.curve ≡ 0) × (k.bits ≡ 0)

-- the key of this algorithm, with these parameters, in these octets
abbrev pub HasKind : List ℕ → DmAny → List ℕ → DmKeyKind → Type 0
HasKind a e w k = HasType (row_of KEY_TYPES.now a) e w k

-- the element that octets are by DER
abbrev pub FindsOnly : List ℕ → Option Element → Type 0
FindsOnly w (Some e) = Only AnyElement Der w e
FindsOnly w None = (e : Element) → ¬ Only AnyElement Der w e

-- the parameters of the algorithm are that element, or there is none
abbrev pub IsKeyKind : DmAlgorithm → List ℕ → DmKeyKind → Type 0
IsKeyKind a w k = (e : Option Element) × FindsOnly a.parameters.now e × (d : DmAny) × HasAnyOrNone e d
    × HasKind a.identifier.now d w k
