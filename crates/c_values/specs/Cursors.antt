-- Cursors of C, as cursors.
use Rattle.std.specs.Borrow.{Bor}
use Rattle.std.specs.Prelude.{◌≡◌, ◌≢◌, ℕ, ◌+◌, ◌-◌, ◌^◌, ◌<◌, ◌==◌, if◌then◌else◌, min, Bool, false, Some, None}
use Rattle.std.specs.Prelude.{List, [], ◌∷◌, ◌++◌, length, codes, Result, Ok, Err}
use Rattle.der_base.specs.declared.any.Any.{Any}
use Rattle.der_base.specs.declared.error.DerConstraint.TheVariants.{UnusedBitsNotZero}
use Rattle.der_base.specs.declared.error.Err.TheVariants.{Error}
use Rattle.der_base.specs.declared.error.Error.{Error as BerError}
use Rattle.der_base.specs.declared.rules.Rules.{Rules}
use Rattle.der_base.specs.declared.rules.Rules.TheVariants.{Ber, Der}
use Rattle.der_base.specs.declared.time.ASN1DateTime.{ASN1DateTime}
use Rattle.der_base.specs.LeafRefusal.{Test, IsFirstRefusal, NoneHolds, refuse}
use Rattle.der_base.specs.Refusal.{refusal, der_constraint, invalid_value}
use Rattle.der_cursor.specs.declared.cursor.Cursor.{Cursor}
use Rattle.der_cursor.specs.declared.error.ReadError.{ReadError}
use Rattle.der_cursor.specs.Cursors.{IsTagged, class_wanted, end_of, is_inside, number_wanted, octets_left, place_of}
use Rattle.der_cursor.specs.Cursors.{rules_of}
use Rattle.der_cursor.specs.Elements.{element_of}
use Rattle.der_values.specs.declared.bits.BitString.{BitString}
use Rattle.der_values.specs.declared.identifier.ObjectIdentifier.{ObjectIdentifier}
use Rattle.der_values.specs.Kinds.{Decodes, Kind, bit_strings, borrowed_octets}
use Rattle.x509.specs.Certificates.{bits_of}
use Rattle.c_values.specs.declared.any.DmAny.{DmAny}
use Rattle.c_values.specs.declared.cursor.DmCursor.{DmCursor}
use Rattle.c_values.specs.declared.fault.DmFault.{DmFault}
use Rattle.c_values.specs.declared.octets.DmOctets.{DmOctets}
use Rattle.c_values.specs.declared.parts.DmBits.{DmBits}
use Rattle.c_values.specs.declared.time.DmTime.{DmTime}
use Rattle.c_values.specs.AnyElements.{HasAny}
use Rattle.c_values.specs.Parts.{bits_in, bits_numbers}
use Rattle.c_values.specs.Elements.{bit}
use Rattle.c_values.specs.Faults.{Written, no_fault, value_fault}
use Rattle.c_values.specs.Values.{time_fields}
use Rattle.c_values.specs.Writers.{implicit_of}

-- the rules with this number; any above 0 is DER
abbrev pub rules_in : ℕ → Rules
rules_in n = if n == 0 then Ber else Der

-- a number that stops at the greatest one
abbrev pub stopped : ℕ → ℕ
stopped n = min n (2 ^ 64 - 1)

-- the cursor is at the start of the octets that are left, before an element with this implicit tag
pub record Continues (d : DmCursor) (c : Cursor) : Type 0 where
  pub octets : octets_left c ≡ d.left.now
  pub end : end_of c ≡ length d.left.now
  pub inside : is_inside c ≡ false
  pub rules : rules_of c ≡ rules_in d.rules
  pub implicit : c.implicit ≡ implicit_of d.implicit d.number

-- the same before an ENUMERATED, which reads as an INTEGER with its tag (X.690 8.4)
abbrev pub ContinuesEnumerated : DmCursor → Cursor → Type 0
ContinuesEnumerated d c = (b : Cursor) × Continues d b
    × IsTagged (class_wanted b.implicit) (number_wanted b.implicit 10) b c

-- the same list, where a cursor left these octets
pub record GoesOn (old : DmCursor) (c : Cursor) (new : DmCursor) : Type 0 where
  pub octets : new.left.now ≡ octets_left c
  pub offset : new.offset ≡ stopped (old.offset + (length old.left.now - length (octets_left c)))
  pub rules : new.rules ≡ old.rules
  pub inside : new.is_inside ≡ old.is_inside
  pub implicit : new.implicit ≡ 0

-- What is wrong with the next element, and its offset in the input. Inside a list an element that is cut short runs
-- past the end of the list, and no further octets mend it.
abbrev pub moved_fault : DmCursor → ReadError BerError → DmFault
moved_fault d e = let f = value_fault e in
    if d.is_inside == 0 then record f { offset = stopped (d.offset + f.offset) } else record {
      offset = stopped (d.offset + f.offset);
      list_end = stopped (d.offset + length d.left.now);
      needed = f.needed;
      status = 1;
      error = if f.status == 2 then 17 else f.error;
      field = 0;
      is_in_list = 1;
    }

-- the cursor of C goes on where the other one is, or it stays
abbrev pub Moves : {T : Type 0} → DmCursor → Cursor → Result T (ReadError BerError) → DmCursor → Type 0
Moves old c (Ok x) new = GoesOn old c new
Moves old c (Err e) new = new ≡ old

abbrev pub Finishes : {T V : Type 0} → (T → V → Type 0) → DmCursor → Cursor → Result T (ReadError BerError) → DmCursor
    → V → V → DmFault → Type 0
Finishes Is old c found new value value' f = Moves old c found new
    × Written Is (moved_fault old) found value value' f

-- A call in C reads the next field as a call of der_cursor does (`Reads`), and then they are where it is.
abbrev pub ReadsField : {T V : Type 0} → (Cursor → Result T (ReadError BerError) → Cursor → Type 0) → (T → V → Type 0)
    → DmCursor → DmCursor → V → V → DmFault → Type 0
ReadsField {T} Reads Is old new value value' f = (c : Cursor) × (d : Cursor) × (found : Result T (ReadError BerError))
    × Continues old c × Reads c found d × Finishes Is old d found new value value' f

abbrev pub IsSame : {V : Type 0} → V → V → Type 0
IsSame x v = v ≡ x

abbrev pub IsBit : Bool → ℕ → Type 0
IsBit x v = v ≡ bit x

-- a NULL has no value
abbrev pub IsNull : Unit {0} → Unit {0} → Type 0
IsNull x v = Unit {0}

abbrev pub IsOctets : Bor (List ℕ) → DmOctets → Type 0
IsOctets x d = d.octets.now ≡ x.now

abbrev pub IsIdentifier : ObjectIdentifier → DmOctets → Type 0
IsIdentifier x d = d.octets.now ≡ borrowed_octets x

-- the refusal of the element at the start of an input
abbrev pub refused_at_start : BerError → ReadError BerError
refused_at_start e = record { offset = 0; list_end = None; reason = Error e }

-- what content octets have, which are those of this element
abbrev pub RefusesAtStart : {T : Type 0} → Result T BerError → Result T (ReadError BerError) → Type 0
RefusesAtStart (Ok x) result = result ≡ Ok x
RefusesAtStart (Err e) result = result ≡ Err (refused_at_start e)

-- The content octets that were read there are decoded as the kind says.
abbrev pub DecodesFound : {T V : Type 0} → (T → V) → Kind V → Result (Bor (List ℕ)) (ReadError BerError)
    → Result T (ReadError BerError) → Type 0
DecodesFound value k (Err e) result = result ≡ Err e
DecodesFound {T} value k (Ok w) result = (x : Result T BerError) × Decodes value k w.now x × RefusesAtStart x result

-- At most seven bits are unused (X.690 8.6.2.2), and none of no octet (8.6.2.3). The refusals are those by DER.
abbrev pub unused_bits_tests : List ℕ → List Test
unused_bits_tests w =
    refuse ((u : ℕ) × (v : List ℕ) × (w ≡ u ∷ v) × (7 < u)) (invalid_value 3 (codes "More than 7 unused bits"))
    ∷ refuse ((u : ℕ) × (w ≡ u ∷ []) × (u ≢ 0)) (der_constraint UnusedBitsNotZero)
    ∷ []

-- a BIT STRING of which that holds by BER too, where der-parser takes any number of unused bits
abbrev pub exact_bit_strings : Rules → Kind (ℕ × List ℕ)
exact_bit_strings r = let k = bit_strings r in
    record { tests = λ w. k.tests w ++ unused_bits_tests w; means = k.means }

-- bits that were read at the start of an input stay, or they are refused there by these tests
abbrev pub TestsUnusedBits : Result BitString (ReadError BerError) → Result BitString (ReadError BerError) → Type 0
TestsUnusedBits (Err e) result = result ≡ Err e
TestsUnusedBits (Ok b) (Ok x) = NoneHolds (unused_bits_tests (b.unused ∷ b.octets.now)) × (x ≡ b)
TestsUnusedBits (Ok b) (Err e) = (x : BerError) × IsFirstRefusal (unused_bits_tests (b.unused ∷ b.octets.now)) (refusal x)
    × (e ≡ refused_at_start x)

abbrev pub IsBits : BitString → DmBits → Type 0
IsBits x d = bits_in d ≡ bits_numbers (Some (bits_of x))

-- its year has all digits
abbrev pub IsTime : ASN1DateTime → DmTime → Type 0
IsTime x d = d ≡ time_fields x

-- the cursor over the content of an element of the octets that were left
pub record IsInner (old : DmCursor) (c : Cursor) (d : DmCursor) : Type 0 where
  pub octets : d.left.now ≡ octets_left c
  pub offset : d.offset ≡ stopped (old.offset + place_of c)
  pub rules : d.rules ≡ old.rules
  pub inside : d.is_inside ≡ 1
  pub implicit : d.implicit ≡ 0
  pub number : d.number ≡ 0

abbrev pub IsAny : Any → DmAny → Type 0
IsAny a d = HasAny (element_of a) d

abbrev pub end_fault : DmCursor → Result (Unit {0}) (ReadError BerError) → DmFault
end_fault d (Ok u) = no_fault
end_fault d (Err e) = moved_fault d e
