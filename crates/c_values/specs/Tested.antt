-- Values that are tested before they are put. If one isn't put, the writer stays as it was.
use Rattle.std.specs.Prelude.{◌≡◌, ℕ, ◌%◌, ◌⊎◌, ◌&&◌, ◌==◌, nat_le, if◌then◌else◌, Bool, false, IsTrue}
use Rattle.std.specs.Prelude.{Some, None, List, Result, Ok, Err, MatchResult}
use Rattle.der_base.specs.declared.error.Error.{Error as BerError}
use Rattle.der_base.specs.declared.error.OidParseError.{OidParseError}
use Rattle.der_base.specs.declared.error.OidParseError.TheVariants.{TooShort}
use Rattle.der_base.specs.declared.time.ASN1DateTime.{ASN1DateTime}
use Rattle.der_base.specs.declared.time.ASN1TimeZone.TheVariants.{Z}
use Rattle.der_base.specs.Encoding.{content_octets}
use Rattle.der_base.specs.Leaf.{IsMinimalInteger}
use Rattle.der_base.specs.LeafRefusal.{IsFirstRefusal, integer_tests}
use Rattle.der_base.specs.Refusal.{refusal, invalid_charset, invalid_date_time, invalid_length, wrong_type, wrong_value}
use Rattle.der_base.specs.Text.{IsTextOf, is_within}
use Rattle.der_base.specs.Tree.{time}
use Rattle.der_writer.specs.declared.writer.Writer.{Writer}
use Rattle.der_writer.specs.Written.{IsBmp, PutsLeaf}
use Rattle.c_values.specs.declared.time.DmTime.{DmTime}
use Rattle.c_values.specs.ErrorNumbers.{refusal_number}
use Rattle.c_values.specs.Values.{is_string_type}

-- an INTEGER, if these content octets are the fewest for their number (X.690 8.3.2)
abbrev pub PutsInteger : List ℕ → Writer → Result (Unit {0}) BerError → Writer → Type 0
PutsInteger w old found new = MatchResult found
    (λ _. IsMinimalInteger w × PutsLeaf 2 w old new)
    (λ e. IsFirstRefusal (integer_tests w) (refusal e) × (new ≡ old))

-- the octets are in its character set
abbrev pub IsStringOf : ℕ → List ℕ → Type 0
IsStringOf t w = IsTextOf t w × (t ≡ 30 → IsBmp w)

-- why octets are no text of the type with this number
abbrev pub IsNoText : ℕ → List ℕ → BerError → Type 0
IsNoText t w e = ((is_string_type t ≡ false) × (refusal e ≡ wrong_type))
    ⊎ (IsTrue (is_string_type t) × (¬ IsStringOf t w) × (refusal e ≡ invalid_charset))

-- one of these types, if the octets are in its character set
abbrev pub PutsAnyText : ℕ → List ℕ → Writer → Result (Unit {0}) BerError → Writer → Type 0
PutsAnyText t w old found new = MatchResult found
    (λ _. IsTrue (is_string_type t) × IsStringOf t w × PutsLeaf t w old new)
    (λ e. IsNoText t w e × (new ≡ old))

-- why arcs have no octets
abbrev pub arcs_number : OidParseError → ℕ
arcs_number TooShort = refusal_number invalid_length
arcs_number _ = refusal_number wrong_value

abbrev pub number_of_arcs : Result (Unit {0}) OidParseError → ℕ
number_of_arcs (Ok u) = 0
number_of_arcs (Err e) = arcs_number e

-- a year that the type has: of a UTCTime (23) by RFC 5280 4.1.2.5.1, and with no fraction
abbrev pub has_year : ℕ → DmTime → Bool
has_year k t = if k == 23 then is_within 1950 2049 t.year && t.nanosecond == 0
    else k == 24 && nat_le t.year 9999 && nat_le t.nanosecond 999999999

-- DER has a time of this type with these fields, which is in universal time (11.7, 11.8)
abbrev pub has_time : ℕ → DmTime → Bool
has_time k t = has_year k t && is_within 1 12 t.month && is_within 1 31 t.day && nat_le t.hour 23
    && nat_le t.minute 59 && nat_le t.second 59 && t.zone == 1

-- that time
abbrev pub time_of : ℕ → DmTime → ASN1DateTime
time_of k t = record {
  year = if k == 23 then t.year % 100 else t.year;
  month = t.month;
  day = t.day;
  hour = t.hour;
  minute = t.minute;
  second = t.second;
  nanosecond = if t.nanosecond == 0 then None else Some t.nanosecond;
  tz = Z;
}

-- a UTCTime or a GeneralizedTime with these fields, if DER has it
abbrev pub PutsTime : ℕ → DmTime → Writer → Result (Unit {0}) BerError → Writer → Type 0
PutsTime k t old found new = MatchResult found
    (λ _. IsTrue (has_time k t) × PutsLeaf k (content_octets (time k (time_of k t))) old new)
    (λ e. (¬ IsTrue (has_time k t)) × (refusal e ≡ invalid_date_time) × (new ≡ old))
