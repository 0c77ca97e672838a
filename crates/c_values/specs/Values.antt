-- Values of content octets as C sees them.
use Rattle.std.specs.Prelude.{◌≡◌, ℕ, ◌||◌, ◌==◌, false, List, [], ◌∷◌, ℤ, pos}
use Rattle.std.specs.Prelude.{Result, Ok, Err, MatchResult, unwrap_or, Bool}
use Rattle.der_base.specs.declared.error.Error.{Error as BerError}
use Rattle.der_base.specs.declared.time.ASN1DateTime.{ASN1DateTime}
use Rattle.der_base.specs.declared.time.ASN1TimeZone.{ASN1TimeZone}
use Rattle.der_base.specs.declared.time.ASN1TimeZone.TheVariants.{Undefined, Z, Offset}
use Rattle.der_base.specs.Leaf.{IsLeafContent}
use Rattle.der_base.specs.LeafRefusal.{BerLeafRefuses, IsNotTime, Test, refuse, choose, ber_tests, IsFirstRefusal}
use Rattle.der_base.specs.LeafRefusal.{NoneHolds}
use Rattle.der_base.specs.Refusal.{refusal, invalid_date_time, wrong_type}
use Rattle.der_base.specs.Text.{is_text_type}
use Rattle.der_base.specs.Time.{IsTimeText}
use Rattle.der_base.specs.Tree.{boolean}
use Rattle.der_values.specs.Kinds.{with_whole_year}
use Rattle.c_values.specs.declared.time.DmTime.{DmTime}
use Rattle.c_values.specs.Elements.{bit}
use Rattle.c_values.specs.ErrorNumbers.{number_of_result}

-- the value is written, or it stays as it was
abbrev pub written : {V : Type 0} → Result V BerError → V → V
written (Ok v) old = v
written (Err e) old = old

-- a call in C returns such a result: 0 and the value, or the number of the error and nothing is written
abbrev pub Returns : {V : Type 0} → (Result V BerError → Type 0) → V → V → ℕ → Type 0
Returns Answers old new number = (found : Result _ BerError) × Answers found × (new ≡ written found old)
    × (number ≡ number_of_result found)

-- the value of a BOOLEAN (X.690 8.2) as 0 or 1, or why the octets are none
abbrev pub AnswersBoolean : List ℕ → Result ℕ BerError → Type 0
AnswersBoolean w found = MatchResult found (λ n. (v : Bool) × IsLeafContent false 1 w (boolean v) × (n ≡ bit v))
    (λ e. BerLeafRefuses false 1 w (refusal e))

-- a string type that is kept as a text (8.23), or a BMPString (30)
abbrev pub is_string_type : ℕ → Bool
is_string_type t = t == 30 || is_text_type t

-- what the octets of such a string are tested for
abbrev pub text_tests : ℕ → List ℕ → List Test
text_tests t w = choose (is_string_type t) (ber_tests false t w) (refuse (Unit {0}) wrong_type ∷ [])

-- 0 if no test holds, or the number of the refusal of the first that does
abbrev pub AnswersText : ℕ → List ℕ → Result (Unit {0}) BerError → Type 0
AnswersText t w found = MatchResult found (λ _. NoneHolds (text_tests t w))
    (λ e. IsFirstRefusal (text_tests t w) (refusal e))

abbrev pub zone_number : ASN1TimeZone → ℕ
zone_number Undefined = 0
zone_number Z = 1
zone_number (Offset h m) = 2

abbrev pub zone_hours : ASN1TimeZone → ℤ
zone_hours (Offset h m) = h
zone_hours _ = pos 0

abbrev pub zone_minutes : ASN1TimeZone → ℤ
zone_minutes (Offset h m) = m
zone_minutes _ = pos 0

-- the fields of a time whose year has all digits
abbrev pub time_fields : ASN1DateTime → DmTime
time_fields t = record {
  year = t.year;
  nanosecond = unwrap_or t.nanosecond 0;
  month = t.month;
  day = t.day;
  hour = t.hour;
  minute = t.minute;
  second = t.second;
  zone = zone_number t.tz;
  zone_hours = zone_hours t.tz;
  zone_minutes = zone_minutes t.tz;
}

-- the fields of the time that the octets spell, where a UTCTime (23) has its year by RFC 5280, or that they spell none
abbrev pub AnswersTime : ℕ → List ℕ → Result DmTime BerError → Type 0
AnswersTime k w found = MatchResult found
    (λ x. (t : ASN1DateTime) × IsTimeText k w t × (x ≡ time_fields (with_whole_year k t)))
    (λ e. IsNotTime k w × (refusal e ≡ invalid_date_time))
