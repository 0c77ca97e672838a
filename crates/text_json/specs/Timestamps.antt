-- Times in the form of RFC 3339.
use Rattle.std.specs.Prelude.{◌≢◌, ◌≤◌, ℕ, ◌%◌, ◌==◌, ◌||◌, ◌&&◌, not, Bool, if◌then◌else◌, int_lt, nat_abs, pos}
use Rattle.std.specs.Prelude.{List, [], ◌∷◌, ◌++◌, codes, Option, Some, None}
use Rattle.der_base.specs.declared.time.ASN1DateTime.{ASN1DateTime}
use Rattle.der_base.specs.declared.time.ASN1TimeZone.{ASN1TimeZone}
use Rattle.der_base.specs.declared.time.ASN1TimeZone.TheVariants.{Undefined, Z, Offset}
use Rattle.der_base.specs.Text.{is_one_of}
use Rattle.der_base.specs.Time.{at_least_digits, rfc5280_year}

-- the year, completed if it is that of a UTCTime (RFC 5280 4.1.2.5.1)
abbrev pub full_year : Bool → ASN1DateTime → ℕ
full_year is_utc_time t = if is_utc_time then rfc5280_year t.year else t.year

-- a year of 366 days (RFC 3339 appendix C)
abbrev pub is_leap : ℕ → Bool
is_leap year = year % 4 == 0 && (not (year % 100 == 0) || year % 400 == 0)

-- the last day of a month (RFC 3339 5.7)
abbrev pub last_day : ℕ → ℕ → ℕ
last_day year month =
    if month == 2 then (if is_leap year then 29 else 28)
    else (if is_one_of (4 ∷ 6 ∷ 9 ∷ 11 ∷ []) month then 30 else 31)

-- the time isn't local, and its month has its day
abbrev pub HasTimestamp : Bool → ASN1DateTime → Type 0
HasTimestamp is_utc_time t = (t.tz ≢ Undefined) × (t.day ≤ last_day (full_year is_utc_time t) t.month)

-- nine digits of a fraction of a second
abbrev pub fraction_text : Option ℕ → List ℕ
fraction_text None = []
fraction_text (Some n) = codes "." ++ at_least_digits 9 n

abbrev pub minutes_text : ℕ → List ℕ
minutes_text n = codes ":" ++ at_least_digits 2 n

abbrev pub zone_text : ASN1TimeZone → List ℕ
zone_text Undefined = []
zone_text Z = codes "Z"
zone_text (Offset h m) = (if int_lt h (pos 0) || int_lt m (pos 0) then codes "-" else codes "+")
    ++ at_least_digits 2 (nat_abs h) ++ minutes_text (nat_abs m)

-- date-time (RFC 3339 5.6)
abbrev pub timestamp_text : Bool → ASN1DateTime → List ℕ
timestamp_text is_utc_time t = at_least_digits 4 (full_year is_utc_time t) ++ codes "-" ++ at_least_digits 2 t.month
    ++ codes "-" ++ at_least_digits 2 t.day ++ codes "T" ++ at_least_digits 2 t.hour ++ codes ":"
    ++ at_least_digits 2 t.minute ++ codes ":" ++ at_least_digits 2 t.second ++ fraction_text t.nanosecond
    ++ zone_text t.tz
