-- How many whole days are left, or have passed, by the Gregorian calendar.
use Rattle.std.specs.Prelude.{ℕ, ◌+◌, ◌-◌, ◌*◌, ◌/◌, ◌%◌, ◌==◌, nat_le, if◌then◌else◌, Option, Some, None}
use Rattle.std.specs.Prelude.{List, [], ◌++◌, codes, decimal}
use Rattle.der_base.specs.declared.time.ASN1DateTime.{ASN1DateTime}

-- the year whose March was the last one: so a leap day is the last of a year
abbrev pub year_from_march : ℕ → ℕ → ℕ
year_from_march year month = if nat_le month 2 then year - 1 else year

-- The number of a day: 365 for each year, one more for each leap year, and those of the months, of which each five from
-- March on have 153.
abbrev pub day_of : ℕ → ℕ → ℕ → ℕ
day_of year month day = let y = year_from_march year month in
    y * 365 + (y / 4 + y / 400 - y / 100) + (153 * ((month + 9) % 12) + 2) / 5 + day

abbrev pub second_of : ASN1DateTime → ℕ
second_of t = ((day_of t.year t.month t.day * 24 + t.hour) * 60 + t.minute) * 60 + t.second

-- the seconds of a day, and those before 1970-01-01
abbrev pub second_of_1970 : ℕ
second_of_1970 = 719469 * 86400

abbrev pub days_text : ℕ → List ℕ
days_text n = if n == 1 then codes "1 day" else decimal n ++ codes " days"

-- when something expires or expired, now being the seconds since 1970
abbrev pub expiry_text : ℕ → ASN1DateTime → List ℕ
expiry_text now end = let n = now + second_of_1970 in let e = second_of end in
    if nat_le n e then codes "  Expires: in " ++ (days_text ((e - n) / 86400) ++ codes "\n")
    else codes "  Expired: " ++ (days_text ((n - e) / 86400) ++ codes " ago\n")

abbrev pub optional_expiry : Option ℕ → ASN1DateTime → List ℕ
optional_expiry (Some now) end = expiry_text now end
optional_expiry None end = []
