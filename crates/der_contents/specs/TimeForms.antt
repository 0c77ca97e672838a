-- The texts of UTCTime and GeneralizedTime (X.680 46 and 47, X.690 8.25; by DER 11.7 and 11.8).
use Rattle.std.specs.Prelude.{◌≡◌, ℕ, ◌≤◌, ◌⊎◌, List, ◌++◌, length, take, All, codes}
use Rattle.der_base.specs.Time.{IsDigit}
use Rattle.der_contents.specs.Grammar.{IsMark, IsSign, Ends, OneThen, SomeThen, NumberThen}

-- a month, a day and an hour
abbrev pub MonthToHour : (List ℕ → Type 0) → List ℕ → Type 0
MonthToHour G = NumberThen 1 12 (NumberThen 1 31 (NumberThen 0 23 G))

-- hours and minutes
abbrev pub IsOffset : List ℕ → Type 0
IsOffset = NumberThen 0 23 (NumberThen 0 59 Ends)

-- an offset from universal time, or Z
abbrev pub IsZone : List ℕ → Type 0
IsZone w = OneThen IsSign IsOffset w ⊎ (w ≡ codes "Z")

-- A year, a month, a day, an hour and a minute. The second may be left out. Of a GeneralizedTime it may be 60, of a
-- UTCTime at most 59 (X.680 46.2, 47.3).

abbrev pub UtcToMinute : (List ℕ → Type 0) → List ℕ → Type 0
UtcToMinute G = NumberThen 0 99 (MonthToHour (NumberThen 0 59 G))

abbrev pub EndsUtcTime : List ℕ → Type 0
EndsUtcTime w = NumberThen 0 59 IsZone w ⊎ IsZone w

abbrev pub IsUtcTimeText : List ℕ → Type 0
IsUtcTimeText = UtcToMinute EndsUtcTime

-- the minutes may be left out
abbrev pub EndsOffset : List ℕ → Type 0
EndsOffset w = NumberThen 0 59 Ends w ⊎ Ends w

-- a zone, or none for local time
abbrev pub IsLastZone : List ℕ → Type 0
IsLastZone w = OneThen IsSign (NumberThen 0 23 EndsOffset) w ⊎ (w ≡ codes "Z") ⊎ Ends w

-- a fraction of an hour, a minute or a second in front, which may be left out
abbrev pub EndsTime : List ℕ → Type 0
EndsTime w = OneThen IsMark (SomeThen IsDigit IsLastZone) w ⊎ IsLastZone w

-- the seconds may be left out, and so may the minutes in front of them
abbrev pub EndsMinute : List ℕ → Type 0
EndsMinute w = NumberThen 0 60 EndsTime w ⊎ EndsTime w

abbrev pub EndsHour : List ℕ → Type 0
EndsHour w = NumberThen 0 59 EndsMinute w ⊎ EndsTime w

abbrev pub CenturyToHour : (List ℕ → Type 0) → List ℕ → Type 0
CenturyToHour G = NumberThen 0 99 (NumberThen 0 99 (MonthToHour G))

abbrev pub IsGeneralizedTimeText : List ℕ → Type 0
IsGeneralizedTimeText = CenturyToHour EndsHour

-- What DER requires of them.

-- universal time
abbrev pub EndsInZ : List ℕ → Type 0
EndsInZ w = (v : List ℕ) × (w ≡ v ++ codes "Z")

-- it begins with so many digits, which go up to the second
abbrev pub HasDigits : ℕ → List ℕ → Type 0
HasDigits n w = (n ≤ length w) × All IsDigit (take n w)

-- what follows the second begins with a comma
abbrev pub HasComma : List ℕ → Type 0
HasComma w = (v : List ℕ) × (w ≡ codes "," ++ v)

-- it is a fraction that ends in 0
abbrev pub HasLastZero : List ℕ → Type 0
HasLastZero w = (v : List ℕ) × (w ≡ codes "." ++ (v ++ codes "0Z"))
