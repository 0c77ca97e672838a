-- Octets among others, and what a text begins with.
use Rattle.std.specs.Prelude.{◌≡◌, ℕ, ◌<◌, ◌+◌, ◌/◌, ◌%◌, ◌==◌, ◌||◌, nat_lt, Bool, if◌then◌else◌, List, [], ◌∷◌, ◌++◌}
use Rattle.std.specs.Prelude.{Option, MatchOption, ◌≤◌, length, take, find, is_some, codes}
use Rattle.std.specs.Char.{is_ascii_whitespace}
use Rattle.std.specs.List.{list_any, position_or_len, range_with_len, starts_with, ends_with}
use Rattle.bstr.specs.Find.{occurs_at}

-- an octet is one of these marks
abbrev pub is_mark : List ℕ → ℕ → Bool
is_mark marks c = list_any (λ mark. mark == c) marks

-- whether octets begin with others, end in others, or one of them is this
abbrev pub begins_with : List ℕ → List ℕ → Bool
begins_with i octets = starts_with (λ a b. a == b) i octets

abbrev pub ends_in : List ℕ → List ℕ → Bool
ends_in i octets = ends_with (λ a b. a == b) i octets

abbrev pub has_octet : ℕ → List ℕ → Bool
has_octet octet text = nat_lt (position_or_len (λ c. c == octet) text) (length text)

-- where a needle occurs first, and whether it does
abbrev pub first_place : List ℕ → List ℕ → Option ℕ
first_place text needle = find (occurs_at text needle) (range_with_len 0 (length text))

abbrev pub has_needle : List ℕ → List ℕ → Bool
has_needle text needle = is_some (first_place text needle)

-- what may be between hexadecimal digits: white space, marks, brackets and quotes
abbrev pub is_separator : ℕ → Bool
is_separator c = is_ascii_whitespace c || is_mark (codes ":,;.-_()[]<>\"'|") c

-- the hexadecimal digits of an octet
abbrev pub digit_of : ℕ → ℕ
digit_of n = if nat_lt n 10 then 0x30 + n else 0x57 + n

abbrev pub pair_of : ℕ → List ℕ
pair_of octet = digit_of (octet / 16) ∷ digit_of (octet % 16) ∷ []

-- octets are written from an offset on, up to the result, or None if there is no room for them
abbrev pub Puts : List ℕ → ℕ → List ℕ → List ℕ → Option ℕ → Type 0
Puts old at octets new result = MatchOption result (length old < at + length octets)
    (λ end. (end ≤ length new) × (take end new ≡ take at old ++ octets))
