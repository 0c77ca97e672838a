-- The number of an INTEGER or ENUMERATED in JSON.
use Rattle.std.specs.Prelude.{◌^◌, ℕ, suc, nat_le, nat_lt, if◌then◌else◌, ℤ, pos, negsuc}
use Rattle.std.specs.Prelude.{List, ◌++◌, codes, length}
use Rattle.hex.specs.Hex.{encode_lower}
use Rattle.serde_json.specs.Data.{Data, negative, number, string, unsigned}
use Rattle.der_base.specs.Octets.{integer_value, octets}
use Rattle.der_values.specs.Decimal.{integer_text}

-- the most content octets of a number in decimal, which takes quadratic time
abbrev pub most_decimal_octets : ℕ
most_decimal_octets = 4096

-- a minus sign if the number is negative, 0x, and the magnitude in hexadecimal with the fewest octets
abbrev pub hexadecimal_text : ℤ → List ℕ
hexadecimal_text (pos n) = codes "0x" ++ encode_lower (octets n)
hexadecimal_text (negsuc n) = codes "-0x" ++ encode_lower (octets (suc n))

-- the text of the number with these content octets
abbrev pub number_text : List ℕ → List ℕ
number_text w =
    if nat_le (length w) most_decimal_octets then integer_text (integer_value w) else hexadecimal_text (integer_value w)

-- a number from -(2^53-1) to 2^53-1 (RFC 8259 6), or the text of any other number
abbrev pub number_or : List ℕ → ℤ → Data
number_or text (pos n) = if nat_lt n (2 ^ 53) then number (unsigned n) else string text
number_or text (negsuc n) = if nat_lt (suc n) (2 ^ 53) then number (negative (negsuc n)) else string text

abbrev pub json_number : List ℕ → Data
json_number w = number_or (number_text w) (integer_value w)
