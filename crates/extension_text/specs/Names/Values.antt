-- The texts of values.
use Rattle.std.specs.Prelude.{◌≡◌, ℕ, ◌&&◌, not, nat_le, Bool, true, false, if◌then◌else◌}
use Rattle.std.specs.Prelude.{List, [], ◌∷◌, ◌++◌, codes, decimal, Option, Some, None, IfSome}
use Rattle.der_base.specs.declared.header.Class.{Class}
use Rattle.der_base.specs.declared.header.Class.TheVariants.{Universal, Application, ContextSpecific, Private}
use Rattle.der_base.specs.declared.time.ASN1DateTime.{ASN1DateTime}
use Rattle.der_cursor.specs.Elements.{Element}
use Rattle.der_print.specs.declared.style.Limit.TheVariants.{Whole}
use Rattle.der_print.specs.Quotes.{quoted_text}
use Rattle.der_print.specs.Values.{hex_text, is_ascii_text, is_quoted_type, moment_text, number_text}
use Rattle.der_print.specs.Values.{without_leading_zero}

-- a line of a label and a value
abbrev pub line : List ℕ → List ℕ → List ℕ
line label value = label ++ (value ++ codes "\n")

-- the text that a `Display` writes, which is `said` where it says that
abbrev pub IsDisplayed : Option (List ℕ) → List ℕ → Type 0
IsDisplayed said t = IfSome said (λ s. t ≡ s)

-- a line of a label and that text
abbrev pub IsLineOf : List ℕ → Option (List ℕ) → List ℕ → Type 0
IsLineOf label said text = (t : List ℕ) × IsDisplayed said t × (text ≡ line label t)

-- octets in hexadecimal digits
abbrev pub hex : List ℕ → List ℕ
hex w = hex_text Whole w

-- the content octets of an INTEGER (X.690 8.3)
abbrev pub serial_text : List ℕ → List ℕ
serial_text [] = hex (without_leading_zero [])
serial_text (a ∷ w) =
    if nat_le 0x80 a then hex (a ∷ w) ++ codes " (negative, in two's complement)"
    else hex (without_leading_zero (a ∷ w))

-- a primitive string of characters
abbrev pub is_universal : Class → Bool
is_universal Universal = true
is_universal Application = false
is_universal ContextSpecific = false
is_universal Private = false

abbrev pub is_string : Element → Bool
is_string e = is_universal e.0 && (not e.1 && is_quoted_type e.2)

-- a value of any type: a string in quotes, and the content octets of any other
abbrev pub any_text : Element → List ℕ
any_text e = if is_string e then quoted_text Whole e.2 e.3 else hex e.3

-- a text: as it is if it has two characters or more and all are ASCII that can be printed, and else in quotes
abbrev pub plain_text : List ℕ → List ℕ
plain_text w = if is_ascii_text w then w else quoted_text Whole 12 w

abbrev pub plain_line : List ℕ → List ℕ → List ℕ
plain_line label w = line label (plain_text w)

-- times, whose years are complete
abbrev pub time_line : List ℕ → ASN1DateTime → List ℕ
time_line label t = line label (moment_text false t)

abbrev pub octets_line : List ℕ → List ℕ → List ℕ
octets_line label w = line label (hex w)

-- lines of values that may be absent
abbrev pub optional_number : List ℕ → Option ℕ → List ℕ
optional_number label (Some n) = line label (decimal n)
optional_number label None = []

abbrev pub optional_octets : List ℕ → Option (List ℕ) → List ℕ
optional_octets label (Some w) = octets_line label w
optional_octets label None = []

abbrev pub optional_plain : List ℕ → Option (List ℕ) → List ℕ
optional_plain label (Some w) = plain_line label w
optional_plain label None = []

abbrev pub optional_any : List ℕ → Option Element → List ℕ
optional_any label (Some e) = line label (any_text e)
optional_any label None = []

-- a line of something that is true
abbrev pub true_line : List ℕ → Bool → List ℕ
true_line label truth = if truth then line label (codes "true") else []

-- a number of any size, with its content octets
abbrev pub number_line : List ℕ → List ℕ → List ℕ
number_line label w = line label (number_text Whole w)
