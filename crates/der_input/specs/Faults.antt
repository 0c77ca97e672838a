-- Where base64 is invalid, and by what.
use Rattle.std.specs.Prelude.{◌≡◌, ℕ, zero, suc, ◌+◌, ◌-◌, ◌==◌, if◌then◌else◌, List, [], ◌∷◌, count_by, length, take, Err}
use Rattle.base64.specs.declared.decode.DecodeError.{DecodeError}
use Rattle.base64.specs.declared.decode.DecodeError.TheVariants.{InvalidByte, InvalidLength, InvalidLastSymbol}
use Rattle.base64.specs.declared.decode.DecodeError.TheVariants.{InvalidPadding}
use Rattle.base64.specs.Engines.{standard_pad_indifferent}
use Rattle.base64.specs.GeneralPurpose.{decode_of}
use Rattle.der_input.specs.declared.error.FormError.{FormError}
use Rattle.der_input.specs.declared.error.FormError.TheVariants.{Base64}
use Rattle.der_input.specs.declared.fault.Base64Fault.{Base64Fault}
use Rattle.der_input.specs.declared.fault.Wrong.{Wrong}
use Rattle.der_input.specs.declared.fault.Wrong.TheVariants.{Unexpected, PartOfOctet}
use Rattle.der_input.specs.Plain.{begins_break, body_of, characters_of, is_character}

-- a text from its character of base64 on with n before it, from k octets on
abbrev pub from_character : ℕ → ℕ → List ℕ → List ℕ
from_character n k [] = []
from_character n (suc k) (c ∷ text) = from_character n k text
from_character zero zero (c ∷ text) = if begins_break (c ∷ text) then from_character zero 1 text
    else if is_character c then c ∷ text else from_character zero 0 text
from_character (suc n) zero (c ∷ text) = if begins_break (c ∷ text) then from_character (suc n) 1 text
    else if is_character c then from_character n 0 text else from_character (suc n) 0 text

-- the line of that character, from 1
abbrev pub line_of : List ℕ → ℕ → ℕ
line_of text n = 1 + count_by (λ c. c == 0x0a) (take (length text - length (from_character n 0 (body_of text))) text)

-- how many characters are before the wrong one, or before the last one where they are no whole octets
abbrev pub number_of : DecodeError → ℕ
number_of (InvalidByte n c) = n
number_of (InvalidLength n) = n - 1
number_of (InvalidLastSymbol n c value) = n
number_of InvalidPadding = 0

abbrev pub wrong_of : DecodeError → Wrong
wrong_of (InvalidByte n c) = Unexpected c
wrong_of (InvalidLength n) = PartOfOctet
wrong_of (InvalidLastSymbol n c value) = PartOfOctet
wrong_of InvalidPadding = PartOfOctet

abbrev pub fault_at : List ℕ → DecodeError → Base64Fault
fault_at text e = record { line = line_of text (number_of e); wrong = wrong_of e }

-- the base64 of a text is invalid, and why
abbrev pub IsFault : List ℕ → Base64Fault → Type 0
IsFault text fault = (e : DecodeError) × (decode_of standard_pad_indifferent (characters_of text) ≡ Err e)
    × (fault ≡ fault_at text e)

abbrev pub IsBase64Error : List ℕ → FormError → Type 0
IsBase64Error text e = (fault : Base64Fault) × (e ≡ Base64 fault) × IsFault text fault
