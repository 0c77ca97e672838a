-- What decoding into slices answers: how many octets one of them begins with, or an error.
use Rattle.std.specs.Prelude.{◌≡◌, ◌≤◌, ℕ, ◌/◌, List, length, take, Result, Ok, Err, IsErr, ◌⊎◌}
use Rattle.base64.specs.Decode.{decoded_estimate}
use Rattle.base64.specs.Engines.{standard_pad_indifferent}
use Rattle.base64.specs.GeneralPurpose.{decode_of as base64_decode_of}
use Rattle.hex.specs.Hex.{decode_of as hex_decode_of}
use Rattle.der_input.specs.declared.error.FormError.{FormError}
use Rattle.der_input.specs.declared.error.FormError.TheVariants.{Base64, Encrypted, Hex, OutOfMemory}
use Rattle.der_input.specs.Blocks.{IsEncrypted}
use Rattle.der_input.specs.Faults.{IsFault}
use Rattle.der_input.specs.Plain.{characters_of, digits_of}

-- n octets suffice for the digits of a text, and m for the octets of these
abbrev pub SufficeForDigits : List ℕ → ℕ → ℕ → Type 0
SufficeForDigits text n m = (length (digits_of text) ≤ n) × (length (digits_of text) / 2 ≤ m)

-- n octets suffice for the characters of base64 of a text, and m for three octets for each four of them
abbrev pub SufficeForBase64 : List ℕ → ℕ → ℕ → Type 0
SufficeForBase64 text n m = (length (characters_of text) ≤ n) × (decoded_estimate (length (characters_of text)) ≤ m)

-- Of a text of digits, which are written to n octets first. OutOfMemory if, and only if, one of the slices is too short.
abbrev pub DecodesDigits : List ℕ → ℕ → List ℕ → Result ℕ FormError → Type 0
DecodesDigits text n octets (Ok size) =
    SufficeForDigits text n (length octets) × (hex_decode_of (digits_of text) ≡ Ok (take size octets))
DecodesDigits text n octets (Err OutOfMemory) = ¬ SufficeForDigits text n (length octets)
DecodesDigits text n octets (Err Hex) = SufficeForDigits text n (length octets) × IsErr (hex_decode_of (digits_of text))
DecodesDigits text n octets (Err e) = ⊥

-- the same of base64
abbrev pub DecodesBase64 : List ℕ → ℕ → List ℕ → Result ℕ FormError → Type 0
DecodesBase64 text n octets (Ok size) = SufficeForBase64 text n (length octets)
    × (base64_decode_of standard_pad_indifferent (characters_of text) ≡ Ok (take size octets))
DecodesBase64 text n octets (Err OutOfMemory) = ¬ SufficeForBase64 text n (length octets)
DecodesBase64 text n octets (Err (Base64 fault)) = SufficeForBase64 text n (length octets) × IsFault text fault
DecodesBase64 text n octets (Err e) = ⊥

-- of the lines of a block of PEM
abbrev pub DecodesLines : List ℕ → ℕ → List ℕ → Result ℕ FormError → Type 0
DecodesLines lines n octets found =
    (IsEncrypted lines × (found ≡ Err Encrypted)) ⊎ (¬ IsEncrypted lines × DecodesBase64 lines n octets found)
