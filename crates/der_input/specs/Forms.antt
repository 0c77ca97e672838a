-- How an input is written, as a look at it finds.
use Rattle.std.specs.Prelude.{◌≡◌, ℕ, ◌<◌, ◌==◌, ◌&&◌, ◌||◌, ◌⊎◌, not, Bool, true, false, Option, Some, None}
use Rattle.std.specs.Prelude.{List, [], ◌∷◌, ◌++◌, length, take, codes, find}
use Rattle.std.specs.Char.{is_ascii_control}
use Rattle.std.specs.List.{list_any}
use Rattle.std.specs.Option.{option_map, option_map_or}
use Rattle.std.specs.Str.{IsUtf8}
use Rattle.bstr.specs.Text.{Contains}
use Rattle.der_base.specs.declared.header.Class.{Class}
use Rattle.der_base.specs.declared.header.Length.TheVariants.{Definite}
use Rattle.der_base.specs.Headers.{BeginsWithHeader}
use Rattle.der_input.specs.declared.error.FormError.{FormError}
use Rattle.der_input.specs.declared.error.FormError.TheVariants.{LooksLike}
use Rattle.der_input.specs.declared.form.Form.{Form}
use Rattle.der_input.specs.declared.form.Form.TheVariants.{Der, Pem, Hex, Base64}
use Rattle.der_input.specs.Blocks.{first_begin}
use Rattle.der_input.specs.declared.notation.Notation.{Notation}
use Rattle.der_input.specs.declared.notation.Notation.TheVariants as notation
use Rattle.der_input.specs.Marks.{begins_with}
use Rattle.der_input.specs.Plain.{notation_of}

-- what an input of a form is called in a sentence
abbrev pub form_name : Form → List ℕ
form_name Der = codes "octets"
form_name Pem = codes "PEM"
form_name Hex = codes "hexadecimal digits"
form_name Base64 = codes "base64"

-- a control character of ASCII that isn't white space
abbrev pub is_control : ℕ → Bool
is_control c = is_ascii_control c && not (c == 0x09 || c == 0x0a || c == 0x0d)

-- UTF-8 without them
abbrev pub IsText : List ℕ → Type 0
IsText i = (0 < length i) × (list_any is_control i ≡ false) × IsUtf8 i

-- one element of a definite length and nothing after it: a header, and as many octets as it says (X.690 8.1.1, 8.1.3)
abbrev pub IsOneElement : List ℕ → Type 0
IsOneElement i = (c : Class) × (p : Bool) × (t : ℕ) × (w : List ℕ)
    × BeginsWithHeader i c p t (Definite (length w)) w

-- It is octets, whatever it contains. But a text may look like one: fifty hexadecimal digits from 30 on do.
abbrev pub IsBinary : List ℕ → Type 0
IsBinary i = IsOneElement i × ¬ IsText i

-- no block of PEM begins
abbrev pub HasNoBlock : List ℕ → Type 0
HasNoBlock i = first_begin i ≡ None

-- whether one begins, and no control characters are before it (RFC 7468 2)
abbrev pub begins_after_text : List ℕ → Bool
begins_after_text i = option_map_or (λ k. not (list_any is_control (take k i))) (first_begin i) false

-- the first octets of other kinds of files, and the kinds
abbrev pub other_kinds : List (List ℕ × List ℕ)
other_kinds =
    (0x1f ∷ 0x8b ∷ [], codes "a gzip file")
    ∷ (codes "PK" ++ 0x03 ∷ 0x04 ∷ [], codes "a zip file")
    ∷ (codes "%PDF-", codes "a PDF file")
    ∷ (0x89 ∷ codes "PNG", codes "a PNG image")
    ∷ (0xff ∷ 0xd8 ∷ 0xff ∷ [], codes "a JPEG image")
    ∷ (0x7f ∷ codes "ELF", codes "an ELF program")
    ∷ (0xfe ∷ 0xed ∷ 0xfe ∷ 0xed ∷ [], codes "a Java keystore")
    ∷ (codes "ssh-", codes "a public key of SSH")
    ∷ (0xff ∷ 0xfe ∷ [], codes "a text file in UTF-16") ∷ []

-- the kind of another file whose first octets an input begins with
abbrev pub other_kind : List ℕ → Option (List ℕ)
other_kind i = option_map (λ row. row.1) (find (λ row. begins_with i row.0) other_kinds)

-- a text in which a line of PEM ends a block
abbrev pub EndsBlock : List ℕ → Type 0
EndsBlock i = IsText i × Contains i (codes "-----END ")

-- A text without a block is in a notation: hexadecimal digits, of which there are several, or base64.
abbrev pub IsPlain : List ℕ → Type 0
IsPlain i = (begins_after_text i ≡ false) × IsText i × ¬ Contains i (codes "-----END ")

abbrev pub form_of_notation : Notation → Form
form_of_notation notation.Base64 = Base64
form_of_notation n = Hex

abbrev pub plain_form : List ℕ → Option Form
plain_form i = option_map form_of_notation (notation_of i)

-- the form of an input that isn't one element, and of no other kind
abbrev pub IsWritten : List ℕ → Form → Type 0
IsWritten i Pem = (begins_after_text i ≡ true) ⊎ EndsBlock i
IsWritten i Der = (begins_after_text i ≡ false) × ¬ IsText i
IsWritten i form = IsPlain i × (plain_form i ≡ Some form)

-- the form that is found
abbrev pub FindsForm : List ℕ → Form → Type 0
FindsForm i form = (IsBinary i × (form ≡ Der)) ⊎ (¬ IsBinary i × (other_kind i ≡ None) × IsWritten i form)

-- a text of none of these forms
abbrev pub IsOtherText : List ℕ → Type 0
IsOtherText i = IsPlain i × (plain_form i ≡ None)

-- why no form is found: the input is a file of another kind, or another text
abbrev pub FindsNoForm : List ℕ → FormError → Type 0
FindsNoForm i (LooksLike kind) = ¬ IsBinary i × ((other_kind i ≡ Some kind.now)
    ⊎ ((other_kind i ≡ None) × IsOtherText i × (kind.now ≡ codes "a text file")))
FindsNoForm i e = ⊥
