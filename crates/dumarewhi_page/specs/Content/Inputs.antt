-- The form of an input and its octets, as the page sees them.
use Rattle.std.specs.Borrow.{Bor}
use Rattle.std.specs.Prelude.{◌≡◌, ℕ, ◌⊎◌, List, [], Option, Some, None, Result, Ok, Err, IfErr, IfOk, MatchOption}
use Rattle.der_input.specs.declared.error.FormError.{FormError}
use Rattle.der_input.specs.declared.error.FormError.TheVariants as error
use Rattle.der_input.specs.declared.form.Form.{Form}
use Rattle.der_input.specs.declared.form.Form.TheVariants as form
use Rattle.der_input.specs.declared.pem.Block.{Block}
use Rattle.der_input.specs.Blocks.{BeginsWithBlock, BreaksBlock, HasLabel, HasNoLabel, label_of, lines_of}
use Rattle.der_input.specs.Forms.{FindsForm, FindsNoForm, HasNoBlock}
use Rattle.der_input.specs.Slices.{DecodesBase64, DecodesDigits, DecodesLines}
use Rattle.dumarewhi_page.specs.declared.content.input.PageBlock.{PageBlock}

-- forms and errors by numbers
abbrev pub form_number : Form → ℕ
form_number form.Der = 0
form_number form.Pem = 1
form_number form.Hex = 2
form_number form.Base64 = 3

abbrev pub error_number : FormError → ℕ
error_number (error.LooksLike kind) = 10
error_number error.Hex = 11
error_number (error.Base64 fault) = 12
error_number error.NoBlock = 13
error_number error.NoEnd = 14
error_number error.LabelsDiffer = 15
error_number error.Encrypted = 16
error_number error.OutOfMemory = 17

-- the number of the form of an input, or of why it has none
abbrev pub NumbersForm : Result Form FormError → ℕ → Type 0
NumbersForm (Ok f) n = n ≡ form_number f
NumbersForm (Err e) n = n ≡ error_number e

abbrev pub AnswersForm : List ℕ → ℕ → Type 0
AnswersForm i n = (found : Result Form FormError) × IfOk found (FindsForm i) × IfErr found (FindsNoForm i)
    × NumbersForm found n

-- how many octets there are, and 0, or the number of an error
abbrev pub Answers : Result ℕ FormError → ℕ → ℕ → Type 0
Answers (Ok size) after n = (after ≡ size) × (n ≡ 0)
Answers (Err e) after n = (after ≡ 0) × (n ≡ error_number e)

-- A buffer begins with the octets of digits or of base64. Another one has n octets.
abbrev pub AnswersDigits : List ℕ → ℕ → List ℕ → ℕ → ℕ → Type 0
AnswersDigits i n octets after k = (found : Result ℕ FormError) × DecodesDigits i n octets found × Answers found after k

abbrev pub AnswersBase64 : List ℕ → ℕ → List ℕ → ℕ → ℕ → Type 0
AnswersBase64 i n octets after k = (found : Result ℕ FormError) × DecodesBase64 i n octets found × Answers found after k

-- the first block of a text (RFC 7468 2, 3), or none, or why the one that begins is none
abbrev pub Found : Type 0
Found = Result (Option (Block × Bor (List ℕ))) FormError

abbrev pub FindsBlock : List ℕ → Found → Type 0
FindsBlock text found = IfOk found (λ x. MatchOption x (HasNoBlock text)
    (λ b. BeginsWithBlock text (label_of b.0) (lines_of b.0) b.1.now))
    × IfErr found (BreaksBlock text)

-- a block's label, what follows it, and its octets; or the error's number
abbrev pub WritesBlock : Block → ℕ → List ℕ → PageBlock → ℕ → Type 0
WritesBlock b n w p k = (found : Result ℕ FormError) × DecodesLines (lines_of b) n w found × Answers found p.size k

-- a broken block has no octets: its label, if it has one, and the text that follows
abbrev pub SkipsBlock : List ℕ → PageBlock → Type 0
SkipsBlock text p = (p.size ≡ 0)
    × (HasLabel text p.label.now p.rest.now ⊎ (HasNoLabel text × (p.label.now ≡ []) × (p.rest.now ≡ [])))

abbrev pub AnswersBlock : List ℕ → Found → ℕ → List ℕ → PageBlock → ℕ → Type 0
AnswersBlock text (Ok (Some b)) n octets p k =
    (p.label.now ≡ label_of b.0) × (p.rest.now ≡ b.1.now) × WritesBlock b.0 n octets p k
AnswersBlock text (Ok None) n octets p k = k ≡ error_number error.NoBlock
AnswersBlock text (Err e) n octets p k = (k ≡ error_number e) × SkipsBlock text p
