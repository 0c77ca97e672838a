-- Inputs of DER or PEM, decoded into a buffer.
use Rattle.std.specs.Prelude.{◌≡◌, ℕ, ◌-◌, ◌<◌, ◌≤◌, ◌/◌, ◌⊎◌, List, length, take, Option, Some, None, Result, Ok, Err}
use Rattle.std.specs.Prelude.{IfErr, IfOk}
use Rattle.std.specs.Borrow.{Bor}
use Rattle.der_input.specs.declared.error.FormError.{FormError}
use Rattle.der_input.specs.declared.error.FormError.TheVariants.{NoBlock, OutOfMemory}
use Rattle.der_input.specs.declared.form.Form.{Form}
use Rattle.der_input.specs.declared.form.Form.TheVariants.{Pem}
use Rattle.der_input.specs.declared.pem.Block.{Block}
use Rattle.der_input.specs.Blocks.{lines_of}
use Rattle.der_input.specs.Forms.{FindsForm, FindsNoForm}
use Rattle.der_input.specs.Slices.{DecodesLines}
use Rattle.c_values.specs.Pem.{AnswersBlock, Counts}

-- The octets of the first block of a text, where half of the buffer is for them, and n octets for its characters.
abbrev pub DecodesFound : Result (Option (Block × Bor (List ℕ))) FormError → ℕ → List ℕ → ℕ → ℕ → Type 0
DecodesFound (Ok (Some b)) n octets size k =
    (r : Result ℕ FormError) × DecodesLines (lines_of b.0) n octets r × Counts r size k
DecodesFound (Ok None) n octets size k = Counts (Err NoBlock) size k
DecodesFound (Err e) n octets size k = Counts (Err e) size k

abbrev pub DecodesFirst : List ℕ → List ℕ → List ℕ → ℕ → ℕ → Type 0
DecodesFirst text room room' size k = let half = length room / 2 in
    (found : Result (Option (Block × Bor (List ℕ))) FormError) × AnswersBlock text found
    × DecodesFound found (length room - half) (take half room') size k

-- the octets are copied, or there is no room for them
abbrev pub Copies : List ℕ → List ℕ → List ℕ → ℕ → ℕ → Type 0
Copies i room room' size k =
    ((length i ≤ length room) × (take (length i) room' ≡ i) × Counts (Ok (length i)) size k)
    ⊎ ((length room < length i) × (room' ≡ room) × Counts (Err OutOfMemory) size k)

-- an input of this form: the first block of PEM, or the input as it is if it isn't PEM
abbrev pub DecodesForm : Result Form FormError → List ℕ → List ℕ → List ℕ → ℕ → ℕ → Type 0
DecodesForm (Ok Pem) i room room' size k = DecodesFirst i room room' size k
DecodesForm form i room room' size k = Copies i room room' size k

-- a buffer gets the octets of an input, whose form a look at it finds
abbrev pub DecodesInput : List ℕ → List ℕ → List ℕ → ℕ → ℕ → Type 0
DecodesInput i room room' size k = (form : Result Form FormError) × IfOk form (FindsForm i)
    × IfErr form (FindsNoForm i) × DecodesForm form i room room' size k
