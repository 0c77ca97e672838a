-- Blocks of PEM as C sees them.
use Rattle.std.specs.Borrow.{Bor}
use Rattle.std.specs.Prelude.{◌≡◌, ℕ, List, Option, Some, None, Result, Ok, Err, IfErr, IfOk, MatchOption}
use Rattle.der_input.specs.declared.error.FormError.{FormError}
use Rattle.der_input.specs.declared.error.FormError.TheVariants.{NoBlock}
use Rattle.der_input.specs.declared.pem.Block.{Block}
use Rattle.der_input.specs.Blocks.{BeginsWithBlock, BreaksBlock, label_of, lines_of}
use Rattle.der_input.specs.Forms.{HasNoBlock}
use Rattle.der_input.specs.Slices.{DecodesLines}
use Rattle.c_values.specs.declared.octets.DmOctets.{DmOctets}
use Rattle.c_values.specs.declared.pem.DmPem.{DmPem}
use Rattle.c_values.specs.ErrorNumbers.{form_number}

-- the first block of a text, and what follows it (RFC 7468 2, 3), or none, or why the one that begins is none
abbrev pub AnswersBlock : List ℕ → Result (Option (Block × Bor (List ℕ))) FormError → Type 0
AnswersBlock text found = IfOk found (λ x. MatchOption x (HasNoBlock text)
    (λ b. BeginsWithBlock text (label_of b.0) (lines_of b.0) b.1.now))
    × IfErr found (BreaksBlock text)

-- how many octets there are, and 0; or no octets, and the number of the error
abbrev pub Counts : Result ℕ FormError → ℕ → ℕ → Type 0
Counts (Ok size) length k = (length ≡ size) × (k ≡ 0)
Counts (Err e) length k = (length ≡ 0) × (k ≡ form_number e)

-- A block's label is written. A buffer begins with the octets that its lines encode, where another one has n octets.
abbrev pub WritesBlock : Block → ℕ → List ℕ → DmPem → ℕ → Type 0
WritesBlock b n octets d k = (d.label.now ≡ label_of b)
    × (found : Result ℕ FormError) × DecodesLines (lines_of b) n octets found × Counts found d.length k

-- a call in C takes a block that was found, and the text goes on after it; or the number of the error, and both stay
abbrev pub TakesBlock : Result (Option (Block × Bor (List ℕ))) FormError → DmOctets → DmOctets → DmPem → DmPem
    → ℕ → List ℕ → ℕ → Type 0
TakesBlock (Ok (Some b)) old new block block' n octets k =
    (new.octets.now ≡ b.1.now) × WritesBlock b.0 n octets block' k
TakesBlock (Ok None) old new block block' n octets k = (new ≡ old) × (block' ≡ block) × (k ≡ form_number NoBlock)
TakesBlock (Err e) old new block block' n octets k = (new ≡ old) × (block' ≡ block) × (k ≡ form_number e)
