-- Blocks of PEM with text around them (RFC 7468).
use Rattle.std.specs.Prelude.{◌≡◌, ◌≢◌, ℕ, ◌+◌, ◌<◌, ◌==◌, ◌&&◌, ◌||◌, Bool, true, false, if◌then◌else◌}
use Rattle.std.specs.Prelude.{Option, Some, None}
use Rattle.std.specs.Prelude.{List, [], ◌∷◌, ◌++◌, length, take, drop, reverse, codes, find, ◌⊎◌, Ok}
use Rattle.std.specs.List.{range_with_len}
use Rattle.std.specs.Option.{option_map_or}
use Rattle.base64.specs.Engines.{standard_pad_indifferent}
use Rattle.base64.specs.GeneralPurpose.{decode_of as base64_decode_of}
use Rattle.bstr.specs.Find.{OccursAt, occurs_at}
use Rattle.bstr.specs.Text.{Contains}
use Rattle.der_input.specs.declared.error.FormError.{FormError}
use Rattle.der_input.specs.declared.error.FormError.TheVariants.{Encrypted, LabelsDiffer, NoEnd, OutOfMemory}
use Rattle.der_input.specs.declared.pem.Block.{Block}
use Rattle.der_input.specs.Faults.{IsBase64Error}
use Rattle.der_input.specs.Marks.{ends_in, is_mark}
use Rattle.der_input.specs.Plain.{characters_of}

-- what may be before a block on its line: white space, quotes, the mark that a mail has there, and the mark at the
-- begin of a file of UTF-8
abbrev pub is_indent : ℕ → Bool
is_indent c = is_mark (codes " \t>\"'" ++ 0xef ∷ 0xbb ∷ 0xbf ∷ []) c

-- a text ends in the end of a line, which may be an escape, as in JSON
abbrev pub ends_line : List ℕ → Bool
ends_line before = ends_in before (codes "\n") || ends_in before (codes "\r")
    || ends_in before (codes "\\n") || ends_in before (codes "\\r")

-- whether a line begins, or nothing but an indent is on it yet, by the octets before, the last of them first
abbrev pub begins_line_after : List ℕ → Bool
begins_line_after [] = true
begins_line_after (c ∷ before) = if is_indent c then begins_line_after before else ends_line (reverse (c ∷ before))

abbrev pub begins_line : List ℕ → Bool
begins_line before = begins_line_after (reverse before)

-- the first backslash or quote is a backslash
abbrev pub has_escape_first : List ℕ → Bool
has_escape_first text = option_map_or (λ c. c == 0x5c) (find (λ c. c == 0x5c || c == 0x22) text) false

-- a string of JSON begins in which a line ends, by the octets before and behind its begin
abbrev pub begins_string : List ℕ → List ℕ → Bool
begins_string before behind = ends_in before (codes "\"") && has_escape_first behind

-- a block begins at the start of a line (RFC 7468 2, 3), or of such a string
abbrev pub begins_here : List ℕ → ℕ → Bool
begins_here i k = begins_line (take k i) || begins_string (take k i) (drop k i)

abbrev pub begins_block : List ℕ → ℕ → Bool
begins_block i k = occurs_at i (codes "-----BEGIN ") k && begins_here i k

-- where the first one does
abbrev pub first_begin : List ℕ → Option ℕ
first_begin i = find (begins_block i) (range_with_len 0 (length i))

-- what follows its first octets, which are eleven
abbrev pub OpensBlock : List ℕ → List ℕ → Type 0
OpensBlock text opened = (k : ℕ) × (first_begin text ≡ Some k) × (opened ≡ drop (k + 11) text)

-- text is split round the first place where a needle occurs
pub record SplitsRound (text needle before after : List ℕ) : Type 0 where
  pub whole : text ≡ before ++ (needle ++ after)
  pub first : (k : ℕ) → k < length before → ¬ OccursAt text needle k

-- A block begins. Its label ends at the first dashes (RFC 7468 3), and opened follows them.
abbrev pub HasLabel : List ℕ → List ℕ → List ℕ → Type 0
HasLabel text label opened = (block : List ℕ) × OpensBlock text block × SplitsRound block (codes "-----") label opened

-- no block begins, or no dashes follow its begin
abbrev pub HasNoBegin : List ℕ → Type 0
HasNoBegin text = first_begin text ≡ None

abbrev pub HasNoLabel : List ℕ → Type 0
HasNoLabel text = HasNoBegin text ⊎ ((block : List ℕ) × OpensBlock text block × ¬ Contains block (codes "-----"))

-- what callers see of a block
abbrev pub label_of : Block → List ℕ
label_of b = b.label.now

abbrev pub lines_of : Block → List ℕ
lines_of b = b.lines.now

-- A line ends a block, and no other dashes are before it: lines are before it, and end follows its first octets.
pub record EndsLines (opened lines end : List ℕ) : Type 0 where
  pub split : SplitsRound opened (codes "-----END ") lines end
  pub inside : ¬ Contains lines (codes "-----")

-- none does, or other dashes are before the first that would
abbrev pub HasNoEnd : List ℕ → Type 0
HasNoEnd opened = (lines end : List ℕ) → ¬ EndsLines opened lines end

-- The first block of a text: a line with its label begins it, one with the same label ends it, and rest follows.
pub record BeginsWithBlock (text label lines rest : List ℕ) : Type 0 where
  pub opened : List ℕ
  pub begin : HasLabel text label opened
  pub end : EndsLines opened lines (label ++ (codes "-----" ++ rest))

-- Why no block is found though one begins: no dashes follow its label, no line ends it, no dashes follow the label of
-- the line that does, or that is another label.
pub data BreaksBlock (text : List ℕ) : FormError → Type 0 where
  endless_label : {e : FormError} (block : List ℕ) → e ≡ NoEnd → OpensBlock text block
      → ¬ Contains block (codes "-----") → BreaksBlock text e
  endless_lines : {e : FormError} (label opened : List ℕ) → e ≡ NoEnd → HasLabel text label opened
      → HasNoEnd opened → BreaksBlock text e
  endless_end : {e : FormError} (label opened lines end : List ℕ) → e ≡ NoEnd → HasLabel text label opened
      → EndsLines opened lines end → ¬ Contains end (codes "-----") → BreaksBlock text e
  other_label : {e : FormError} (label opened lines end last rest : List ℕ) → e ≡ LabelsDiffer
      → HasLabel text label opened → EndsLines opened lines end → SplitsRound end (codes "-----") last rest
      → last ≢ label → BreaksBlock text e

-- the lines of a block have the header of encrypted ones (RFC 1421 4.6.1.1)
abbrev pub IsEncrypted : List ℕ → Type 0
IsEncrypted lines = Contains lines (codes "Proc-Type: 4,ENCRYPTED")

-- the octets that the lines of a block encode, and why they encode none
abbrev pub SpellsLines : List ℕ → List ℕ → Type 0
SpellsLines lines w = ¬ IsEncrypted lines × (base64_decode_of standard_pad_indifferent (characters_of lines) ≡ Ok w)

abbrev pub RefusesLines : List ℕ → FormError → Type 0
RefusesLines lines e = (e ≡ OutOfMemory) ⊎ ((e ≡ Encrypted) × IsEncrypted lines) ⊎ IsBase64Error lines e
