-- The reading of an input, and the output for it.
use Rattle.std.specs.Prelude.{◌≡◌, ◌≢◌, ◌⊎◌, ◌&&◌, ◌<◌, ℕ, suc, Bool, true, false, Option, Some, None, List, []}
use Rattle.std.specs.Prelude.{◌++◌, Ok, if◌then◌else◌, IfSome, MatchBool, codes}
use Rattle.std.specs.Io.KnownBytes.{Keeps}
use Rattle.std.specs.Str.{bytes_eq}
use Rattle.base64.specs.Engines.{standard_pad_indifferent}
use Rattle.base64.specs.GeneralPurpose.{decode_of as base64_decode_of}
use Rattle.hex.specs.Hex.{decode_of as hex_decode_of}
use Rattle.der_input.specs.declared.error.FormError.{FormError}
use Rattle.der_input.specs.declared.form.Form.{Form}
use Rattle.der_input.specs.declared.form.Form.TheVariants.{Der, Pem, Hex, Base64}
use Rattle.der_input.specs.Blocks.{BeginsWithBlock, BreaksBlock, IsEncrypted, SpellsLines}
use Rattle.der_input.specs.Faults.{IsBase64Error}
use Rattle.der_input.specs.Forms.{FindsForm, FindsNoForm, HasNoBlock}
use Rattle.der_input.specs.Plain.{characters_of, digits_of}
use Rattle.der_actions.specs.declared.options.Action.TheVariants.{Check}
use Rattle.der_actions.specs.declared.options.Options.{Options}
use Rattle.der_cli.specs.Outputs.{IsRefusedBy, RefusesFile, WritesFile, WritesHeading, WritesInside}

-- the name of a file in messages
abbrev pub shown_name : List ℕ → List ℕ
shown_name name = if bytes_eq name (codes "-") then codes "standard input" else name

-- The octets of `-` are those of the standard input, if a contract knows these. Of a file nothing is known.
abbrev pub IsReadFrom : Option (List ℕ) → List ℕ → List ℕ → Type 0
IsReadFrom input name octets = name ≡ codes "-" → IfSome input (λ all. octets ≡ all)

-- the form of an input: the given one, or else the one that is detected
abbrev pub IsFormOf : Option Form → List ℕ → Form → Type 0
IsFormOf (Some asked) i form = asked ≡ form
IsFormOf None i form = FindsForm i form

-- the octets that an input encodes, in a form that has no blocks
abbrev pub Spells : Form → List ℕ → List ℕ → Type 0
Spells Der i w = w ≡ i
Spells Hex i w = hex_decode_of (digits_of i) ≡ Ok w
Spells Base64 i w = base64_decode_of standard_pad_indifferent (characters_of i) ≡ Ok w
Spells Pem i w = ⊥

-- no form is found for an input, or it encodes no octets in a form that has no blocks
pub data SpellsNothing (asked : Option Form) (i : List ℕ) : Type 0 where
  without_form : (e : FormError) → asked ≡ None → FindsNoForm i e → SpellsNothing asked i
  without_octets : (form : Form) → IsFormOf asked i form → form ≢ Pem → ((w : List ℕ) → ¬ Spells form i w)
      → SpellsNothing asked i

-- the octets of the n blocks of a text, one after another
pub data JoinsBlocks : ℕ → List ℕ → List ℕ → Type 0 where
  joins_none : {i : List ℕ} → HasNoBlock i → JoinsBlocks 0 i []
  joins_more : {n : ℕ} {i others : List ℕ} (label lines rest octets : List ℕ) → BeginsWithBlock i label lines rest
      → SpellsLines lines octets → JoinsBlocks n rest others → JoinsBlocks (suc n) i (octets ++ others)

-- the rest of a text after n blocks
pub data IsAfterBlocks (i : List ℕ) : ℕ → List ℕ → Type 0 where
  after_none : IsAfterBlocks i 0 i
  after_more : {n : ℕ} {j : List ℕ} (label lines rest : List ℕ) → IsAfterBlocks i n j
      → BeginsWithBlock j label lines rest → IsAfterBlocks i (suc n) rest

-- the lines of a block encode no octets: they are encrypted or aren't base64
pub data AreUndecoded (lines : List ℕ) : Type 0 where
  encrypted : IsEncrypted lines → AreUndecoded lines
  no_base64 : (e : FormError) → IsBase64Error lines e → AreUndecoded lines

-- A text has no block, or one whose lines encode no octets, or one that is broken, after n others.
pub data FailsAtBlock (i : List ℕ) : Type 0 where
  without_blocks : HasNoBlock i → FailsAtBlock i
  failed_block : (n : ℕ) (j label lines rest : List ℕ) → IsAfterBlocks i n j → BeginsWithBlock j label lines rest
      → AreUndecoded lines → FailsAtBlock i
  broken_block : (n : ℕ) (j : List ℕ) (e : FormError) → IsAfterBlocks i n j → BreaksBlock j e → FailsAtBlock i

-- the octets that an input encodes in a form: those of its blocks, at least one, or else of the whole
abbrev pub Decodes : Form → List ℕ → List ℕ → Type 0
Decodes Pem i w = (n : ℕ) × (0 < n) × JoinsBlocks n i w
Decodes Der i w = Spells Der i w
Decodes Hex i w = Spells Hex i w
Decodes Base64 i w = Spells Base64 i w

-- the octets that an input encodes, in the given form or else in the one that is detected
abbrev pub IsDecoded : Option Form → List ℕ → List ℕ → Type 0
IsDecoded asked i w = (form : Form) × IsFormOf asked i form × Decodes form i w

-- an input encodes no octets, nor do all its blocks
abbrev pub IsUndecoded : Option Form → List ℕ → Type 0
IsUndecoded asked i = SpellsNothing asked i ⊎ (IsFormOf asked i Pem × FailsAtBlock i)

-- an action tells why an input is rejected: it writes nothing, unless it is a check
abbrev pub TellsWhy : Options → Option (List ℕ) → Option (List ℕ) → Type 0
TellsWhy o old new = o.action ≢ Check → Keeps old new

-- a block with this label and these lines is accepted, with this output
abbrev pub ReadsBlock : Options → List ℕ → List ℕ → Option (List ℕ) → Option (List ℕ) → Type 0
ReadsBlock o label lines old new = (w : List ℕ) × SpellsLines lines w × WritesInside o.action o label w old new

-- a block with these lines is rejected: they encode no octets, or an action rejects these, with this output
pub data RefusesBlock (o : Options) (lines : List ℕ) (old new : Option (List ℕ)) : Type 0 where
  undecoded : AreUndecoded lines → TellsWhy o old new → RefusesBlock o lines old new
  refused : (w : List ℕ) → SpellsLines lines w → IsRefusedBy o.action o w old new → RefusesBlock o lines old new

-- a block is accepted or rejected, with a heading and this output
pub record TakesBlock (o : Options) (name label lines : List ℕ) (old new : Option (List ℕ)) (is_read : Bool)
    : Type 0 where
  pub between : Option (List ℕ)
  pub heading : WritesHeading o name label old between
  pub takes : MatchBool is_read (ReadsBlock o label lines between new) (RefusesBlock o lines between new)

-- The n blocks of a text are taken in order, each with its output, and whether all are accepted. The last may be
-- broken.
pub data TakesBlocks (o : Options) (name : List ℕ) : ℕ → List ℕ → Option (List ℕ) → Option (List ℕ) → Bool
    → Type 0 where
  no_block : {i : List ℕ} {old : Option (List ℕ)} → HasNoBlock i → TakesBlocks o name 0 i old old true
  broken_last : {i : List ℕ} {old new : Option (List ℕ)} (e : FormError) → BreaksBlock i e → TellsWhy o old new
      → TakesBlocks o name 1 i old new false
  one_more : {n : ℕ} {i : List ℕ} {old new : Option (List ℕ)} {all : Bool} (label lines rest : List ℕ)
      (between : Option (List ℕ)) (is_read : Bool) → BeginsWithBlock i label lines rest
      → TakesBlock o name label lines old between is_read → TakesBlocks o name n rest between new all
      → TakesBlocks o name (suc n) i old new (is_read && all)

-- the blocks of a text are taken, of which there is at least one, or it is rejected
pub data TakesPem (o : Options) (name i : List ℕ) (old new : Option (List ℕ)) : Bool → Type 0 where
  some_blocks : (n : ℕ) (all : Bool) → 0 < n → TakesBlocks o name n i old new all → TakesPem o name i old new all
  no_blocks : HasNoBlock i → TellsWhy o old new → TakesPem o name i old new false

-- An input is accepted to its end, with this output: for its octets, or for each of its blocks, at least one.
pub data ReadsInput (o : Options) (name i : List ℕ) (old new : Option (List ℕ)) : Type 0 where
  octets : (form : Form) (w : List ℕ) → IsFormOf o.form i form → Spells form i w → WritesFile o name w old new
      → ReadsInput o name i old new
  blocks : IsFormOf o.form i Pem → TakesPem o name i old new true → ReadsInput o name i old new

-- An input is rejected, with this output: it encodes no octets, or they are rejected, or one of its blocks is.
pub data RefusesInput (o : Options) (name i : List ℕ) (old new : Option (List ℕ)) : Type 0 where
  undecoded_input : SpellsNothing o.form i → TellsWhy o old new → RefusesInput o name i old new
  refused_octets : (form : Form) (w : List ℕ) → IsFormOf o.form i form → Spells form i w
      → RefusesFile o name w old new → RefusesInput o name i old new
  refused_blocks : IsFormOf o.form i Pem → TakesPem o name i old new false → RefusesInput o name i old new
