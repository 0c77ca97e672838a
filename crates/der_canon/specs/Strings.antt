-- Strings in parts, and the contents that DER has for them.
use Rattle.std.specs.Prelude.{◌≡◌, ℕ, ◌<◌, ◌≤◌, true, false, Option, Some, None, List, [], ◌∷◌, ◌++◌, length}
use Rattle.std.specs.List.{All}
use Rattle.der_base.specs.declared.rules.Rules.TheVariants.{Ber, Der}
use Rattle.der_contents.specs.declared.content_error.ContentError.{ContentError}
use Rattle.der_contents.specs.ContentRules.{IsContent, IsFirstBroken, content_rules}
use Rattle.der_elements.specs.declared.walk.Walk.{Walk}
use Rattle.der_elements.specs.Visits.{Visited, Visits}
use Rattle.der_elements.specs.Walked.{HasVisited}
use Rattle.der_canon.specs.declared.strings.Broken.{Broken}
use Rattle.der_canon.specs.declared.strings.InParts.{InParts}
use Rattle.der_canon.specs.declared.writer.Writer.{Writer}
use Rattle.der_canon.specs.Contents.{Contents, all_octets, with_part_of}
use Rattle.der_canon.specs.Same.{content_of, is_in_parts, no_extras, string_start}
use Rattle.der_canon.specs.Writing.{HasWritten}

-- the content x of a string, with those of these parts
abbrev pub with_parts : List ℕ → List Visited → List ℕ → List ℕ
with_parts i [] x = x
with_parts i (p ∷ ps) x = with_parts i ps (with_part_of p.constructed p.number (content_of i p) x)

-- the content octets of the string v in these parts, as DER writes it
abbrev pub joined_content : List ℕ → Visited → List Visited → List ℕ
joined_content i v parts = with_parts i parts (string_start v.number)

-- after the elements vs of i there is none, or one that isn't deeper than k
pub data EndsAfter (i : List ℕ) (vs : List Visited) (k : ℕ) : Type 0 where
  next : (w : Walk) (u : Visited) → HasVisited no_extras Ber i w (vs ++ u ∷ []) → u.depth ≤ k → EndsAfter i vs k
  last : Visits no_extras Ber 101 0 0 i vs → EndsAfter i vs k

-- The content of a string in parts breaks a rule of DER for its type, and this is the first.
pub record IsBroken (i : List ℕ) (offset : ℕ) (error : ContentError) : Type 0 where
  pub before : List Visited
  pub string : Visited
  pub parts : List Visited
  pub in_parts : is_in_parts string ≡ true
  pub inside : All (λ p. string.depth < p.depth) parts
  pub all : EndsAfter i (before ++ string ∷ parts) string.depth
  pub broken : IsFirstBroken (content_rules Der string.number (joined_content i string parts)) error
  pub place : offset ≡ string.offset

-- the string of which more parts may follow the elements vs, and its content so far
pub data HasString (i : List ℕ) (vs : List Visited) (c : Contents) (s : Option InParts) : Type 0 where
  none : c.string ≡ None → s ≡ None → HasString i vs c s
  some : (before parts : List Visited) (v : Visited) (p : InParts) → s ≡ Some p → p.offset ≡ v.offset
      → p.number ≡ v.number → is_in_parts v ≡ true → vs ≡ before ++ v ∷ parts → All (λ u. v.depth < u.depth) parts
      → c.string ≡ Some v.depth → c.here ≡ joined_content i v parts → c.number ≡ v.number → HasString i vs c s

-- the string that an element begins, if it is one in parts
abbrev pub IsStringIn : Visited → Option InParts → Type 0
IsStringIn v None = is_in_parts v ≡ false
IsStringIn v (Some p) = (is_in_parts v ≡ true) × (p.offset ≡ v.offset) × (p.number ≡ v.number)

-- the content that is written for the string breaks a rule
abbrev pub IsBrokenIn : Option InParts → Writer → List ℕ → Broken → Type 0
IsBrokenIn s a out b = (p : InParts) × (s ≡ Some p) × (b.offset ≡ p.offset) × ((xs : List (List ℕ)) (x : List ℕ)
    → HasWritten xs x a out → IsFirstBroken (content_rules Der p.number x) b.error)

-- the content that is written for the string keeps the rules, if the buffer has it
abbrev pub IsKeptIn : Option InParts → Writer → List ℕ → Type 0
IsKeptIn s a out = (p : InParts) → s ≡ Some p → (xs : List (List ℕ)) (x : List ℕ) → HasWritten xs x a out
    → length (all_octets xs x) ≤ length out → IsContent Der p.number x
