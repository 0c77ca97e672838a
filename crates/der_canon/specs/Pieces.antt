-- What the private functions find.
use Rattle.std.specs.Prelude.{◌≡◌, Bool, true, false, not, Option, Some, None}
use Rattle.std.specs.Prelude.{List, [], ◌∷◌, ◌++◌, Result, Ok, Err, ℕ, ◌≤◌}
use Rattle.der_base.specs.declared.rules.Rules.TheVariants.{Ber, Der}
use Rattle.der_base.specs.declared.header.Class.TheVariants.{Universal}
use Rattle.der_contents.specs.ContentRules.{IsContent}
use Rattle.der_elements.specs.declared.error.ElementError.{ElementError}
use Rattle.der_elements.specs.Visits.{Visited, Visits}
use Rattle.der_elements.specs.Walked.{HasOctets, HasVisited, visited_of}
use Rattle.der_canon.specs.declared.piece.Form.{Form}
use Rattle.der_canon.specs.declared.piece.Form.TheVariants.{Part, Primitive}
use Rattle.der_canon.specs.declared.piece.Parts.{Parts}
use Rattle.der_canon.specs.declared.piece.Piece.{Piece}
use Rattle.der_canon.specs.declared.piece.Pieces.{Pieces}
use Rattle.der_canon.specs.Same.{content_of, is_part, parts_of, no_extras}
use Rattle.der_canon.specs.Values.{content_in_der}

abbrev pub has_header : Form → Bool
has_header Part = false
has_header _ = true

abbrev pub depth_of : Option Parts → Option ℕ
depth_of (Some p) = Some p.depth
depth_of None = None

-- the form of an element, and the string whose parts may follow
pub record IsForm (s : Option Parts) (v : Visited) (form : Form) (s' : Option Parts) : Type 0 where
  pub header : has_header form ≡ not (is_part (depth_of s) v)
  pub part : is_part (depth_of s) v ≡ true → depth_of s' ≡ depth_of s
  pub whole : is_part (depth_of s) v ≡ false → depth_of s' ≡ parts_of v
  pub primitive : has_header form ≡ true → v.constructed ≡ false → form ≡ Primitive

-- the content of a primitive element that is no part keeps DER's rules, as DER writes it
abbrev pub KeepsForm : List ℕ → Visited → Form → Type 0
KeepsForm i v form = has_header form ≡ true → v.constructed ≡ false → v.class ≡ Universal
    → IsContent Der v.number (content_in_der v.number (content_of i v))

-- one more piece, or the end of the input
abbrev pub PieceNext : List ℕ → List Visited → Option Parts → Pieces → Result (Option Piece) ElementError → Type 0
PieceNext i vs s p (Ok (Some x)) = HasVisited no_extras Ber i p.walk (vs ++ visited_of x.element ∷ [])
    × HasOctets i x.element × IsForm s (visited_of x.element) x.form p.parts × (x.element.depth ≤ 100)
    × KeepsForm i (visited_of x.element) x.form
PieceNext i vs s p (Ok None) = Visits no_extras Ber 101 0 0 i vs
PieceNext i vs s p (Err e) = Unit {0}
