-- What the functions that count octets find.
use Rattle.std.specs.Borrow.{Bor}
use Rattle.std.specs.Prelude.{◌≡◌, ℕ, ◌+◌, ◌*◌, ◌^◌, ◌≤◌, ◌⊎◌, true, false, Some, List, [], ◌∷◌, ◌++◌, length}
use Rattle.std.specs.Prelude.{Option, MatchOption, if◌then◌else◌, unwrap_or, IsSome}
use Rattle.der_base.specs.Octets.{identifier}
use Rattle.der_elements.specs.declared.element.Element.{Element}
use Rattle.der_elements.specs.Visits.{Visited}
use Rattle.der_elements.specs.Walked.{visited_of}
use Rattle.der_canon.specs.declared.piece.Piece.{Piece}
use Rattle.der_canon.specs.declared.size.Sizes.{Sizes}
use Rattle.der_canon.specs.Pieces.{has_header}
use Rattle.der_canon.specs.Sizes.{Ends, part_size, start_size, with_length}

-- an element with a header was added
pub data AddsElement (e : Element) (a b : Sizes) : Type 0 where
  primitive : (k : ℕ) (w : Bor (List ℕ)) → e.constructed ≡ false
      → Ends e.depth a.around.items a.here b.around.items k → e.content ≡ Some w
      → b.here ≡ k + length e.identifier.now + with_length (length w.now) → AddsElement e a b
  constructed : (ks : List ℕ) (k : ℕ) → e.constructed ≡ true → Ends e.depth a.around.items a.here ks k
      → b.around.items ≡ ks ++ (k + length e.identifier.now) ∷ [] → b.here ≡ start_size (visited_of e)
      → AddsElement e a b

-- a part of a string was added
pub data AddsPart (e : Element) (a b : Sizes) : Type 0 where
  primitive : (w : Bor (List ℕ)) → e.constructed ≡ false → e.content ≡ Some w → b.around.items ≡ a.around.items
      → b.here ≡ a.here + part_size false e.number w.now → AddsPart e a b
  constructed : e.constructed ≡ true → b.around.items ≡ a.around.items → b.here ≡ a.here → AddsPart e a b

abbrev pub AddsPiece : Piece → Sizes → Sizes → Type 0
AddsPiece x a b = ((has_header x.form ≡ false) × AddsPart x.element a b)
    ⊎ ((has_header x.form ≡ true) × AddsElement x.element a b)

abbrev pub sum : List ℕ → ℕ
sum [] = 0
sum (n ∷ ns) = n + sum ns

-- The contents that go on have at most so many octets in all when they have ended: a length below 2^64 has nine octets
-- at most (8.1.3.5).
abbrev pub most : Sizes → ℕ
most a = sum a.around.items + a.here + 9 * length a.around.items

-- an element makes it so many more at most: its identifier, its length, the octet for unused bits and its content
abbrev pub cost : Visited → ℕ
cost v = length (identifier v.class v.constructed v.number) + 10 + (if v.constructed then 0 else unwrap_or v.length 0)

abbrev pub costs : List Visited → ℕ
costs [] = 0
costs (v ∷ vs) = cost v + costs vs

-- the contents b come to n octets at most; or they can't be counted, and n are too many
abbrev pub ComesTo : ℕ → Sizes → Option (Unit {0}) → Type 0
ComesTo n b result = MatchOption result (2 ^ 64 ≤ n) (λ _. most b ≤ n)

-- an element that a walk found: it isn't too deep, and has a content if it is primitive
pub record IsFound (e : Element) : Type 0 where
  pub depth : e.depth ≤ 100
  pub identifier : e.identifier.now ≡ identifier e.class e.constructed e.number
  pub content : (w : Bor (List ℕ)) → e.content ≡ Some w → e.length ≡ Some (length w.now)
  pub primitive : e.constructed ≡ false → IsSome e.content
