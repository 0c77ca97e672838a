-- What the functions that write find.
use Rattle.std.specs.Borrow.{Bor}
use Rattle.std.specs.Prelude.{◌≡◌, ℕ, ◌<◌, ◌≤◌, ◌⊎◌, true, false, not, Some, List, [], ◌∷◌, ◌++◌, length, take}
use Rattle.der_base.specs.Encoding.{element}
use Rattle.der_base.specs.Octets.{identifier}
use Rattle.der_elements.specs.declared.element.Element.{Element}
use Rattle.der_elements.specs.Walked.{visited_of}
use Rattle.der_canon.specs.declared.piece.Piece.{Piece}
use Rattle.der_canon.specs.declared.writer.Writer.{Writer}
pub use Rattle.der_canon.specs.Contents.{all_octets}
use Rattle.der_canon.specs.Contents.{AreWritten, KeepsIn, Completes, sized, start_of, with_part_of}
use Rattle.der_canon.specs.Pieces.{has_header}
use Rattle.der_canon.specs.Same.{is_in_parts}
use Rattle.der_canon.specs.Values.{value_in_der}

-- if the buffer has room for the octets w, so many are written, and it begins with them; else they are more than it has
abbrev pub Holds : List ℕ → ℕ → List ℕ → Type 0
Holds w n out = (length w ≤ length out → (n ≡ length w) × (take n out ≡ w))
    × (length out < length w → length out < n)

-- where the lengths are written, the innermost last
abbrev pub HasStarts : List (List ℕ) → List ℕ → Type 0
HasStarts [] ns = ns ≡ []
HasStarts (z ∷ zs) ns = (n : ℕ) × (ms : List ℕ) × (ns ≡ ms ++ n ∷ []) × (n ≡ length (all_octets zs z))
    × HasStarts zs ms

-- a writer has written contents
pub record HasWritten (xs : List (List ℕ)) (x : List ℕ) (s : Writer) (out : List ℕ) : Type 0 where
  pub count : length s.starts.items ≡ length xs
  pub held : Holds (all_octets xs x) s.end out
  pub starts : length (all_octets xs x) ≤ length out → HasStarts xs s.starts.items

-- these octets are written after those before
pub record Puts (e : List ℕ) (a : Writer) (old : List ℕ) (b : Writer) (new : List ℕ) : Type 0 where
  pub size : length new ≡ length old
  pub starts : b.starts ≡ a.starts
  pub held : (w : List ℕ) → Holds w a.end old → Holds (w ++ e) b.end new

-- all since an offset is the content of one element, and has its length octets in place of the octet there
pub record PutsLength (start : ℕ) (a : Writer) (old : List ℕ) (b : Writer) (new : List ℕ) : Type 0 where
  pub size : length new ≡ length old
  pub starts : b.starts ≡ a.starts
  pub held : (w x : List ℕ) → (length (w ++ 0 ∷ x) ≤ length old → start ≡ length w) → Holds (w ++ 0 ∷ x) a.end old
      → Holds (w ++ sized x) b.end new

-- the contents that have more than k around them are complete
abbrev pub HasCompleted : ℕ → List (List ℕ) → List ℕ → Writer → List ℕ → Type 0
HasCompleted k xs x s out = (ys : List (List ℕ)) × (y : List ℕ) × Completes k xs x ys y × HasWritten ys y s out

-- an element with a header was written
pub data PutsElement (e : Element) (xs : List (List ℕ)) (x : List ℕ) (s : Writer) (out : List ℕ) : Type 0 where
  primitive : (ys : List (List ℕ)) (g : List ℕ) (w : Bor (List ℕ)) → e.constructed ≡ false → e.content ≡ Some w
      → Completes e.depth xs x ys g
      → HasWritten ys (g ++ element e.class false e.number (value_in_der e.class e.number w.now)) s out
      → PutsElement e xs x s out
  constructed : (gs : List (List ℕ)) (g : List ℕ) → e.constructed ≡ true → Completes e.depth xs x gs g
      → HasWritten ((g ++ identifier e.class (not (is_in_parts (visited_of e))) e.number) ∷ gs)
      (start_of (visited_of e)) s out → PutsElement e xs x s out

-- a part of a string was written
pub data PutsPart (e : Element) (xs : List (List ℕ)) (x : List ℕ) (s : Writer) (out : List ℕ) : Type 0 where
  primitive_part : (w : Bor (List ℕ)) → e.constructed ≡ false → e.content ≡ Some w
      → HasWritten xs (with_part_of false e.number w.now x) s out → PutsPart e xs x s out
  constructed_part : e.constructed ≡ true → HasWritten xs x s out → PutsPart e xs x s out

abbrev pub PutsPiece : Piece → List (List ℕ) → List ℕ → Writer → List ℕ → Type 0
PutsPiece p xs x s out = ((has_header p.form ≡ false) × PutsPart p.element xs x s out)
    ⊎ ((has_header p.form ≡ true) × PutsElement p.element xs x s out)

-- the buffer begins with the elements of i, if it has room for them
abbrev pub WritesInput : List ℕ → List ℕ → Type 0
WritesInput i out = (o : List ℕ) × AreWritten (KeepsIn (length out)) i o
    × (length o ≤ length out → take (length o) out ≡ o)
