-- The elements of a SET OF, in ascending order (X.690 11.6).
use Rattle.std.specs.Prelude.{◌≡◌, ℕ, ◌^◌, ◌<◌, Bool, List, ◌++◌, length, All}
use Rattle.std.specs.List.{concat}
use Rattle.std.specs.List.Sorted.{IsPermutation}
use Rattle.der_base.specs.declared.header.Class.{Class}
use Rattle.der_base.specs.Encoding.{element}
use Rattle.der_base.specs.Octets.{shortest_length}
use Rattle.der_base.specs.SetOfOrder.{IsAscending}
use Rattle.der_writer.specs.declared.writer.Mark.{Mark}
use Rattle.der_writer.specs.declared.writer.Writer.{Writer}
use Rattle.der_writer.specs.Written.{HasWritten, IsAfter, IsInnermost, IsPlain, KeepsBuffer, reserved}

-- one element
abbrev pub IsElement : List ℕ → Type 0
IsElement b = (c : Class) × (p : Bool) × (t : ℕ) × (w : List ℕ) × (t < 2 ^ 32) × (b ≡ element c p t w)

-- the same elements in ascending order
pub record IsInOrder (ss ts : List (List ℕ)) : Type 0 where
  pub same : IsPermutation ss ts
  pub ascend : IsAscending ts

-- The mark's element is closed, as by `Closes`. If all since are elements, its content is the same elements in
-- ascending order.
pub record ClosesSetOf (m : Mark) (old new : Writer) : Type 0 where
  pub keeps : KeepsBuffer old new
  pub plain : IsPlain new
  pub closed : IsInnermost m old → new.innermost ≡ m.outer
  pub stays : ¬ IsInnermost m old → new.innermost ≡ old.innermost
  pub written : (ss : List (List ℕ)) → All IsElement ss → (ts : List (List ℕ)) × IsInOrder ss ts
      × ((before : List ℕ) → IsInnermost m old → IsAfter before m
      → HasWritten (before ++ reserved ++ concat ss) old
      → HasWritten (before ++ (shortest_length (length (concat ts)) ++ concat ts)) new)
