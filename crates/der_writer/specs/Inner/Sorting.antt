-- How the elements of a SET OF are brought into order: each is put in front of the first greater one.
use Rattle.std.specs.Prelude.{◌≡◌, ℕ, ◌+◌, ◌≤◌, ◌==◌, ◌&&◌, ◌||◌, if◌then◌else◌, nat_lt, Bool, false}
use Rattle.std.specs.Prelude.{List, [], ◌∷◌, ◌++◌, length, take, drop}
use Rattle.std.specs.List.{AllByRecursion, concat}
use Rattle.der_writer.specs.SetsOf.{IsElement}

-- a is the greater (`Descends` of der_base)
abbrev pub is_greater : List ℕ → List ℕ → Bool
is_greater [] b = false
is_greater (x ∷ a) [] = nat_lt 0 x || is_greater a []
is_greater (x ∷ a) (y ∷ b) = nat_lt y x || (x == y && is_greater a b)

-- an element in front of the first that is greater
abbrev pub with_element : List ℕ → List (List ℕ) → List (List ℕ)
with_element s [] = s ∷ []
with_element s (t ∷ ts) = if is_greater t s then s ∷ t ∷ ts else t ∷ with_element s ts

-- elements, each put so into those before
abbrev pub sorted_from : List (List ℕ) → List (List ℕ) → List (List ℕ)
sorted_from ts [] = ts
sorted_from ts (s ∷ ss) = sorted_from (with_element s ts) ss

abbrev pub sorted : List (List ℕ) → List (List ℕ)
sorted ss = sorted_from [] ss

-- how many octets the element has that octets begin with
pub record Measures (octets : List ℕ) (size : ℕ) : Type 0 where
  pub some : 1 ≤ length octets → 1 ≤ size
  pub within : size ≤ length octets
  pub exact : (s rest : List ℕ) → IsElement s → octets ≡ s ++ rest → size ≡ length s

-- the octets at an offset belong at the place, if elements in order precede them
abbrev pub IsPlaceOf : List ℕ → ℕ → ℕ → Type 0
IsPlaceOf content last place = (ts : List (List ℕ)) (s : List ℕ) → AllByRecursion IsElement ts
    → content ≡ concat ts ++ s → last ≡ length (concat ts)
    → take place (concat ts) ++ (s ++ drop place (concat ts)) ≡ concat (with_element s ts)

-- they are put there
pub record Inserts (last : ℕ) (old new : List ℕ) : Type 0 where
  pub size : length new ≡ length old
  pub put : (ts : List (List ℕ)) (s : List ℕ) → AllByRecursion IsElement ts
      → old ≡ concat ts ++ s → last ≡ length (concat ts) → new ≡ concat (with_element s ts)

-- elements are sorted
pub record Sorts (old new : List ℕ) : Type 0 where
  pub size : length new ≡ length old
  pub sorts : (ss : List (List ℕ)) → AllByRecursion IsElement ss → old ≡ concat ss → new ≡ concat (sorted ss)

-- the same between two offsets, if there are so many octets
pub record SortsBetween (begin end : ℕ) (old new : List ℕ) : Type 0 where
  pub size : length new ≡ length old
  pub behind : drop end new ≡ drop end old
  pub sorts : (before : List ℕ) (ss : List (List ℕ)) → AllByRecursion IsElement ss → begin ≡ length before
      → end ≡ begin + length (concat ss) → end ≤ length old → take end old ≡ before ++ concat ss
      → take end new ≡ before ++ concat (sorted ss)
