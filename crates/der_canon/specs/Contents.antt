-- The contents that are written so far.
use Rattle.std.specs.Prelude.{◌≡◌, ℕ, ◌≤◌, Bool, true, false, not, if◌then◌else◌, Option, Some, None}
use Rattle.std.specs.Prelude.{List, [], ◌∷◌, ◌++◌, length}
use Rattle.der_base.specs.Encoding.{element}
use Rattle.der_base.specs.Octets.{identifier, shortest_length}
use Rattle.der_base.specs.declared.rules.Rules.TheVariants.{Ber, Der}
use Rattle.der_base.specs.declared.header.Class.TheVariants.{Universal}
use Rattle.der_contents.specs.ContentRules.{IsContent}
use Rattle.der_elements.specs.Visits.{Visited, Visits}
use Rattle.der_canon.specs.Same.{content_of, is_in_parts, is_part, no_extras, parts_of, string_start, with_part}
use Rattle.der_canon.specs.Values.{content_in_der, value_in_der}

pub record Contents : Type 0 where
  -- the depth of the string of which more parts may follow, and its number
  pub string : Option ℕ
  pub number : ℕ
  -- the octets of the contents around, the innermost first: each up to the length of the next
  pub around : List (List ℕ)
  -- those of the content inside all of them
  pub here : List ℕ

abbrev pub no_contents : Contents
no_contents = record { string = None; number = 0; around = []; here = [] }

-- a content with its length octets
abbrev pub sized : List ℕ → List ℕ
sized w = shortest_length (length w) ++ w

-- The contents that have more than k around them end, and each is then in the one around it, with its length octets.
pub data Completes (k : ℕ) : List (List ℕ) → List ℕ → List (List ℕ) → List ℕ → Type 0 where
  stay : {xs ys : List (List ℕ)} {x y : List ℕ} → length xs ≤ k → ys ≡ xs → y ≡ x → Completes k xs x ys y
  close : {xs ys : List (List ℕ)} {x y : List ℕ} (z : List ℕ) (zs : List (List ℕ)) → xs ≡ z ∷ zs → k ≤ length zs
      → Completes k zs (z ++ sized x) ys y → Completes k xs x ys y

-- what a part adds to the content x of its string: nothing if it is in parts itself
abbrev pub with_part_of : Bool → ℕ → List ℕ → List ℕ → List ℕ
with_part_of constructed t w x = if constructed then x else with_part t w x

-- the content of an element, before those that are inside
abbrev pub start_of : Visited → List ℕ
start_of v = if is_in_parts v then string_start v.number else []

-- all octets of contents, where each length has one octet so far
abbrev pub all_octets : List (List ℕ) → List ℕ → List ℕ
all_octets [] x = x
all_octets (z ∷ zs) x = all_octets zs (z ++ 0 ∷ x)

-- the content of the string keeps the rules of its type
abbrev pub KeepsString : Contents → Type 0
KeepsString s = (k : ℕ) → s.string ≡ Some k → IsContent Der s.number s.here

-- it does if there is room for all octets so far
abbrev pub KeepsIn : ℕ → Contents → Type 0
KeepsIn room s = length (all_octets s.around s.here) ≤ room → KeepsString s

-- After s the element v of i is written. Where a string ends, its content is such that P.
pub data Writes (P : Contents → Type 0) (i : List ℕ) (s : Contents) (v : Visited) (t : Contents) : Type 0 where
  part : is_part s.string v ≡ true → t.string ≡ s.string → t.around ≡ s.around
      → t.here ≡ with_part_of v.constructed v.number (content_of i v) s.here → t.number ≡ s.number → Writes P i s v t
  primitive : (g : List ℕ) → is_part s.string v ≡ false → t.string ≡ parts_of v
      → Completes v.depth s.around s.here t.around g → v.constructed ≡ false
      → t.here ≡ g ++ element v.class false v.number (value_in_der v.class v.number (content_of i v))
      → (v.class ≡ Universal → IsContent Der v.number (content_in_der v.number (content_of i v))) → P s
      → Writes P i s v t
  constructed : (gs : List (List ℕ)) (g : List ℕ) → is_part s.string v ≡ false → t.string ≡ parts_of v
      → Completes v.depth s.around s.here gs g → v.constructed ≡ true
      → t.around ≡ (g ++ identifier v.class (not (is_in_parts v)) v.number) ∷ gs → t.here ≡ start_of v
      → t.number ≡ v.number → P s → Writes P i s v t

-- one after another
abbrev pub WritesAll : (Contents → Type 0) → List ℕ → Contents → List Visited → Contents → Type 0
WritesAll P i s [] t = s ≡ t
WritesAll P i s (v ∷ vs) t = (m : Contents) × Writes P i s v m × WritesAll P i m vs t

-- the elements i by BER are written, and these octets are all of them
abbrev pub AreWritten : (Contents → Type 0) → List ℕ → List ℕ → Type 0
AreWritten P i o = (vs : List Visited) × (t : Contents) × Visits no_extras Ber 101 0 0 i vs
    × WritesAll P i no_contents vs t × Completes 0 t.around t.here [] o × P t
