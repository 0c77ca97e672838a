-- How many octets DER has for elements.
use Rattle.std.specs.Prelude.{◌≡◌, ℕ, ◌+◌, ◌-◌, ◌≤◌, Bool, true, false, ◌&&◌, ◌==◌, if◌then◌else◌}
use Rattle.std.specs.Prelude.{Option, None, List, [], ◌∷◌, ◌++◌, length}
use Rattle.der_base.specs.Octets.{identifier, shortest_length}
use Rattle.der_base.specs.declared.rules.Rules.TheVariants.{Ber, Der}
use Rattle.der_elements.specs.Check.Elements.{AreElements}
use Rattle.der_elements.specs.Visits.{Visited, Visits}
use Rattle.der_canon.specs.NoDer.{HasForm}
use Rattle.der_canon.specs.Same.{content_of, is_in_parts, is_part, parts_of, no_extras}

-- a content of so many octets, with its length octets (10.1)
abbrev pub with_length : ℕ → ℕ
with_length n = length (shortest_length n) + n

-- a part gives so many octets to its string: without the octet of a BIT STRING that says how many bits are unused
abbrev pub part_size : Bool → ℕ → List ℕ → ℕ
part_size constructed t w = if constructed then 0 else length w - (if t == 3 then 1 else 0)

-- and a BIT STRING in parts begins with one
abbrev pub start_size : Visited → ℕ
start_size v = if is_in_parts v && (v.number == 3) then 1 else 0

-- Contents go on that have so many octets so far: those around, the outermost first, and the one inside all of them.
-- Those that have more than k around them end, and each is then in the one around it, with its length octets.
pub data Ends (k : ℕ) : List ℕ → ℕ → List ℕ → ℕ → Type 0 where
  stay : {ls ms : List ℕ} {l m : ℕ} → length ls ≤ k → ms ≡ ls → m ≡ l → Ends k ls l ms m
  close : {ls ms : List ℕ} {l m : ℕ} (around : List ℕ) (p : ℕ) → ls ≡ around ++ p ∷ [] → k ≤ length around
      → Ends k around (p + with_length l) ms m → Ends k ls l ms m

-- The elements vs of i were visited, and the contents that go on have so many octets in DER. More parts of the string
-- at depth s may follow. The constructed bit doesn't change how many octets an identifier has (8.1.2), nor does DER
-- change how many a value has.
pub data HasSizes (i : List ℕ) : List Visited → Option ℕ → List ℕ → ℕ → Type 0 where
  none : {vs : List Visited} {s : Option ℕ} {ms : List ℕ} {m : ℕ} → vs ≡ [] → s ≡ None → ms ≡ [] → m ≡ 0
      → HasSizes i vs s ms m
  part : {vs : List Visited} {s : Option ℕ} {ms : List ℕ} {m : ℕ} (before : List Visited) (v : Visited) (l : ℕ)
      → HasSizes i before s ms l → is_part s v ≡ true → vs ≡ before ++ v ∷ []
      → m ≡ l + part_size v.constructed v.number (content_of i v) → HasSizes i vs s ms m
  primitive : {vs : List Visited} {s : Option ℕ} {ms : List ℕ} {m : ℕ} (before : List Visited) (v : Visited)
      (t : Option ℕ) (ls : List ℕ) (l k : ℕ) → HasSizes i before t ls l → is_part t v ≡ false
      → Ends v.depth ls l ms k → v.constructed ≡ false
      → m ≡ k + length (identifier v.class v.constructed v.number) + with_length (length (content_of i v))
      → vs ≡ before ++ v ∷ [] → s ≡ parts_of v → HasSizes i vs s ms m
  constructed : {vs : List Visited} {s : Option ℕ} {ms : List ℕ} {m : ℕ} (before : List Visited) (v : Visited)
      (t : Option ℕ) (ls ks : List ℕ) (l k : ℕ) → HasSizes i before t ls l → is_part t v ≡ false
      → Ends v.depth ls l ks k → v.constructed ≡ true
      → ms ≡ ks ++ (k + length (identifier v.class v.constructed v.number)) ∷ [] → m ≡ start_size v
      → vs ≡ before ++ v ∷ [] → s ≡ parts_of v → HasSizes i vs s ms m

-- i is elements by BER, and DER has n octets for them
abbrev pub HasSize : List ℕ → ℕ → Type 0
HasSize i n = (vs : List Visited) × (s : Option ℕ) × (ms rest : List ℕ) × (m : ℕ) × Visits no_extras Ber 101 0 0 i vs
    × HasSizes i vs s ms m × Ends 0 ms m rest n

-- DER has a form of all of i, of n octets: those that there are, if they are DER already
pub record IsSizeOf (i : List ℕ) (n : ℕ) : Type 0 where
  pub have : HasForm i
  pub unchanged : AreElements Der 101 i → n ≡ length i
  pub others : ¬ AreElements Der 101 i → HasSize i n
