-- The elements of BER that DER has no form of, and why.
use Rattle.std.specs.Prelude.{◌≡◌, ◌≢◌, ℕ, ◌<◌, ◌==◌, ◌||◌, Bool, false, if◌then◌else◌, nat_lt}
use Rattle.std.specs.Prelude.{Option, Some, None, List, [], ◌∷◌, ◌++◌, Result, MatchResult}
use Rattle.der_base.specs.declared.header.Class.{Class}
use Rattle.der_base.specs.declared.header.Class.TheVariants.{Universal}
use Rattle.der_base.specs.declared.rules.Rules.{Rules}
use Rattle.der_base.specs.declared.rules.Rules.TheVariants.{Ber, Der}
use Rattle.der_contents.specs.declared.content_error.ContentError.{ContentError}
use Rattle.der_contents.specs.ContentRules.{IsContent, IsFirstBroken, content_rules}
use Rattle.der_elements.specs.declared.cause.Cause.{Cause}
use Rattle.der_elements.specs.declared.cause.Cause.TheVariants.{OtherPart, UnusedBitsInside, Value}
use Rattle.der_elements.specs.Check.Elements.{AreElements}
use Rattle.der_elements.specs.Visits.{Visited, Visits}
use Rattle.der_canon.specs.Same.{content_of, is_in_parts, no_extras, part_number}
use Rattle.der_canon.specs.Values.{content_in_der}

-- By DER a BOOLEAN and the unused bits of a BIT STRING are written as DER has them, so that BER's rules are enough for
-- their contents.
abbrev pub rules_of : ℕ → Rules
rules_of t = if t == 1 || t == 3 then Ber else Der

-- The content w of a primitive element of this universal type, as DER writes it, breaks a rule of DER, for this cause:
-- a time without Z or without seconds (11.7, 11.8), a REAL that isn't in the form of 11.3.
abbrev pub HasNoForm : ℕ → List ℕ → Cause → Type 0
HasNoForm t w c = (e : ContentError) × IsFirstBroken (content_rules Der t (content_in_der t w)) e × (c ≡ Value e)

-- v is inside the string
abbrev pub is_inside : Option Visited → Visited → Bool
is_inside None v = false
is_inside (Some x) v = nat_lt x.depth v.depth

-- the string in parts that v is inside or begins
abbrev pub string_of : Option Visited → Visited → Option Visited
string_of s v = if is_inside s v then s else (if is_in_parts v then Some v else None)

abbrev pub string_from : Option Visited → List Visited → Option Visited
string_from s [] = s
string_from s (v ∷ vs) = string_from (string_of s v) vs

-- the string in parts of which more parts may follow these elements
abbrev pub string_after : List Visited → Option Visited
string_after vs = string_from None vs

abbrev pub first_or_zero : List ℕ → ℕ
first_or_zero [] = 0
first_or_zero (b ∷ w) = b

-- how many bits are unused at the end of a primitive part of a BIT STRING (8.6.2.2)
abbrev pub unused_of : List ℕ → Visited → ℕ
unused_of i v = if v.constructed then 0 else (if v.number == 3 then first_or_zero (content_of i v) else 0)

abbrev pub unused_from : List ℕ → ℕ → List Visited → ℕ
unused_from i n [] = n
unused_from i n (v ∷ vs) = unused_from i (unused_of i v) vs

-- at the end of the last of these elements
abbrev pub unused_after : List ℕ → List Visited → ℕ
unused_after i vs = unused_from i 0 vs

-- v is a part of the string, after u unused bits, and may not be, for this cause
pub data IsNoPart (s : Option Visited) (u : ℕ) (v : Visited) (c : Cause) : Type 0 where
  -- it is no BIT STRING, or no OCTET STRING (8.6.4.1, 8.7.3.2, 8.23.6)
  other : (x : Visited) → s ≡ Some x → x.depth < v.depth
      → ¬ ((v.class ≡ Universal) × (v.number ≡ part_number (x.number == 3))) → c ≡ OtherPart → IsNoPart s u v c
  -- the part before it has unused bits (8.6.4)
  unused : (x : Visited) → s ≡ Some x → x.depth < v.depth → v.class ≡ Universal
      → v.number ≡ part_number (x.number == 3) → u ≢ 0 → c ≡ UnusedBitsInside → IsNoPart s u v c

-- The element v of i, after the elements vs, has no form in DER, for this cause. Of the parts of a string, whose type
-- shows at its end, it says nothing.
pub data HasNoDer (i : List ℕ) (vs : List Visited) (v : Visited) (c : Cause) : Type 0 where
  part : IsNoPart (string_after vs) (unused_after i vs) v c → HasNoDer i vs v c
  value : is_inside (string_after vs) v ≡ false → v.constructed ≡ false → v.class ≡ Universal
      → HasNoForm v.number (content_of i v) c → HasNoDer i vs v c

abbrev pub HasDer : List ℕ → List Visited → Visited → Type 0
HasDer i vs v = (c : Cause) → ¬ HasNoDer i vs v c

-- each of the elements of i has one
pub data HaveDer (i : List ℕ) : List Visited → Type 0 where
  none : {vs : List Visited} → vs ≡ [] → HaveDer i vs
  one_more : {vs : List Visited} (before : List Visited) (v : Visited) → HaveDer i before → HasDer i before v
      → vs ≡ before ++ v ∷ [] → HaveDer i vs

-- i is elements by BER, and each has a form in DER
abbrev pub AllHaveDer : List ℕ → Type 0
AllHaveDer i = (vs : List Visited) × Visits no_extras Ber 101 0 0 i vs × HaveDer i vs

-- DER has a form of all of i: it is DER already, or each of its elements has one
abbrev pub HasForm : List ℕ → Type 0
HasForm i = ¬ AreElements Der 101 i → AllHaveDer i

-- the content of a primitive element is checked for its form
abbrev pub ChecksForm : ℕ → List ℕ → Result (Unit {0}) Cause → Type 0
ChecksForm t w result = MatchResult result (λ _. IsContent Der t (content_in_der t w)) (λ c. HasNoForm t w c)

-- that of an element is, if its class is Universal
abbrev pub ChecksValue : Class → ℕ → List ℕ → Result (Unit {0}) Cause → Type 0
ChecksValue k t w result = MatchResult result (λ _. k ≡ Universal → IsContent Der t (content_in_der t w))
    (λ c. (k ≡ Universal) × HasNoForm t w c)
