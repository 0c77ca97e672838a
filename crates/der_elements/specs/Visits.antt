-- What a walk visits, in preorder.
use Rattle.std.specs.Prelude.{◌≡◌, ◌≢◌, ℕ, suc, ◌+◌, ◌/◌, ◌%◌, ◌^◌, ◌<◌, ◌⊎◌, Bool, true, false, not, ◌&&◌, ◌||◌, ◌==◌}
use Rattle.std.specs.Prelude.{nat_lt, IsTrue, slice_index, Option, Some, None, List, [], ◌∷◌, ◌++◌, length}
use Rattle.der_base.specs.declared.header.Class.{Class}
use Rattle.der_base.specs.declared.header.Class.TheVariants.{Universal}
use Rattle.der_base.specs.Octets.{identifier}
use Rattle.der_base.specs.Spelling.{end_marker}
use Rattle.der_base.specs.declared.rules.Rules.{Rules}
use Rattle.der_base.specs.declared.rules.Rules.TheVariants.{Ber, Der}
use Rattle.der_elements.specs.Check.Elements.{IsElement, MayBeConstructed, MayHaveContent, SpellsLengthBy}
use Rattle.der_contents.specs.ContentRules.{IsContent}

-- an element that is visited
pub record Visited : Type 0 where
  -- the offset of its header in the input
  pub offset : ℕ
  -- how many octets its header has
  pub header : ℕ
  -- how many octets its content has, if its length is definite (8.1.3)
  pub length : Option ℕ
  pub class : Class
  pub constructed : Bool
  pub number : ℕ
  -- how many elements are around it
  pub depth : ℕ
  -- for a string whose content is an element, the rules of that element, which is visited next
  pub holds : Option Rules
  -- whether its content octets break a rule of its type
  pub breaks_its_type : Bool

-- what a walk visits besides the elements of X.690
pub record Extras : Type 0 where
  -- the element of DER or BER that is the whole content of a string
  pub enters_strings : Bool
  -- by BER, a primitive element whose content breaks its type
  pub keeps_values : Bool

-- h is a header by these rules: identifier octets, and length octets, definite or not (8.1.2, 8.1.3)
abbrev pub IsHeaderBy : Rules → Class → Bool → ℕ → Option ℕ → List ℕ → Type 0
IsHeaderBy r c p t (Some n) h = (t < 2 ^ 32) × (s : List ℕ) × SpellsLengthBy r s n × (h ≡ identifier c p t ++ s)
IsHeaderBy r c p t None h = (t < 2 ^ 32) × (r ≡ Ber) × (p ≡ true) × (h ≡ identifier c p t ++ 128 ∷ [])

-- the element at this offset with this many around it, with this header and length
abbrev pub visited : ℕ → ℕ → Class → Bool → ℕ → List ℕ → Option ℕ → Visited
visited at k c p t h n = record {
  offset = at;
  header = length h;
  length = n;
  class = c;
  constructed = p;
  number = t;
  depth = k;
  holds = None;
  breaks_its_type = false;
}

-- what precedes the element in a string: nothing in an OCTET STRING, and in a BIT STRING the octet that says that no
-- bit is unused (8.6.2, 8.7)
abbrev pub IsStringFront : ℕ → List ℕ → Type 0
IsStringFront t u = ((t ≡ 4) × (u ≡ [])) ⊎ ((t ≡ 3) × (u ≡ 0 ∷ []))

-- an identifier octet says that the element is constructed (8.1.2.5)
abbrev pub is_constructed_octet : ℕ → Bool
is_constructed_octet b = b / 32 % 2 == 1

-- the first octet is a constructed identifier octet, or by DER a universal one other than that of end-of-contents
-- octets (8.1.2.2, 8.1.2.5)
abbrev pub begins_like_element : Rules → List ℕ → Bool
begins_like_element Ber v = is_constructed_octet (slice_index v 0)
begins_like_element Der v = let b = slice_index v 0 in not (b == 0) && (nat_lt b 64 || is_constructed_octet b)

-- w is the content of a string of this type: some octets, and then v, which is one element by these rules to this depth
pub record HoldsElement (s : Rules) (d t : ℕ) (w u v : List ℕ) : Type 0 where
  pub parts : w ≡ u ++ v
  pub front : IsStringFront t u
  pub begins : IsTrue (begins_like_element s v)
  pub element : IsElement s d v

-- an element of BER in a string counts only if it isn't one of DER
abbrev pub IsFirstOf : Rules → ℕ → ℕ → List ℕ → Type 0
IsFirstOf s d t w = s ≡ Ber → (u v : List ℕ) → ¬ HoldsElement Der d t w u v

-- a primitive element of this class, type and content isn't entered
abbrev pub IsNotEntered : Extras → ℕ → Class → ℕ → List ℕ → Type 0
IsNotEntered x d c t w = x.enters_strings ≡ true → c ≡ Universal → (s : Rules) (u v : List ℕ)
    → ¬ HoldsElement s d t w u v

mutual
  -- The octets i are elements by these rules to depth d, one after another. They begin at the offset a, with k elements
  -- around them. The elements vs are visited.
  pub data Visits (x : Extras) : Rules → ℕ → ℕ → ℕ → List ℕ → List Visited → Type 0 where
    none : {r : Rules} {d k a : ℕ} → Visits x r d k a [] []
    one_more : {r : Rules} {d k a : ℕ} {i : List ℕ} {vs : List Visited} (b rest : List ℕ) (us ws : List Visited)
        → i ≡ b ++ rest → vs ≡ us ++ ws → VisitsOne x r d k a b us → Visits x r d k (a + length b) rest ws
        → Visits x r d k a i vs

  -- The octets b are one element. It is visited first, and then the elements in its content (8.1.4).
  pub data VisitsOne (x : Extras) : Rules → ℕ → ℕ → ℕ → List ℕ → List Visited → Type 0 where
    primitive : {r : Rules} {d k a : ℕ} {b : List ℕ} {vs : List Visited} (c : Class) (t : ℕ) (h w : List ℕ)
        → IsHeaderBy r c false t (Some (length w)) h → b ≡ h ++ w → MayHaveContent r c t w → IsNotEntered x d c t w
        → vs ≡ visited a k c false t h (Some (length w)) ∷ [] → VisitsOne x r (suc d) k a b vs
    -- the content breaks a rule of its type
    broken : {r : Rules} {d k a : ℕ} {b : List ℕ} {vs : List Visited} (t : ℕ) (h w : List ℕ)
        → IsHeaderBy r Universal false t (Some (length w)) h → b ≡ h ++ w → x.keeps_values ≡ true → r ≡ Ber
        → t ≢ 0 → ¬ IsContent r t w
        → vs ≡ record (visited a k Universal false t h (Some (length w))) { breaks_its_type = true } ∷ []
        → VisitsOne x r (suc d) k a b vs
    -- a string that contains an element, of DER or else of BER
    string : {r : Rules} {d k a : ℕ} {b : List ℕ} {vs : List Visited} (s : Rules) (t : ℕ) (h w u v : List ℕ)
        (us : List Visited)
        → IsHeaderBy r Universal false t (Some (length w)) h → b ≡ h ++ w → IsContent r t w
        → x.enters_strings ≡ true → HoldsElement s d t w u v → IsFirstOf s d t w
        → Visits x s d (suc k) (a + length h + length u) v us
        → vs ≡ record (visited a k Universal false t h (Some (length w))) { holds = Some s } ∷ us
        → VisitsOne x r (suc d) k a b vs
    constructed : {r : Rules} {d k a : ℕ} {b : List ℕ} {vs : List Visited} (c : Class) (t : ℕ) (h w : List ℕ)
        (us : List Visited)
        → IsHeaderBy r c true t (Some (length w)) h → b ≡ h ++ w → MayBeConstructed r c t
        → Visits x r d (suc k) (a + length h) w us
        → vs ≡ visited a k c true t h (Some (length w)) ∷ us → VisitsOne x r (suc d) k a b vs
    -- end-of-contents octets follow the content (8.1.3.6)
    indefinite : {r : Rules} {d k a : ℕ} {b : List ℕ} {vs : List Visited} (c : Class) (t : ℕ) (h w : List ℕ)
        (us : List Visited)
        → IsHeaderBy r c true t None h → b ≡ h ++ w ++ end_marker → MayBeConstructed r c t
        → Visits x r d (suc k) (a + length h) w us
        → vs ≡ visited a k c true t h None ∷ us → VisitsOne x r (suc d) k a b vs
