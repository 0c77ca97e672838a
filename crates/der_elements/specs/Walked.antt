-- How far a walk has come.
use Rattle.std.specs.Option.{option_to_list}
use Rattle.std.specs.Prelude.{◌≡◌, ◌≢◌, ℕ, suc, ◌+◌, ◌-◌, ◌<◌, ◌≤◌, ◌⊎◌, nat_lt, ◌==◌, if◌then◌else◌, Bool, true, false, not}
use Rattle.std.specs.Prelude.{Option, Some, None, is_some, IfSome, IsSome, Result, Ok, Err, slice_get}
use Rattle.std.specs.Prelude.{List, [], ◌∷◌, ◌++◌, length, map, drop}
use Rattle.der_base.specs.Octets.{identifier}
use Rattle.der_base.specs.Spelling.{end_marker}
use Rattle.der_base.specs.declared.rules.Rules.{Rules}
use Rattle.der_elements.specs.Check.Elements.{IsElement, MayBeConstructed}
use Rattle.der_elements.specs.declared.content.Open.{Open}
use Rattle.der_elements.specs.declared.element.Element.{Element}
use Rattle.der_elements.specs.declared.path.Step.{Step}
use Rattle.der_elements.specs.declared.walk.Walk.{Walk}
use Rattle.der_elements.specs.declared.error.ElementError.{ElementError}
use Rattle.der_elements.specs.declared.content.End.{End}
use Rattle.der_elements.specs.Ends.{end_from, end_in, ends_at_marker, EndsWithin, IsEndOf, IsWithin}
pub use Rattle.der_elements.specs.Ends.{between}
use Rattle.der_elements.specs.Faults.{IsStep, Position}
use Rattle.der_elements.specs.FirstFault.{IsFirstFault}
use Rattle.der_elements.specs.Visits.{Visited, Extras, IsHeaderBy, Visits, VisitsOne}

-- what is visited of an element
abbrev pub visited_of : Element → Visited
visited_of e = record {
  offset = e.offset;
  header = e.header;
  length = e.length;
  class = e.class;
  constructed = e.constructed;
  number = e.number;
  depth = e.depth;
  holds = e.holds;
  breaks_its_type = e.breaks_its_type;
}

-- how many elements with k elements around them were visited since the last one with fewer around it
abbrev pub counted : ℕ → ℕ → Visited → ℕ
counted k n v = if nat_lt v.depth k then 0 else (if v.depth == k then suc n else n)

unfoldable pub counted_in : ℕ → ℕ → List Visited → ℕ
counted_in k n [] = n
counted_in k n (v ∷ vs) = counted_in k (counted k n v) vs

-- the index of the next element with k around it, after these were visited
abbrev pub index_in : ℕ → List Visited → ℕ
index_in k vs = counted_in k 0 vs

-- the steps of elements that are open
abbrev pub steps_of : List Open → List Step
steps_of opens = map (λ o. o.step) opens

-- the offset of the innermost open element, or 0
abbrev pub offset_of : Option Open → ℕ
offset_of (Some o) = o.offset
offset_of None = 0

abbrev pub innermost_of : List Open → ℕ
innermost_of opens = offset_of (slice_get opens (length opens - 1))

-- the end of the outermost open element, or of the content here
abbrev pub end_or : End → Option Open → End
end_or e (Some o) = o.around.end
end_or e None = e

abbrev pub outermost_of : List Open → End → End
outermost_of opens e = end_or e (slice_get opens 1)

-- the position of a walk
abbrev pub position_of : Walk → Position
position_of w = record {
  input = w.input.now;
  at = w.at;
  rules = w.content.rules;
  end = w.content.end;
  has_marker = w.content.has_marker;
  index = w.content.visited;
  depth = length w.opened.items;
  innermost = innermost_of w.opened.items;
  outermost = outermost_of w.opened.items w.content.end;
}

-- A content with this end ends here, and the content around it continues at this offset: after end-of-contents octets,
-- if they end it (8.1.3.6).
abbrev pub EndsAt : List ℕ → Option ℕ → Bool → ℕ → ℕ → Type 0
EndsAt i e m at after = ((m ≡ false) × (e ≡ Some at) × (after ≡ at))
    ⊎ ((m ≡ true) × (after ≡ at + 2) × (between i at after ≡ end_marker))

-- The header of v begins at an offset, by the rules r and with k elements around it, and what is inside is visited.
pub record BeginsAt (i : List ℕ) (r : Rules) (k start : ℕ) (v : Visited) : Type 0 where
  pub octets : List ℕ
  pub rest : List ℕ
  pub split : drop start i ≡ octets ++ rest
  pub is : IsHeaderBy r v.class v.constructed v.number v.length octets
  pub header : v.header ≡ length octets
  pub offset : v.offset ≡ start
  pub depth : v.depth ≡ k
  pub holds : is_some v.holds ≡ not v.constructed
  pub whole : v.breaks_its_type ≡ false

-- The element v begins at an offset, by the rules r and with k elements around it. Its content begins at `first` and is
-- read by the rules s. Where that ends, v and what is inside were visited, and are all of the element.
pub record IsOpen (x : Extras) (i : List ℕ) (r : Rules) (d k start first : ℕ) (s : Rules) (e : Option ℕ) (m : Bool)
    (v : Visited) : Type 0 where
  pub closes : (at after : ℕ) (us : List Visited) → EndsAt i e m at after → first ≤ at → after ≤ length i
      → Visits x s d (suc k) first (between i first at) us
      → VisitsOne x r (suc d) k start (between i start after) (v ∷ us)
  -- an element that begins there is visited in only this way
  pub opens : (b y : List ℕ) (us : List Visited) → drop start i ≡ b ++ y → VisitsOne x r (suc d) k start b us
      → (w z : List ℕ) × (ws : List Visited) × (drop first i ≡ w ++ z) × Visits x s d (suc k) first w ws
      × EndsAt i e m (first + length w) (start + length b)
  pub header : BeginsAt i r k start v
  -- it is constructed, or a string that is entered
  pub list : v.constructed ≡ true → MayBeConstructed r v.class v.number × (s ≡ r) × (first ≡ start + v.header)
  pub string : v.constructed ≡ false → (x.enters_strings ≡ true) × (n : ℕ) × (e ≡ Some n) × (m ≡ false)
      × (n ≤ length i) × IsElement s d (between i first n)
  pub begins : start < first
  pub no_marker : (z : List ℕ) → drop start i ≢ end_marker ++ z

-- What was visited up to an offset, with these open elements, the outermost first. The content there is read by the
-- rules s, and ends at e at the latest. End-of-contents octets end it or not.
pub data HasWalked (x : Extras) (r : Rules) (i : List ℕ)
    : ℕ → List Open → Rules → Option ℕ → Bool → ℕ → List Visited → Type 0 where
  outermost : {d : ℕ} {opens : List Open} {s : Rules} {e : Option ℕ} {m : Bool} {at : ℕ} {vs : List Visited}
      → d ≡ 101 → opens ≡ [] → s ≡ r → e ≡ None → m ≡ false → at ≤ length i
      → Visits x r d 0 0 (between i 0 at) vs → HasWalked x r i d opens s e m at vs
  inside : {d : ℕ} {opens : List Open} {s : Rules} {e : Option ℕ} {m : Bool} {at : ℕ} {vs : List Visited}
      (outer : List Open) (o : Open) (start first : ℕ) (before us : List Visited) (v : Visited)
      → opens ≡ outer ++ o ∷ []
      → HasWalked x r i (suc d) outer o.around.rules (end_in (length i) o.around.end) o.around.has_marker start before
      → IsOpen x i o.around.rules d (length outer) start first s e m v
      → EndsWithin e (end_in (length i) o.around.end) → first ≤ at → IsWithin at e → at ≤ length i
      → Visits x s d (suc (length outer)) first (between i first at) us
      → vs ≡ before ++ v ∷ us → e ≡ end_from (v.offset + v.header) (end_in (length i) o.around.end) v.length
      → m ≡ ends_at_marker v.length → o.offset ≡ start
      → IsStep o.step v.class v.number (index_in (length outer) before) → HasWalked x r i d opens s e m at vs

-- a walk through i by these rules has visited vs so far
pub record HasVisited (x : Extras) (r : Rules) (i : List ℕ) (w : Walk) (vs : List Visited) : Type 0 where
  pub input : w.input.now ≡ i
  pub enters : w.enters_strings ≡ x.enters_strings
  pub keeps : w.keeps_values ≡ x.keeps_values
  pub depth : ℕ
  pub walked : HasWalked x r i depth w.opened.items w.content.rules (end_in (length i) w.content.end)
      w.content.has_marker w.at vs
  -- the elements of each content are counted
  pub counts : w.content.visited ≡ index_in (length w.opened.items) vs
  pub counts_around : (outer inner : List Open) (o : Open) → w.opened.items ≡ outer ++ o ∷ inner
      → o.around.visited ≡ index_in (length outer) vs
  -- each content ends in the input or after it, as its end says
  pub end : IsEndOf (length i) w.content.end
  pub ends_around : (outer inner : List Open) (o : Open) → w.opened.items ≡ outer ++ o ∷ inner
      → IsEndOf (length i) o.around.end
  -- each visited element has at least two octets
  pub few : length vs + length vs ≤ w.at

-- the second walk has visited all that the first had
abbrev pub KeepsVisited : Walk → Walk → Type 0
KeepsVisited w w' = (x : Extras) (r : Rules) (i : List ℕ) (vs : List Visited) → HasVisited x r i w vs
    → HasVisited x r i w' vs

-- the octets of an element are those in the input
pub record HasOctets (i : List ℕ) (e : Element) : Type 0 where
  -- the identifier octets (8.1.2)
  pub identifier : e.identifier.now ≡ identifier e.class e.constructed e.number
  -- the content octets, if there are any
  pub content : IfSome e.content (λ w. (e.length ≡ Some (length w.now))
      × (w.now ≡ between i (e.offset + e.header) (e.offset + e.header + length w.now)))
  -- a primitive element has them
  pub primitive : e.constructed ≡ false → IsSome e.content

-- After visiting vs, the walk stops with f, the first fault of the input. So nothing is visited to the end of the
-- input.
pub record IsRefused (x : Extras) (r : Rules) (i : List ℕ) (vs : List Visited) (w : Walk) (f : ElementError) : Type 0 where
  pub visited : HasVisited x r i w vs
  pub never : (us : List Visited) → ¬ Visits x r 101 0 0 i us
  pub first : IsFirstFault x r i vs (steps_of w.opened.items ++ option_to_list f.step) f

-- After visiting vs, the walk visits one more element, or there is none, or it stops with an error. If there is none,
-- the input is valid, and vs are all elements that are visited.
abbrev pub VisitsNext : Extras → Rules → List ℕ → List Visited → Walk → Result (Option Element) ElementError → Type 0
VisitsNext x r i vs w (Ok (Some e)) = HasVisited x r i w (vs ++ visited_of e ∷ []) × HasOctets i e
    × (e.index ≡ index_in e.depth vs) × (e.depth ≤ 100)
VisitsNext x r i vs w (Ok None) = Visits x r 101 0 0 i vs
VisitsNext x r i vs w (Err f) = IsRefused x r i vs w f
