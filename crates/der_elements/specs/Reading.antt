-- What the private functions of the walk return and do.
use Rattle.std.specs.Borrow.{Bor}
use Rattle.std.specs.Prelude.{◌≡◌, ℕ, suc, ◌+◌, ◌-◌, ◌≤◌, ◌⊎◌, Bool, true, false, ◌==◌, if◌then◌else◌}
use Rattle.std.specs.Option.{option_to_list}
use Rattle.std.specs.Prelude.{Option, Some, None, is_some, unwrap_or, Result, Ok, Err}
use Rattle.std.specs.Prelude.{MatchOption, IfSome, IsSome, IsSomeAnd, ◌≢◌, ◌<◌, ◌^◌}
use Rattle.std.specs.Prelude.{List, [], ◌∷◌, ◌++◌, length, min}
use Rattle.der_base.specs.declared.header.Class.TheVariants.{Universal}
use Rattle.der_base.specs.declared.header.Header.{Header}
use Rattle.der_base.specs.declared.header.Length.{Length}
use Rattle.der_base.specs.declared.header.Length.TheVariants.{Definite, Indefinite}
use Rattle.der_base.specs.Header.{class_of, is_constructed, number_of, length_of, raw_tag_of}
use Rattle.der_base.specs.Octets.{identifier}
use Rattle.der_base.specs.Spelling.{end_marker}
use Rattle.der_base.specs.declared.rules.Rules.{Rules}
use Rattle.der_base.specs.declared.rules.Rules.TheVariants.{Ber, Der}
use Rattle.der_elements.specs.Check.Elements.{MayBeConstructed, MayHaveContent}
use Rattle.der_contents.specs.ContentRules.{IsContent, IsFirstBroken, content_rules}
use Rattle.der_contents.specs.declared.content_error.ContentError.{ContentError}
use Rattle.der_elements.specs.declared.cause.Cause.{Cause}
use Rattle.der_elements.specs.declared.cause.Cause.TheVariants.{Constructed, ConstructedString, EndMarker, Value}
use Rattle.der_elements.specs.declared.content.Content.{Content}
use Rattle.der_elements.specs.declared.content.Open.{Open}
use Rattle.der_elements.specs.declared.element.Element.{Element}
use Rattle.der_elements.specs.declared.walk.Walk.{Walk}
use Rattle.der_elements.specs.Visits.{Visited, Extras, Visits, VisitsOne, IsHeaderBy, IsStringFront, HoldsElement}
use Rattle.der_elements.specs.Visits.{IsFirstOf}
use Rattle.der_elements.specs.declared.content.End.{End}
use Rattle.der_elements.specs.declared.error.ElementError.{ElementError}
use Rattle.der_elements.specs.Ends.{between, end_from, end_in, end_of, ends_at_marker, limit_of, overrun, IsEndOf}
use Rattle.der_elements.specs.Ends.{IsWithin}
use Rattle.der_elements.specs.Faults.{IsAtFault, IsLastStep, IsStep, cause_of_content, place_of}
use Rattle.der_elements.specs.FirstFault.{Faults}
use Rattle.der_elements.specs.Walked.{HasOctets, HasVisited, index_in, position_of, visited_of}

-- the number of octets of a length that is definite
abbrev pub definite_of : Length → Option ℕ
definite_of (Definite n) = Some n
definite_of Indefinite = None

-- e has this header of this many octets, and begins here, with k elements around it and n before it
pub record StartsWith (h : Header) (octets at k n : ℕ) (e : Element) : Type 0 where
  pub class : e.class ≡ class_of h
  pub constructed : e.constructed ≡ is_constructed h
  pub number : e.number ≡ number_of h
  pub length : e.length ≡ definite_of (length_of h)
  pub header : e.header ≡ octets
  pub offset : e.offset ≡ at
  pub depth : e.depth ≡ k
  pub index : e.index ≡ n
  pub identifier : (b : List ℕ) → raw_tag_of h ≡ Some b → e.identifier.now ≡ b

-- the content octets of an element, if these octets here have them; a constructed element may be truncated
abbrev pub FindsContent : Element → List ℕ → Option (Bor (List ℕ)) → Type 0
FindsContent e here result = MatchOption result ((e.constructed ≡ true) ⊎ (e.length ≡ None))
    (λ w. (rest : List ℕ) × (here ≡ w.now ++ rest) × (e.length ≡ Some (length w.now)))

-- the content octets, or none
abbrev pub octets_or_none : Option (Bor (List ℕ)) → List ℕ
octets_or_none (Some w) = w.now
octets_or_none None = []

-- an element is valid by the rules apart from the elements inside it, or its content breaks a rule of its type and is
-- kept
abbrev pub IsChecked : Bool → Rules → Element → Bool → Type 0
IsChecked keeps r e breaks = ((e.constructed ≡ true) × MayBeConstructed r e.class e.number × (breaks ≡ false))
    ⊎ ((e.constructed ≡ false) × MayHaveContent r e.class e.number (octets_or_none e.content) × (breaks ≡ false))
    ⊎ ((e.constructed ≡ false) × (breaks ≡ true) × (keeps ≡ true) × (r ≡ Ber) × (e.class ≡ Universal)
    × (e.number ≢ 0) × (¬ IsContent r e.number (octets_or_none e.content)))

-- the octets of a primitive string that may contain an element
abbrev pub FindsString : Element → Option (Bor (List ℕ)) → Type 0
FindsString e None = e.constructed ≡ false → e.class ≡ Universal
    → MatchOption e.content (Unit {0}) (λ w. (u v : List ℕ) → IsStringFront e.number u → w.now ≡ u ++ v → ⊥)
FindsString e (Some v) = (e.constructed ≡ false) × (e.class ≡ Universal)
    × MatchOption e.content ⊥ (λ w. (u : List ℕ) × IsStringFront e.number u × (w.now ≡ u ++ v.now))

-- it is a primitive string whose content is an element by these rules
abbrev pub Holds : Rules → Element → Type 0
Holds s e = (e.constructed ≡ false) × (e.class ≡ Universal)
    × MatchOption e.content ⊥ (λ w. (u v : List ℕ) × HoldsElement s (100 - e.depth) e.number w.now u v)

-- the rules of the element in a string that is visited, if strings are entered: DER, or else BER
abbrev pub IsHeld : Bool → Element → Option Rules → Type 0
IsHeld enters e held = MatchOption held (enters ≡ true → (s : Rules) → ¬ Holds s e)
    (λ s. (enters ≡ true) × Holds s e × (s ≡ Ber → ¬ Holds Der e))

-- Octets begin with the element e: a whole element, or one whose header was read.
pub data IsRead (x : Extras) (r : Rules) (d : ℕ) (here : List ℕ) (e : Element) : Type 0 where
  whole : (h w rest : List ℕ) → here ≡ h ++ (w ++ rest) → e.header ≡ length h → e.length ≡ Some (length w)
      → e.constructed ≡ false → e.holds ≡ None
      → VisitsOne x r (suc d) e.depth e.offset (h ++ w) (visited_of e ∷ []) → IsRead x r d here e
  string : (s : Rules) (h w rest u v : List ℕ) → here ≡ h ++ (w ++ rest) → e.header ≡ length h
      → e.length ≡ Some (length w) → e.constructed ≡ false → e.holds ≡ Some s → e.breaks_its_type ≡ false
      → e.class ≡ Universal → IsHeaderBy r Universal false e.number (Some (length w)) h
      → IsContent r e.number w → x.enters_strings ≡ true → HoldsElement s d e.number w u v → IsFirstOf s d e.number w
      → IsRead x r d here e
  list : (h rest : List ℕ) → here ≡ h ++ rest → e.header ≡ length h → e.constructed ≡ true → e.holds ≡ None
      → e.breaks_its_type ≡ false → IsHeaderBy r e.class true e.number e.length h
      → MayBeConstructed r e.class e.number → IsRead x r d here e

-- what a walk visits besides the elements of X.690
abbrev pub extras_of : Walk → Extras
extras_of w = record { enters_strings = w.enters_strings; keeps_values = w.keeps_values }

-- the content ends here, and the content around it continues at this offset
abbrev pub EndsHere : Walk → ℕ → Type 0
EndsHere w after = ((w.content.has_marker ≡ false) × IsSomeAnd (end_of w) (λ n. n ≤ w.at) × (after ≡ w.at))
    ⊎ ((w.content.has_marker ≡ true) × (after ≡ w.at + 2) × IsWithin after (end_of w) × (after ≤ length w.input.now)
    × (between w.input.now w.at after ≡ end_marker))

abbrev pub EndsNowhere : Walk → Type 0
EndsNowhere w = (after : ℕ) → ¬ EndsHere w after

-- the content doesn't end here, or is the whole input
abbrev pub StaysOpen : Walk → Type 0
StaysOpen w = (w.opened.items ≢ []) → EndsNowhere w

-- the octets of the element e in the octets here
pub record OctetsHere (here : List ℕ) (e : Element) : Type 0 where
  pub identifier : e.identifier.now ≡ identifier e.class e.constructed e.number
  pub content : IfSome e.content (λ w. (h rest : List ℕ) × (here ≡ h ++ (w.now ++ rest)) × (e.header ≡ length h)
      × (e.length ≡ Some (length w.now)))
  pub primitive : e.constructed ≡ false → IsSome e.content

-- e is the element at the start of the octets here
pub record ReadsHere (w : Walk) (here : List ℕ) (e : Element) : Type 0 where
  pub offset : e.offset ≡ w.at
  pub depth : e.depth ≡ length w.opened.items
  pub shallow : e.depth ≤ 100
  pub fits : e.header ≤ length here
  pub some : 2 ≤ e.header
  pub room : IfSome e.length (λ n. IsWithin (e.offset + e.header + n) (end_of w))
  pub index : e.index ≡ w.content.visited
  pub read : IsRead (extras_of w) w.content.rules (100 - e.depth) here e
  pub octets : OctetsHere here e

-- how many octets precede the element in a string of this type
abbrev pub string_front_of : ℕ → ℕ
string_front_of t = if t == 3 then 1 else 0

-- how many octets precede the element that is visited inside a string
abbrev pub front_of : Element → ℕ
front_of e = if is_some e.holds then string_front_of e.number else 0

-- the rules of what is inside an element
abbrev pub rules_inside : Rules → Element → Rules
rules_inside r e = unwrap_or e.holds r

-- a content in which one more element was visited
abbrev pub count_one : Content → Content
count_one c = record c { visited = min (c.visited + 1) (2 ^ 64 - 1) }

-- the walk w counted the element e and went into it: to this offset, in a content with this end
pub record GoesInto (w : Walk) (e : Element) (place : ℕ) (limit : End) (w' : Walk) : Type 0 where
  pub input : w'.input.now ≡ w.input.now
  pub enters : w'.enters_strings ≡ w.enters_strings
  pub keeps : w'.keeps_values ≡ w.keeps_values
  pub at : w'.at ≡ place
  pub rules : w'.content.rules ≡ rules_inside w.content.rules e
  pub end : w'.content.end ≡ limit
  pub marker : w'.content.has_marker ≡ ends_at_marker e.length
  pub none : w'.content.visited ≡ 0
  pub opened : Open
  pub opens : w'.opened.items ≡ w.opened.items ++ opened ∷ []
  pub around : opened.around ≡ w.content
  pub offset : opened.offset ≡ e.offset
  pub step : IsStep opened.step e.class e.number e.index

-- the walk went on to an offset in the same content, in which one more element is counted
pub record GoesOn (w : Walk) (place : ℕ) (w' : Walk) : Type 0 where
  pub input : w'.input.now ≡ w.input.now
  pub enters : w'.enters_strings ≡ w.enters_strings
  pub keeps : w'.keeps_values ≡ w.keeps_values
  pub at : w'.at ≡ place
  pub content : w'.content ≡ count_one w.content
  pub opens : w'.opened.items ≡ w.opened.items

-- the walk passed an element, or its header and what precedes the elements inside
abbrev pub Passes : Walk → Element → Walk → Type 0
Passes w e w' = let p = e.offset + e.header in
    (end : End) × (IsEndOf (length w.input.now) w.content.end → IsEndOf (length w.input.now) end)
    × (end_in (length w.input.now) end ≡ end_from p (end_of w) e.length)
    × ((((e.constructed ≡ true) ⊎ IsSome e.holds)
    × GoesInto (record w { content = count_one w.content }) e (p + front_of e) end w')
    ⊎ ((e.constructed ≡ false) × (e.holds ≡ None)
    × GoesOn w (limit_of (length w.input.now) (end_from p (end_of w) e.length)) w'))

-- the octets here are rejected, or begin with an element that has d others around it
pub record Refuses (d : ℕ) (w : Walk) (here : List ℕ) (f : ElementError) : Type 0 where
  pub fault : IsAtFault (extras_of w) d (position_of w) here f.cause
  pub place : f.offset ≡ place_of (position_of w) f.cause
  pub step : IsLastStep (position_of w) here f.step

-- like VisitsNext, for elements with fewer than d others around them
abbrev pub VisitsTo : ℕ → Extras → Rules → List ℕ → List Visited → Walk → Result (Option Element) ElementError → Type 0
VisitsTo d x r i vs w (Ok (Some e)) = HasVisited x r i w (vs ++ visited_of e ∷ []) × HasOctets i e
    × (e.index ≡ index_in e.depth vs) × (e.depth < d)
VisitsTo d x r i vs w (Ok None) = Visits x r 101 0 0 i vs
VisitsTo d x r i vs w (Err f) = HasVisited x r i w vs × Faults x d (position_of w) [] (option_to_list f.step) f

-- the content of e ends after that around it, or e is primitive and not all of its content is here
pub record LacksContent (w : Walk) (here : List ℕ) (e : Element) (f : ElementError) : Type 0 where
  pub size : ℕ
  pub length_is : e.length ≡ Some size
  pub lacks : length here < size
  pub past : e.constructed ≡ true → overrun (e.offset + e.header + size) (end_of w) ≢ 0
  pub cause : f.cause ≡ cause_of_content (position_of w) (e.offset + e.header + size) (size - length here)
  pub offset : f.offset ≡ e.offset
  pub step : IsSomeAnd f.step (λ s. IsStep s e.class e.number e.index)

-- the walk visits a primitive element whose content breaks a rule of its type
abbrev pub Keeps : Walk → Type 0
Keeps w = (w.keeps_values ≡ true) × (w.content.rules ≡ Ber)

-- why an element may not be constructed
abbrev pub FailsConstructed : Rules → Element → Cause → Type 0
FailsConstructed r e c = (e.constructed ≡ true) × (¬ MayBeConstructed r e.class e.number)
    × ((MayBeConstructed Ber e.class e.number × (c ≡ ConstructedString))
    ⊎ ((¬ MayBeConstructed Ber e.class e.number) × (c ≡ Constructed)))

-- why the content of a primitive element is rejected
abbrev pub FailsPrimitive : Walk → Element → Cause → Type 0
FailsPrimitive w e c = (e.constructed ≡ false) × (e.class ≡ Universal) × (((e.number ≡ 0) × (c ≡ EndMarker))
    ⊎ ((e.number ≢ 0) × (¬ Keeps w) × (f : ContentError)
    × IsFirstBroken (content_rules w.content.rules e.number (octets_or_none e.content)) f × (c ≡ Value f)))

-- the element e itself is rejected
pub record FailsCheck (w : Walk) (e : Element) (f : ElementError) : Type 0 where
  pub fails : FailsConstructed w.content.rules e f.cause ⊎ FailsPrimitive w e f.cause
  pub offset : f.offset ≡ e.offset
  pub step : IsSomeAnd f.step (λ s. IsStep s e.class e.number e.index)
