-- The fault at a position of an input where an element should begin.
use Rattle.std.specs.Prelude.{◌≡◌, ◌≢◌, ℕ, ◌+◌, ◌-◌, ◌<◌, ◌≤◌, ◌==◌, if◌then◌else◌, Bool, true, false, ◌&&◌}
use Rattle.std.specs.Prelude.{Option, Some, None, List, [], length, take, Err}
use Rattle.der_base.specs.declared.error.Err.{Err as Refused}
use Rattle.der_base.specs.declared.error.Err.TheVariants.{Incomplete, Error, Failure, OutOfMemory}
use Rattle.der_base.specs.declared.error.Error.{Error as BerError}
use Rattle.der_base.specs.declared.error.Needed.TheVariants.{Unknown, Size}
use Rattle.der_base.specs.declared.header.Class.{Class}
use Rattle.der_base.specs.declared.header.Class.TheVariants.{Universal}
use Rattle.der_base.specs.declared.header.Length.TheVariants.{Definite}
use Rattle.der_base.specs.declared.rules.Rules.{Rules}
use Rattle.der_base.specs.declared.rules.Rules.TheVariants.{Ber}
use Rattle.der_base.specs.Headers.{LeadingHeader}
use Rattle.der_base.specs.Rules.{AnswersHeader, SpellsHeaderBy}
use Rattle.der_elements.specs.Check.Elements.{MayBeConstructed}
use Rattle.der_contents.specs.ContentRules.{IsFirstBroken, content_rules}
use Rattle.der_contents.specs.declared.content_error.ContentError.{ContentError}
use Rattle.der_elements.specs.declared.cause.Cause.{Cause}
use Rattle.der_elements.specs.declared.cause.Cause.TheVariants.{Cut, PastEnd, NoEndMarker, EndMarker, Header, Value}
use Rattle.der_elements.specs.declared.cause.Cause.TheVariants.{Constructed, ConstructedString, TooDeep}
use Rattle.der_elements.specs.declared.content.End.{End}
use Rattle.der_elements.specs.declared.content.End.TheVariants.{At, After, Unlimited}
use Rattle.der_elements.specs.declared.path.Step.{Step}
use Rattle.der_elements.specs.Ends.{between, end_in, limit_of, overrun}
use Rattle.der_elements.specs.Visits.{Extras}

-- a position in an input, with what the headers of the elements around it tell
pub record Position : Type 0 where
  pub input : List ℕ
  -- how many octets are before it
  pub at : ℕ
  -- the content that it is in: the rules of its elements, its end, and whether end-of-contents octets end it
  pub rules : Rules
  pub end : End
  pub has_marker : Bool
  -- how many elements of this content are before it
  pub index : ℕ
  -- how many elements are around it, where the innermost begins, and where the content of the outermost ends
  pub depth : ℕ
  pub innermost : ℕ
  pub outermost : End

-- where the content ends at the latest, and its octets in the input from the position on
abbrev pub end_at : Position → Option ℕ
end_at p = end_in (length p.input) p.end

abbrev pub octets_at : Position → List ℕ
octets_at p = between p.input p.at (limit_of (length p.input) (end_at p))

-- where the content begins after this header
abbrev pub content_at : Position → List ℕ → LeadingHeader → ℕ
content_at p here v = p.at + (length here - length v.rest)

-- how many octets are missing after the input: those up to the end of the outermost element, or n if that isn't known
abbrev pub missing_by : End → ℕ → ℕ
missing_by (After m) n = m
missing_by (At e) n = n
missing_by Unlimited n = n

abbrev pub missing_in : Position → ℕ → ℕ
missing_in p n = missing_by p.outermost n

-- whether a content ends in the input
abbrev pub ends_inside : End → Bool
ends_inside (At e) = true
ends_inside (After m) = false
ends_inside Unlimited = false

-- the cause if n octets are missing here: the content around ends too early, or the input is truncated
abbrev pub cause_of_lack : Position → ℕ → Cause
cause_of_lack p n = if ends_inside p.end then PastEnd n else Cut (missing_in p n)

-- the cause if no header can be read
abbrev pub cause_of_header : Position → Refused BerError → Cause
cause_of_header p (Error e) = Header e
cause_of_header p (Failure e) = Header e
cause_of_header p (Incomplete (Size n)) = cause_of_lack p n
cause_of_header p (Incomplete Unknown) = cause_of_lack p 1
cause_of_header p OutOfMemory = cause_of_lack p 1

-- the cause if a content ends at this offset, this many octets after the octets here
abbrev pub cause_of_content : Position → ℕ → ℕ → Cause
cause_of_content p end n =
    if overrun end (end_at p) == 0 then Cut (missing_in p n) else PastEnd (overrun end (end_at p))

-- the cause if no octets are left here
abbrev pub cause_of_end : Position → Cause
cause_of_end p = if ends_inside p.end && p.has_marker then NoEndMarker else Cut (missing_in p 2)

-- the content after this header is here, or it is a list that is truncated and ends within the content around it
abbrev pub HasRoom : Position → List ℕ → LeadingHeader → Type 0
HasRoom p here v = (n : ℕ) → v.length ≡ Definite n → length v.rest < n
    → (v.constructed ≡ true) × (overrun (content_at p here v + n) (end_at p) ≡ 0)

-- the octets here begin with this header, and neither its length nor its depth is at fault
pub record IsReached (d : ℕ) (p : Position) (here : List ℕ) (v : LeadingHeader) : Type 0 where
  pub header : SpellsHeaderBy p.rules here v
  pub room : HasRoom p here v
  pub shallow : p.depth < d

-- The fault of the element that should begin the octets here, with fewer than d elements around it, and its cause. The
-- first of these that applies is the fault.
pub data IsAtFault (x : Extras) (d : ℕ) (p : Position) (here : List ℕ) : Cause → Type 0 where
  -- no octets are left, and the content doesn't end
  ended : {c : Cause} → here ≡ [] → c ≡ cause_of_end p → IsAtFault x d p here c
  -- the octets don't begin with a header (8.1.2, 8.1.3)
  header : {c : Cause} (e : Refused BerError) → here ≢ [] → AnswersHeader p.rules here (Err e)
      → c ≡ cause_of_header p e → IsAtFault x d p here c
  -- the content is longer than the one around it, or that of a primitive element is truncated
  content : {c : Cause} (v : LeadingHeader) (n : ℕ) → SpellsHeaderBy p.rules here v → v.length ≡ Definite n
      → length v.rest < n → (v.constructed ≡ true → overrun (content_at p here v + n) (end_at p) ≢ 0)
      → c ≡ cause_of_content p (content_at p here v + n) (n - length v.rest) → IsAtFault x d p here c
  -- d or more elements are around it
  too_deep : {c : Cause} (v : LeadingHeader) → SpellsHeaderBy p.rules here v → HasRoom p here v
      → d ≤ p.depth → c ≡ TooDeep → IsAtFault x d p here c
  -- a constructed string, by DER (10.2)
  string : {c : Cause} (v : LeadingHeader) → IsReached d p here v → v.constructed ≡ true
      → ¬ MayBeConstructed p.rules v.class v.number → MayBeConstructed Ber v.class v.number
      → c ≡ ConstructedString → IsAtFault x d p here c
  -- a constructed element of a type that is primitive by either rules
  constructed : {c : Cause} (v : LeadingHeader) → IsReached d p here v → v.constructed ≡ true
      → ¬ MayBeConstructed Ber v.class v.number → c ≡ Constructed → IsAtFault x d p here c
  -- end-of-contents octets (8.1.5)
  marker : {c : Cause} (v : LeadingHeader) → IsReached d p here v → v.constructed ≡ false
      → v.class ≡ Universal → v.number ≡ 0 → c ≡ EndMarker → IsAtFault x d p here c
  -- the content octets break a rule of their type (8.2 to 8.26, and by DER 10 and 11), and e is the first of these
  value : {c : Cause} (v : LeadingHeader) (n : ℕ) (e : ContentError) → IsReached d p here v → v.constructed ≡ false
      → (x.keeps_values ≡ true → p.rules ≡ Ber → ⊥)
      → v.class ≡ Universal → v.number ≢ 0 → v.length ≡ Definite n
      → IsFirstBroken (content_rules p.rules v.number (take n v.rest)) e → c ≡ Value e → IsAtFault x d p here c

-- the step of a path to an element of this class and number, after this many elements in the same content
pub record IsStep (s : Step) (c : Class) (t n : ℕ) : Type 0 where
  pub class : s.name.class ≡ c
  pub number : s.name.number ≡ t
  pub index : s.index ≡ n

-- the last step of the path to a rejected element: that of the element here, if its header can be read
abbrev pub IsLastStep : Position → List ℕ → Option Step → Type 0
IsLastStep p here (Some s) = (v : LeadingHeader) × SpellsHeaderBy p.rules here v × IsStep s v.class v.number p.index
IsLastStep p here None = (v : LeadingHeader) → ¬ SpellsHeaderBy p.rules here v

-- the offset of the rejected element: the innermost one around if it lacks end-of-contents octets, else the one here
abbrev pub place_of : Position → Cause → ℕ
place_of p NoEndMarker = p.innermost
place_of p _ = p.at
