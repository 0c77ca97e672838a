-- Why an input isn't written as DER, and where.
use Rattle.std.specs.Prelude.{◌≡◌, ◌≢◌, ◌↔◌, ◌==◌, ◌<◌, ◌≤◌, ◌^◌, ℕ, ◌⊎◌, true, false, Option}
use Rattle.std.specs.Prelude.{Some, None, List, [], ◌∷◌, ◌++◌, length, Result, Ok, Err, MatchResult}
use Rattle.std.specs.Option.{option_to_list}
use Rattle.der_base.specs.declared.rules.Rules.TheVariants.{Ber}
use Rattle.der_base.specs.declared.header.Class.TheVariants.{Universal}
use Rattle.der_contents.specs.declared.content_error.ContentError.{ContentError}
use Rattle.der_elements.specs.declared.cause.Cause.{Cause}
use Rattle.der_elements.specs.declared.cause.Cause.TheVariants.{NotDer, OtherPart, UnusedBitsInside, Value}
use Rattle.der_elements.specs.declared.element.Element.{Element}
use Rattle.der_elements.specs.declared.path.Step.{Step}
use Rattle.der_elements.specs.declared.error.ElementError.{ElementError}
use Rattle.der_elements.specs.declared.walk.Walk.{Walk}
use Rattle.der_elements.specs.Faults.{IsStep}
use Rattle.der_elements.specs.Visits.{Visited, Visits}
use Rattle.der_elements.specs.Walked.{HasOctets, HasVisited, IsRefused, index_in, steps_of, visited_of}
use Rattle.der_canon.specs.declared.error.CanonError.{CanonError}
use Rattle.der_canon.specs.declared.error.CanonError.TheVariants as canon
use Rattle.der_canon.specs.declared.error.NotCanonical.{NotCanonical}
use Rattle.der_canon.specs.declared.piece.Form.{Form}
use Rattle.der_canon.specs.declared.piece.Form.TheVariants.{Primitive}
use Rattle.der_canon.specs.declared.piece.Parts.{Parts}
use Rattle.der_canon.specs.declared.piece.Piece.{Piece}
use Rattle.der_canon.specs.declared.piece.Pieces.{Pieces}
use Rattle.der_canon.specs.NoDer.{AllHaveDer, HasDer, HasNoDer, HaveDer, IsNoPart}
use Rattle.der_canon.specs.NoDer.{is_inside, string_after, string_of, unused_after, unused_of}
use Rattle.der_canon.specs.Same.{no_extras, part_number}
use Rattle.der_canon.specs.Sizes.{IsSizeOf}
use Rattle.der_canon.specs.Strings.{IsBroken}

-- the last step of the path to an element: a constructed one is open, so its step is among those of the walk
abbrev pub IsStepTo : Visited → ℕ → Option Step → Type 0
IsStepTo v n (Some s) = (v.constructed ≡ false) × IsStep s v.class v.number n
IsStepTo v n None = v.constructed ≡ true

-- After vs the walk by BER is refused, or its next element is the first that has no form in DER.
pub data IsFirstError (i : List ℕ) (vs : List Visited) (w : Walk) (f : ElementError) : Type 0 where
  ber : IsRefused no_extras Ber i vs w f → IsFirstError i vs w f
  der : (v : Visited) → HasVisited no_extras Ber i w (vs ++ v ∷ []) → HasNoDer i vs v f.cause → f.offset ≡ v.offset
      → IsStepTo v (index_in v.depth vs) f.step → IsFirstError i vs w f

-- e is the error, with its path
pub record IsToldOf (w : Walk) (f : ElementError) (e : NotCanonical) : Type 0 where
  pub offset : e.offset ≡ f.offset
  pub cause : e.cause ≡ f.cause
  pub path : e.path.steps.items ≡ steps_of w.opened.items ++ option_to_list f.step

-- The first fault of i: it isn't elements by BER, or one of them has no form in DER.
pub record IsFirstFault (i : List ℕ) (e : NotCanonical) : Type 0 where
  pub before : List Visited
  pub walk : Walk
  pub refusal : ElementError
  pub have : HaveDer i before
  pub error : IsFirstError i before walk refusal
  pub told : IsToldOf walk refusal e

-- the state of the pieces after the string s and u unused bits
abbrev pub AreParts : Option Parts → Option Visited → ℕ → Type 0
AreParts None None u = Unit {0}
AreParts (Some p) (Some x) u = (p.depth ≡ x.depth) × (p.number ≡ part_number (x.number == 3)) × (p.unused ≡ u)
AreParts p s u = ⊥

-- the pieces before were vs, and each had a form in DER
pub record HasRead (i : List ℕ) (vs : List Visited) (p : Pieces) : Type 0 where
  pub walk : HasVisited no_extras Ber i p.walk vs
  pub parts : AreParts p.parts (string_after vs) (unused_after i vs)
  pub have : HaveDer i vs

-- one more has, or there is none, or it is the first error
abbrev pub ReadsOn : List ℕ → List Visited → Pieces → Result (Option Piece) ElementError → Type 0
ReadsOn i vs p (Ok (Some x)) = HasRead i (vs ++ visited_of x.element ∷ []) p
ReadsOn i vs p (Ok None) = Unit {0}
ReadsOn i vs p (Err f) = IsFirstError i vs p.walk f

-- an element was found to be a part after the state p, which is then q
abbrev pub IsPartAfter : Element → Parts → Parts → Type 0
IsPartAfter e p q = (e.class ≡ Universal) × (e.number ≡ p.number) × (p.unused ≡ 0) × (q.depth ≡ p.depth)
    × (q.number ≡ p.number) × ((i : List ℕ) → HasOctets i e → q.unused ≡ unused_of i (visited_of e))

-- or none, for this cause
abbrev pub IsNoPartAfter : Element → Parts → Cause → Type 0
IsNoPartAfter e p c = (¬ ((e.class ≡ Universal) × (e.number ≡ p.number)) × (c ≡ OtherPart))
    ⊎ ((e.class ≡ Universal) × (e.number ≡ p.number) × (p.unused ≢ 0) × (c ≡ UnusedBitsInside))

-- the form of an element after the string s and u unused bits, and the state then
abbrev pub FindsPart : List ℕ → Option Visited → ℕ → Element → Result (Form × Option Parts) Cause → Type 0
FindsPart i s u e result = let v = visited_of e in MatchResult result
    (λ x. AreParts x.1 (string_of s v) (unused_of i v) × ((c : Cause) → ¬ IsNoPart s u v c)
    × ((x.0 ≡ Primitive) ↔ ((is_inside s v ≡ false) × (v.constructed ≡ false))))
    (λ c. IsNoPart s u v c)

-- the same after vs, if DER has one
abbrev pub FindsForm : List ℕ → List Visited → Element → Result (Form × Option Parts) Cause → Type 0
FindsForm i vs e result = let v = visited_of e in MatchResult result
    (λ x. AreParts x.1 (string_of (string_after vs) v) (unused_of i v) × HasDer i vs v)
    (λ c. HasNoDer i vs v c)

-- an error of the whole input
abbrev pub IsAll : NotCanonical → Type 0
IsAll e = (e.offset ≡ 0) × (e.cause ≡ NotDer)

-- DER has too many octets for i to count them. Each element has at most ten times as many in DER, so that i has 2^60
-- octets or more. It says no offset.
pub record IsTooLarge (i : List ℕ) (e : NotCanonical) : Type 0 where
  pub have : AllHaveDer i
  pub many : 2 ^ 60 ≤ length i
  pub cause : e.cause ≡ NotDer
  pub offset : e.offset ≡ 0

-- A string in parts of i has a content in DER that breaks a rule of its type, which is the cause.
pub record IsBrokenString (i : List ℕ) (e : NotCanonical) : Type 0 where
  pub error : ContentError
  pub broken : IsBroken i e.offset error
  pub cause : e.cause ≡ Value error

-- why i isn't written, where its first fault isn't said before
abbrev pub IsErrorOfString : List ℕ → NotCanonical → Type 0
IsErrorOfString i e = IsFirstFault i e ⊎ IsBrokenString i e

-- Why i isn't written: its first fault; that it is too large; or, where it is elements by BER and each has a form in
-- DER, a string in parts.
pub data IsErrorOf (i : List ℕ) (e : NotCanonical) : Type 0 where
  first : IsFirstFault i e → IsErrorOf i e
  large : IsTooLarge i e → IsErrorOf i e
  string : AllHaveDer i → IsBrokenString i e → IsErrorOf i e

-- DER has more octets for i than these
abbrev pub NeedsMore : List ℕ → ℕ → Type 0
NeedsMore i room = (n : ℕ) × IsSizeOf i n × (room < n)

-- why i isn't written to a vector: an error of i, or there was no memory
abbrev pub IsCanonErrorOf : List ℕ → CanonError → Type 0
IsCanonErrorOf i (canon.NotCanonical e) = IsErrorOf i e
IsCanonErrorOf i canon.OutOfMemory = Unit {0}
