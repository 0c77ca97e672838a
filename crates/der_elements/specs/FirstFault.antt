-- The first fault of octets that aren't valid elements.
use Rattle.std.specs.Prelude.{◌≡◌, ℕ, suc, ◌+◌, ◌-◌, ◌<◌, ◌⊎◌, ◌==◌, nat_lt, if◌then◌else◌, true, false}
use Rattle.std.specs.Prelude.{Option, Some, None, IfSome, List, [], ◌∷◌, ◌++◌, length}
use Rattle.std.specs.Option.{option_to_list}
use Rattle.der_base.specs.declared.header.Class.{Class}
use Rattle.der_base.specs.declared.rules.Rules.{Rules}
use Rattle.der_base.specs.Spelling.{end_marker}
use Rattle.der_elements.specs.Check.Elements.{MayBeConstructed}
use Rattle.der_elements.specs.declared.content.End.{End}
use Rattle.der_elements.specs.declared.content.End.TheVariants.{At, After, Unlimited}
use Rattle.der_elements.specs.declared.path.Step.{Step}
use Rattle.der_elements.specs.declared.error.ElementError.{ElementError}
use Rattle.der_elements.specs.Ends.{IsWithin, ends_at_marker, octets_after}
use Rattle.der_elements.specs.Faults.{Position, IsAtFault, IsLastStep, IsStep, end_at, octets_at, place_of}
use Rattle.der_elements.specs.Visits.{Visited, Extras, IsHeaderBy, VisitsOne, visited}

-- a walk that visits nothing besides the elements of X.690
abbrev pub no_extras : Extras
no_extras = record { enters_strings = false; keeps_values = false }

-- fewer than d elements are around it
abbrev pub IsShallow : ℕ → Visited → Type 0
IsShallow d v = v.depth < d

-- the start of an input
abbrev pub start : Rules → List ℕ → Position
start r i = record {
  input = i;
  at = 0;
  rules = r;
  end = Unlimited;
  has_marker = false;
  index = 0;
  depth = 0;
  innermost = 0;
  outermost = Unlimited;
}

-- the position after an element of this many octets
abbrev pub behind : Position → ℕ → Position
behind p n = record p { at = p.at + n; index = suc p.index }

-- a content that ends at the offset e, in an input of this size or after it
abbrev pub end_for : ℕ → ℕ → End
end_for size e = if nat_lt size e then After (e - size) else At e

-- where a content of this length ends that begins at an offset
abbrev pub end_behind : Position → ℕ → Option ℕ → End
end_behind p a (Some n) = end_for (length p.input) (a + n)
end_behind p a None = p.end

-- the position after a header of this many octets with this length
abbrev pub inside : Position → ℕ → Option ℕ → Position
inside p h n = let e = end_behind p (p.at + h) n in record p {
  at = p.at + h;
  end = e;
  has_marker = ends_at_marker n;
  index = 0;
  depth = suc p.depth;
  innermost = p.at;
  outermost = if p.depth == 0 then e else p.outermost;
}

-- the content ends at the position: where its length says it, or at an end marker (8.1.3)
abbrev pub IsOver : Position → Type 0
IsOver p = ((p.has_marker ≡ false) × (octets_after p.end ≡ 0) × (octets_at p ≡ []))
    ⊎ ((p.has_marker ≡ true) × (z : List ℕ) × (octets_at p ≡ end_marker ++ z))

mutual
  -- The first fault of the rest of a content, whose elements should have fewer than d elements around them. The
  -- elements vs are visited before it. The steps are the path to it.
  pub data Faults (x : Extras) (d : ℕ) : Position → List Visited → List Step → ElementError → Type 0 where
    first : {p : Position} {vs : List Visited} {steps : List Step} {f : ElementError} → ¬ IsOver p
        → FaultsOne x d p vs steps f → Faults x d p vs steps f
    -- the octets b are a valid element before the fault
    later : {p : Position} {vs : List Visited} {steps : List Step} {f : ElementError} (n : ℕ) (b rest : List ℕ)
        (us ws : List Visited) → n + p.depth ≡ d → octets_at p ≡ b ++ rest
        → VisitsOne x p.rules n p.depth p.at b us → Faults x d (behind p (length b)) ws steps f → vs ≡ us ++ ws
        → Faults x d p vs steps f

  -- The first fault of the element that should begin at a position.
  pub data FaultsOne (x : Extras) (d : ℕ) : Position → List Visited → List Step → ElementError → Type 0 where
    here : {p : Position} {vs : List Visited} {steps : List Step} {f : ElementError}
        → IsAtFault x d p (octets_at p) f.cause → f.offset ≡ place_of p f.cause → IsLastStep p (octets_at p) f.step
        → vs ≡ [] → steps ≡ option_to_list f.step → FaultsOne x d p vs steps f
    -- the fault is in the content of a constructed element
    inner : {p : Position} {vs : List Visited} {steps : List Step} {f : ElementError} (c : Class) (t : ℕ) (n : Option ℕ)
        (h rest : List ℕ) (s : Step) (us : List Visited) (more : List Step)
        → IsHeaderBy p.rules c true t n h → octets_at p ≡ h ++ rest
        → IfSome n (λ m. IsWithin (p.at + length h + m) (end_at p)) → p.depth < d → MayBeConstructed p.rules c t
        → Faults x d (inside p (length h) n) us more f → IsStep s c t p.index
        → vs ≡ visited p.at p.depth c true t h n ∷ us → steps ≡ s ∷ more → FaultsOne x d p vs steps f

-- f is the first fault of an input. The elements vs are visited before it, and the steps are the path to it.
abbrev pub IsFirstFault : Extras → Rules → List ℕ → List Visited → List Step → ElementError → Type 0
IsFirstFault x r i vs steps f = Faults x 101 (start r i) vs steps f

-- f is the first fault of the element that begins the octets i, which isn't valid to depth d
abbrev pub IsFirstFaultOf : Rules → ℕ → List ℕ → ElementError → Type 0
IsFirstFaultOf r d i f = (vs : List Visited) × (steps : List Step) × FaultsOne no_extras d (start r i) vs steps f
