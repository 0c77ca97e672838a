-- Elements that are listed are within the input.
use Rattle.std.proofs.Common.{◌≡◌, ℕ, suc, ◌+◌, ◌≤◌, true, false, List, [], ◌∷◌, ◌++◌, length, map, take, sym, subst, ap, ◌∙◌, arith, length-append, All}
use Rattle.std.proofs.lemmas.List.{length-map}
use Rattle.std.proofs.lemmas.List.Elements.{All-nil, All-cons, All-append, All-map}
use Rattle.der_base.specs.declared.rules.Rules.{Rules}
use Rattle.der_base.specs.Octets.{identifier}
use Rattle.der_base.specs.Spelling.{end_marker}
use Rattle.der_elements.specs.Check.Elements.{AreElements, IsElement, none, one_more, primitive, constructed, indefinite}
use Rattle.der_elements.specs.Check.Listing.{listed, listed_one}
use Rattle.der_elements.specs.declared.check.element.Element.{Element}
use Rattle.der_elements.specs.Check.Overlay.{overlay}
use Rattle.der_elements.specs.declared.cause.Cause.{Cause}
use Rattle.der_elements.specs.declared.cause.Cause.TheVariants as causes
use Rattle.c_values.specs.declared.element.DmElement.{DmElement}
use Rattle.c_values.specs.Elements.{slot_of}
use Rattle.c_values.specs.Laws.{IsWithin, ElementsLieWithin}
use Rattle.c_values.specs.Outcomes.{fault_outcome, read, refused}

-- an element is within so many octets, as C sees it
abbrev Lies : ℕ → Element → Type 0
Lies z e = IsWithin z (slot_of e)

mutual
  -- those of octets that begin at a, and end at z or before
  all_lie : {r : Rules} {d : ℕ} {i : List ℕ} (are : AreElements r d i) (a z : ℕ) → a + length i ≤ z → All (Lies z) (listed are a)
  all_lie none a z h = All-nil (Lies z)
  all_lie (one_more b rest e is more) a z h =
      let size = ap length e ∙ length-append b rest in
      All-append (Lies z) (listed_one is a) (listed more (a + length b))
      (each_lies is a z (omega (arith, h, size)))
      (all_lie more (a + length b) z (omega (arith, h, size)))

  each_lies : {r : Rules} {d : ℕ} {b : List ℕ} (is : IsElement r d b) (a z : ℕ) → a + length b ≤ z → All (Lies z) (listed_one is a)
  each_lies (primitive c t s w ht hs e m) a z h =
      let size = ap length e ∙ length-append (identifier c false t ++ s) w in
      All-cons (Lies z) _ [] (omega arith, omega arith, omega (arith, h, size)) (All-nil (Lies z))
  each_lies (constructed c t s w ht hs e m are) a z h =
      let size = ap length e ∙ length-append (identifier c true t ++ s) w in
      let o = a + length (identifier c true t ++ s) in
      All-cons (Lies z) _ (listed are o) (omega arith, omega arith, omega (arith, h, size)) (all_lie are o z (omega (arith, h, size)))
  each_lies (indefinite c t w ht er e m are) a z h =
      let k = identifier c true t in
      let size = ap length e ∙ length-append (k ++ 128 ∷ w) end_marker in
      let front = length-append k (128 ∷ w) in
      let o = a + length k + 1 in
      All-cons (Lies z) _ (listed are o) (omega arith, omega arith, omega (arith, h, size, front)) (all_lie are o z (omega (arith, h, size, front)))

-- what was written, as far as there is room
written : (P : DmElement → Type 0) (xs ys : List DmElement) → All P ys → All P (take (length ys) (overlay xs 0 ys))
written P [] [] h = All-nil P
written P [] (y ∷ ys) h = All-nil P
written P (x ∷ xs) [] h = All-nil P
written P (x ∷ xs) (y ∷ ys) h = All-cons P y (take (length ys) (overlay xs 0 ys)) (h 0 y (omega arith)) (written P xs ys (λ k d l. h (suc k) d (omega arith)))

buffer_within : (m n : ℕ) (es : List Element) (old new : List DmElement) → n ≡ length es → new ≡ overlay old 0 (map slot_of es) → All (Lies m) es
    → All (IsWithin m) (take n new)
buffer_within m n es old new count is h =
    let size : length (map slot_of es) ≡ n = length-map es slot_of ∙ sym count in
    subst (λ v. All (IsWithin m) (take n v)) (sym is) (
    subst (λ k. All (IsWithin m) (take k (overlay old 0 (map slot_of es)))) size (
    written (IsWithin m) old (map slot_of es) (All-map (IsWithin m) slot_of es h)
    )
    )

-- a fault has another status than an element
not_read : (c : Cause) (at : ℕ) → (fault_outcome c at).status ≡ 0 → ⊥
not_read (causes.Cut n) at h = absurd (omega (arith, h))
not_read (causes.PastEnd n) at h = absurd (omega (arith, h))
not_read causes.NoEndMarker at h = absurd (omega (arith, h))
not_read causes.EndMarker at h = absurd (omega (arith, h))
not_read (causes.Header e) at h = absurd (omega (arith, h))
not_read (causes.Value e) at h = absurd (omega (arith, h))
not_read causes.Constructed at h = absurd (omega (arith, h))
not_read causes.ConstructedString at h = absurd (omega (arith, h))
not_read causes.OtherPart at h = absurd (omega (arith, h))
not_read causes.UnusedBitsInside at h = absurd (omega (arith, h))
not_read causes.NotDer at h = absurd (omega (arith, h))
not_read causes.TooDeep at h = absurd (omega (arith, h))

pub elements_lie_within : ElementsLieWithin
elements_lie_within r d i old new o (read rest n (b, e, is, kept) eo) h =
    let size = ap length e ∙ length-append b rest in
    let lie = each_lies is 0 (length i) (omega (arith, size)) in
    let all : o.elements ≡ n = ap (λ v. v.elements) eo in
    subst (λ k. All (IsWithin (length i)) (take k new)) (sym all) (buffer_within (length i) n (listed_one is 0) old new kept.0 kept.1 lie)
elements_lie_within r d i old new o (refused f none_begins first eo) h = absurd (not_read f.cause f.offset (sym (ap (λ v. v.status) eo) ∙ h))
