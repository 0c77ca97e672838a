-- The first fault, as a walk finds it.
use Rattle.std.proofs.Common.{◌≡◌, ◌≢◌, ℕ, ◌+◌, ◌≤◌, ◌⊎◌, Bool, true, false, Option, Some, None, List, [], ◌∷◌, ◌++◌, length, refl, sym, ap, subst, ◌∙◌, arith, append_assoc, length-append, inl, inr, Ok, Err}
use Rattle.std.specs.List.{All}
use Rattle.std.specs.Option.{option_to_list}
use Rattle.std.specs.Prelude.{IsSomeAnd, Result}
use Rattle.std.proofs.lemmas.List.{append-nil}
use Rattle.std.proofs.lemmas.List.Elements.{All-weaker}
use Rattle.der_base.specs.declared.rules.Rules.{Rules}
use Rattle.der_base.specs.declared.rules.Rules.TheVariants.{Ber}
use Rattle.der_base.specs.Spelling.{end_marker}
use Rattle.der_elements.specs.Check.Readers.{BeginsWithElement}
use Rattle.der_elements.specs.declared.cause.Cause.TheVariants.{Cut}
use Rattle.der_elements.specs.declared.content.End.{End}
use Rattle.der_elements.specs.declared.content.End.TheVariants.{At, After, Unlimited}
use Rattle.der_elements.specs.declared.content.Open.{Open}
use Rattle.der_elements.specs.declared.element.Element.{Element}
use Rattle.der_elements.specs.declared.path.Step.{Step}
use Rattle.der_elements.specs.declared.error.ElementError.{ElementError}
use Rattle.der_elements.specs.declared.walk.Walk.{Walk}
use Rattle.der_elements.specs.Ends.{end_from, end_in, end_of, ends_at_marker, here_of, limit_of, octets_after, IsEndOf}
use Rattle.der_elements.specs.Faults.{IsAtFault, ended}
use Rattle.der_elements.specs.FirstFault.{Faults, FaultsOne, IsFirstFaultOf, IsOver, IsShallow, first, here, later, no_extras, start}
use Rattle.der_elements.specs.Laws.{IsWithin as LiesWithin}
use Rattle.der_elements.specs.Reading.{Refuses, StaysOpen, VisitsTo}
use Rattle.der_elements.specs.Visits.{Visited, Extras, Visits, none, one_more}
use Rattle.der_elements.specs.Walked.{HasVisited, HasWalked, IsRefused, VisitsNext, outermost, inside, position_of, steps_of}
use Rattle.der_elements.proofs.Between.{front_between}
use Rattle.der_elements.proofs.Ends.{limit_size, limit_within}
use Rattle.der_elements.proofs.Headers.{header_two}
use Rattle.der_elements.proofs.Leading.{Lowers, all_shallow, leads, lowers_none}
use Rattle.der_elements.proofs.NoFaults.{no_first_fault, octets_all}
use Rattle.der_elements.proofs.VisitedElements.{front_all, one_within, shallow_element}
use Rattle.der_elements.proofs.Walks.{extras_same, length-here}

-- where no element is open the content has no marker, and elsewhere a length or a marker ends it
open_or_not : {x : Extras} {r : Rules} {i : List ℕ} {n : ℕ} {opens : List Open} {s : Rules} {e : Option ℕ} {m : Bool} {at : ℕ} {vs : List Visited} → HasWalked x r i n opens s e m at vs
    → ((opens ≡ []) × (m ≡ false)) ⊎ ((opens ≢ []) × (m ≡ false → (k : ℕ) × (e ≡ Some k)))
open_or_not (outermost ed eo es he hm ha v) = inl (eo, hm)
open_or_not {i = i} {e = e} {m = m} (inside outer o st fst before us v eo w is he hf ha hl vis ev el em ef es) =
    inr ((λ q. absurd (omega (arith, ap length (sym eo ∙ q), length-append outer (o ∷ [])))), λ f. ends v.length refl (sym em ∙ f))
  where
    ends : (l : Option ℕ) → v.length ≡ l → ends_at_marker l ≡ false → (k : ℕ) × (e ≡ Some k)
    ends (Some k) q f = (v.offset + v.header + k, el ∙ ap (λ z. end_from (v.offset + v.header) (end_in (length i) o.around.end) z) q)
    ends None q f = absurd (cc)

-- the content goes on where a walk stays in it
goes_on : (x : Extras) (r : Rules) (vs : List Visited) (w : Walk) → HasVisited x r w.input.now w vs → StaysOpen w → (w.opened.items ≡ [] → here_of w ≡ [] → ⊥) → IsOver (position_of w) → ⊥
goes_on x r vs w has stays some over = of (open_or_not has.walked) over
  where
    size : ℕ
    size = length w.input.now

    at_end : (e : End) → w.content.end ≡ e → (k : ℕ) → end_of w ≡ Some k → IsEndOf size e → octets_after e ≡ 0 → here_of w ≡ [] → IsSomeAnd (end_of w) (λ n. n ≤ w.at)
    at_end (At z) q k ek ends o h =
        let is : end_of w ≡ Some z = ap (λ y. end_in size y) q in
        let limit : limit_of size (end_of w) ≡ limit_of size (Some z) = ap (λ y. limit_of size y) is in
        let le : z ≤ w.at = omega (arith, ap length h, length-here w, limit, ends) in
        subst (λ y. IsSomeAnd y (λ n. n ≤ w.at)) (sym is) le
    at_end (After z) q k ek ends o h = absurd (omega (arith, ends, o))
    at_end Unlimited q k ek ends o h = let is : end_of w ≡ None = ap (λ y. end_in size y) q in absurd (cc)

    of : ((w.opened.items ≡ []) × (w.content.has_marker ≡ false)) ⊎ ((w.opened.items ≢ []) × (w.content.has_marker ≡ false → (k : ℕ) × (end_of w ≡ Some k))) → IsOver (position_of w) → ⊥
    of (inl (eo, hm)) (inl (m, o, h)) = some eo h
    of (inl (eo, hm)) (inr (m, z, h)) = absurd (cc)
    of (inr (so, ends)) (inl (m, o, h)) = let k = ends m in stays so w.at (inl (m, at_end w.content.end refl k.0 k.1 has.end o h, refl))
    of (inr (so, ends)) (inr (m, z, h)) =
        let limit = limit_of size (end_of w) in
        let fits : w.at + 2 ≤ limit = omega (arith, ap length h, length-append end_marker z, length-here w) in
        stays so (w.at + 2) (inr (m, refl, limit_within (w.at + 2) size (end_of w) fits, omega (arith, fits, limit_size size (end_of w)), front_between w.input.now w.at limit end_marker z h))

pub next_refused : (d : ℕ) (x : Extras) (r : Rules) (i : List ℕ) (vs : List Visited) (w : Walk) (f : ElementError) → HasVisited x r i w vs → StaysOpen w → (w.opened.items ≡ [] → here_of w ≡ [] → ⊥) → Refuses d w (here_of w) f
    → HasVisited x r i w vs × Faults x d (position_of w) [] (option_to_list f.step) f
next_refused d x r i vs w f has stays some g =
    let here_has = subst (λ l. HasVisited x r l w vs) (sym has.input) has in
    let fault = subst (λ z. IsAtFault z d (position_of w) (here_of w) f.cause) (extras_same x w has.enters has.keeps) g.fault in
    (has, first (goes_on x r vs w here_has stays some) (here fault g.place g.step refl refl))

pub first_of : {x : Extras} {r : Rules} {i : List ℕ} {vs us : List Visited} {steps : List Step} {f : ElementError} (d : ℕ) (w : Walk) → Lowers x d → (x.enters_strings ≡ true → d ≡ 101) → HasVisited x r i w vs → All (IsShallow d) vs → Faults x d (position_of w) us steps f
    → Faults x d (start r i) (vs ++ us) (steps_of w.opened.items ++ steps) f
first_of {x} {r} {i} {vs} {us} {steps} {f} d w low full has h g =
    let here_has = subst (λ l. HasVisited x r l w vs) (sym has.input) has in
    subst (λ l. Faults x d (start r l) (vs ++ us) (steps_of w.opened.items ++ steps) f) has.input (leads d low full w.content.end w.content.visited here_has.walked h here_has.ends_around refl here_has.end here_has.counts g)

refused : (x : Extras) (r : Rules) (i : List ℕ) (vs : List Visited) (w : Walk) (f : ElementError) → HasVisited x r i w vs → Faults x 101 (position_of w) [] (option_to_list f.step) f → IsRefused x r i vs w f
refused x r i vs w f has g =
    let all = first_of 101 w (lowers_none x) (λ _. refl) has (all_shallow has.walked) g in
    let one = subst (λ l. Faults x 101 (start r i) l (steps_of w.opened.items ++ option_to_list f.step) f) (append-nil vs) all in
    record { visited = has; never = λ us whole. no_first_fault 101 refl whole one; first = one }

pub next_so : (x : Extras) (r : Rules) (i : List ℕ) (vs : List Visited) (w : Walk) (q : Result (Option Element) ElementError) → VisitsTo 101 x r i vs w q → VisitsNext x r i vs w q
next_so x r i vs w (Ok (Some e)) h = (h.0, h.1, h.2, omega (arith, h.3))
next_so x r i vs w (Ok None) h = h
next_so x r i vs w (Err f) h = refused x r i vs w f h.0 h.1

-- where no element begins the input

abbrev pub BeginsNothing : Rules → ℕ → List ℕ → Type 0
BeginsNothing r d i = (rest : List ℕ) → ¬ BeginsWithElement r d i rest

no_extra : {r : Rules} → no_extras.keeps_values ≡ true → r ≡ Ber → ⊥
no_extra e q = absurd (cc)

-- nothing is visited then to the end of an element
pub nothing_whole : {r : Rules} {n a : ℕ} {j : List ℕ} {vs : List Visited} (d : ℕ) (i y : List ℕ) → BeginsNothing r d i → All (IsShallow d) vs → Visits no_extras r n 0 a j vs → i ≡ j ++ y → j ≡ []
nothing_whole d i y never h none e = refl
nothing_whole {vs = vs} d i y never h (one_more b rest us ws ei ev one more) e =
    let same : d ≡ 0 + d = omega arith in
    let shallow = subst (λ m. All (IsShallow m) us) same (front_all (IsShallow d) us ws vs ev h) in
    absurd (never (rest ++ y) (b, e ∙ ap (λ l. l ++ y) ei ∙ append_assoc b rest y, shallow_element d no_extra shallow one))

-- there are no octets
pub nothing_there : (r : Rules) (d : ℕ) (i : List ℕ) (f : ElementError) → i ≡ [] → f ≡ record { offset = 0; step = None; cause = Cut 2 } → IsFirstFaultOf r d i f
nothing_there r d i f e ef =
    let none_there = octets_all r i ∙ e in
    ([], [], subst (λ g. FaultsOne no_extras d (start r i) [] [] g) (sym ef) (here (ended none_there refl) refl (λ v spells. absurd (omega (arith, ap length none_there, header_two r _ v spells))) refl refl))

-- the first element has the fault
pub one_of : (r : Rules) (d : ℕ) (i : List ℕ) (vs : List Visited) (steps : List Step) (f : ElementError) → BeginsNothing r d i → Faults no_extras d (start r i) vs steps f → IsFirstFaultOf r d i f
one_of r d i vs steps f never (first stays g) = (vs, steps, g)
one_of r d i vs steps f never (later n b rest us ws en e one more ev) =
    let all = All-weaker (LiesWithin 0 (0 + length b) 0 n) (IsShallow (0 + d)) (λ u p. omega (arith, p.4, en)) us (one_within one) in
    absurd (never rest (b, sym (octets_all r i) ∙ e, shallow_element d no_extra all one))
