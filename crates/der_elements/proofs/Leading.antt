-- A fault where a walk stands is the first one of the input.
use Rattle.std.proofs.Common.{◌≡◌, ℕ, zero, suc, ◌+◌, ◌-◌, ◌<◌, ◌≤◌, ◌==◌, if◌then◌else◌, Bool, true, false, List, [], ◌∷◌, ◌++◌, length, Option, Some, None, refl, sym, ap, subst, ◌∙◌, arith, append_assoc, length-append, inl, inr}
use Rattle.std.specs.List.{All}
use Rattle.std.specs.Prelude.{IfSome, is_some, not, slice_get}
use Rattle.std.proofs.lemmas.Bool.{ne_eqb}
use Rattle.std.proofs.lemmas.List.{append-nil}
use Rattle.std.proofs.lemmas.List.Elements.{All-nil, All-append, All-cons, All-head, All-same, All-tail, All-weaker}
use Rattle.der_base.specs.declared.rules.Rules.{Rules}
use Rattle.der_elements.specs.declared.content.End.{End}
use Rattle.der_elements.specs.declared.content.End.TheVariants.{At, Unlimited}
use Rattle.der_elements.specs.declared.content.Open.{Open}
use Rattle.der_elements.specs.declared.path.Step.{Step}
use Rattle.der_elements.specs.declared.error.ElementError.{ElementError}
use Rattle.der_elements.specs.Ends.{between, end_from, end_in, ends_at_marker, limit_of, octets_after, EndsWithin, IsEndOf, IsWithin}
use Rattle.der_elements.specs.Faults.{Position, IsStep, end_at, octets_at}
use Rattle.der_elements.specs.FirstFault.{Faults, IsOver, IsShallow, behind, end_behind, first, inner, later, no_extras, start}
use Rattle.der_elements.specs.FirstFault.{inside as content_of}
use Rattle.der_elements.specs.Laws.{IsWithin as LiesWithin}
use Rattle.der_elements.specs.Visits.{Visited, Extras, IsHeaderBy, Visits, VisitsOne, none, one_more, primitive, broken, string, constructed, indefinite, visited}
use Rattle.der_elements.specs.Walked.{HasWalked, IsOpen, counted, counted_in, index_in, innermost_of, offset_of, outermost_of, steps_of, outermost, inside}
use Rattle.der_elements.proofs.Between.{between_more, between_none, front_of_between, length-between}
use Rattle.der_elements.proofs.Counts.{counted_deeper, counted_first, counted_less, counted_more, counted_same}
use Rattle.der_elements.proofs.Ends.{limit_least, limit_size, within_around, within_later}
use Rattle.der_elements.proofs.NoFaults.{between_rest, end_for_same, end_same, no_fault, visited_one}
use Rattle.der_elements.proofs.Opening.{header_no_marker, header_some}
use Rattle.der_elements.proofs.Steps.{open_depth}
use Rattle.der_elements.proofs.VisitedElements.{back_all, front_all, no_depth, visits_within}

-- what is visited inside fewer than d elements is so to that depth

abbrev pub Lowers : Extras → ℕ → Type 0
Lowers x d = (r : Rules) (n k a : ℕ) (b : List ℕ) (us : List Visited) → n + k ≡ 101 → All (IsShallow d) us → VisitsOne x r n k a b us → (m : ℕ) × (m + k ≡ d) × VisitsOne x r m k a b us

pub lowers_none : (x : Extras) → Lowers x 101
lowers_none x r n k a b us e h one = (n, e, one)

inner_all : (d : ℕ) (vs us : List Visited) (v : Visited) → vs ≡ v ∷ us → All (IsShallow d) vs → All (IsShallow d) us
inner_all d vs us v e h = All-tail (IsShallow d) v us (subst (All (IsShallow d)) e h)

mutual
  low_all : {r : Rules} {n k a : ℕ} {i : List ℕ} {vs : List Visited} (m d : ℕ) → m + k ≡ d → All (IsShallow d) vs → Visits no_extras r n k a i vs → Visits no_extras r m k a i vs
  low_all m d e h none = none
  low_all {vs = vs} m d e h (one_more b rest us ws ei ev one more) = one_more b rest us ws ei ev (low_one m d e (front_all (IsShallow d) us ws vs ev h) one) (low_all m d e (back_all (IsShallow d) us ws vs ev h) more)

  low_one : {r : Rules} {n k a : ℕ} {b : List ℕ} {vs : List Visited} (m d : ℕ) → m + k ≡ d → All (IsShallow d) vs → VisitsOne no_extras r n k a b vs → VisitsOne no_extras r m k a b vs
  low_one {k = k} {vs = vs} zero d e h one = no_depth (subst (λ q. All (IsShallow q) vs) (let z : d ≡ k + 0 = omega (arith, e) in z) h) one
  low_one (suc m) d e h (primitive c t o w is eb has out ev) = primitive c t o w is eb has (λ q. absurd (cc)) ev
  low_one (suc m) d e h (broken t o w is eb keeps er it never ev) = absurd (cc)
  low_one (suc m) d e h (string q t o w u v us is eb has en holds only vis ev) = absurd (cc)
  low_one {vs = vs} (suc m) d e h (constructed c t o w us is eb may vis ev) = constructed c t o w us is eb may (low_all m d (omega (arith, e)) (inner_all d vs us _ ev h) vis) ev
  low_one {vs = vs} (suc m) d e h (indefinite c t o w us is eb may vis ev) = indefinite c t o w us is eb may (low_all m d (omega (arith, e)) (inner_all d vs us _ ev h) vis) ev

head_shallow : (d : ℕ) (vs us : List Visited) (v : Visited) → vs ≡ v ∷ us → All (IsShallow d) vs → v.depth < d
head_shallow d vs us v e h = All-head (IsShallow d) v us (subst (All (IsShallow d)) e h)

one_shallow : {x : Extras} {r : Rules} {n k a : ℕ} {b : List ℕ} {vs : List Visited} (d : ℕ) → All (IsShallow d) vs → VisitsOne x r n k a b vs → k < d
one_shallow {vs = vs} d h (primitive c t o w is eb has out ev) = head_shallow d vs [] _ ev h
one_shallow {vs = vs} d h (broken t o w is eb keeps er it never ev) = head_shallow d vs [] _ ev h
one_shallow {vs = vs} d h (string q t o w u v us is eb has en holds only vis ev) = head_shallow d vs us _ ev h
one_shallow {vs = vs} d h (constructed c t o w us is eb may vis ev) = head_shallow d vs us _ ev h
one_shallow {vs = vs} d h (indefinite c t o w us is eb may vis ev) = head_shallow d vs us _ ev h

pub lowers : (d : ℕ) → Lowers no_extras d
lowers d r n k a b us e h one =
    let deep = one_shallow d h one in
    let m : d - k + k ≡ d = omega (arith, deep) in
    (d - k, m, low_one (d - k) d m h one)

-- what was visited is inside 101 elements at most
pub all_shallow : {x : Extras} {r : Rules} {i : List ℕ} {n : ℕ} {opens : List Open} {s : Rules} {e : Option ℕ} {m : Bool} {at : ℕ} {vs : List Visited} → HasWalked x r i n opens s e m at vs → All (IsShallow 101) vs
all_shallow {i = i} {n = n} {at = at} {vs = vs} (outermost ed eo es he hm ha v) =
    All-weaker (LiesWithin 0 (0 + length (between i 0 at)) 0 n) (IsShallow 101) (λ u p. omega (arith, p.4, ed)) vs (visits_within v)
all_shallow {i = i} {n = n} {at = at} {vs = vs} (inside outer o st fst before us v eo w is he hf ha hl vis ev el em ef es) =
    let deep = open_depth w in
    let own : v.depth < 101 = omega (arith, deep, is.header.depth) in
    let P = LiesWithin fst (fst + length (between i fst at)) (suc (length outer)) n in
    All-same (IsShallow 101) vs (before ++ v ∷ us) ev
    (All-append (IsShallow 101) before (v ∷ us) (all_shallow w) (All-cons (IsShallow 101) v us own (All-weaker P (IsShallow 101) (λ u p. omega (arith, p.4, deep)) us (visits_within vis))))

-- one element counts as one

deeper : {x : Extras} {r : Rules} {n k a : ℕ} {i : List ℕ} {us : List Visited} → Visits x r n (suc k) a i us → All (λ v. k < v.depth) us
deeper {n = n} {k = k} {a = a} {i = i} {us = us} vis = All-weaker (LiesWithin a (a + length i) (suc k) n) (λ v. k < v.depth) (λ u p. (let z = p.3 in omega (arith, z))) us (visits_within vis)

counted_with : (k j : ℕ) (vs us : List Visited) (v : Visited) → vs ≡ v ∷ us → v.depth ≡ k → All (λ v. k < v.depth) us → counted_in k j vs ≡ suc j
counted_with k j vs us v e d h = ap (λ l. counted_in k j l) e ∙ counted_first k j v us ∙ counted_deeper k (counted k j v) us h ∙ counted_same k j v d

counted_one : {x : Extras} {r : Rules} {n k a : ℕ} {b : List ℕ} {vs : List Visited} (j : ℕ) → VisitsOne x r n k a b vs → counted_in k j vs ≡ suc j
counted_one {k = k} {vs = vs} j (primitive c t o w is eb has out ev) = counted_with k j vs [] _ ev refl (All-nil (λ v. k < v.depth))
counted_one {k = k} {vs = vs} j (broken t o w is eb keeps er it never ev) = counted_with k j vs [] _ ev refl (All-nil (λ v. k < v.depth))
counted_one {k = k} {vs = vs} j (string q t o w u v us is eb has en holds only vis ev) = counted_with k j vs us _ ev refl (deeper vis)
counted_one {k = k} {vs = vs} j (constructed c t o w us is eb may vis ev) = counted_with k j vs us _ ev refl (deeper vis)
counted_one {k = k} {vs = vs} j (indefinite c t o w us is eb may vis ev) = counted_with k j vs us _ ev refl (deeper vis)

counted_nothing : (k j : ℕ) → counted_in k j [] ≡ j
unfolding counted_in
counted_nothing k j = refl

-- behind elements

behind_all : {x : Extras} {n : ℕ} {w : List ℕ} {us vs : List Visited} {steps : List Step} {f : ElementError} (d : ℕ) → Lowers x d → (p : Position) (z : List ℕ) (at j : ℕ) → n + p.depth ≡ 101 → octets_at p ≡ w ++ z → at ≡ p.at + length w
    → j ≡ counted_in p.depth p.index us → All (IsShallow d) us → Visits x p.rules n p.depth p.at w us → Faults x d (record p { at = at; index = j }) vs steps f → Faults x d p (us ++ vs) steps f
behind_all {x} {n} {w} {us} {vs} {steps} {f} d low p z at j en e ea ej h none g =
    let a : at ≡ p.at = omega (arith, ea) in
    let q : j ≡ p.index = ej ∙ counted_nothing p.depth p.index in
    subst (λ l. Faults x d (record p { at = p.at; index = l }) vs steps f) q (subst (λ l. Faults x d (record p { at = l; index = j }) vs steps f) a g)
behind_all {x} {n} {w} {us} {vs} {steps} {f} d low p z at j en e ea ej h (one_more b rest us1 ws ei ev one more) g =
    let split : octets_at p ≡ b ++ (rest ++ z) = e ∙ ap (λ l. l ++ z) ei ∙ append_assoc b rest z in
    let lower = low p.rules n p.depth p.at b us1 en (front_all (IsShallow d) us1 ws us ev h) one in
    let a : at ≡ p.at + length b + length rest = omega (arith, ea, ap length ei, length-append b rest) in
    let q : j ≡ counted_in p.depth (suc p.index) ws = ej ∙ ap (λ l. counted_in p.depth p.index l) ev ∙ counted_more p.depth p.index us1 ws ∙ ap (λ c. counted_in p.depth c ws) (counted_one p.index one) in
    let others = behind_all d low (behind p (length b)) z at j en (between_rest p.input p.at (limit_of (length p.input) (end_at p)) b (rest ++ z) split) a q (back_all (IsShallow d) us1 ws us ev h) more g in
    later lower.0 b (rest ++ z) us1 (ws ++ vs) lower.1 split lower.2 others (ap (λ l. l ++ vs) ev ∙ append_assoc us1 ws vs)

-- the elements that are open

last_get : (outer : List Open) (o : Open) → slice_get (outer ++ o ∷ []) (length outer) ≡ Some o
last_get [] o = refl
last_get (a ∷ outer) o = last_get outer o

innermost_last : (outer opens : List Open) (o : Open) → opens ≡ outer ++ o ∷ [] → innermost_of opens ≡ o.offset
innermost_last outer opens o e =
    let n : length opens - 1 ≡ length outer = omega (arith, ap length e, length-append outer (o ∷ [])) in
    ap offset_of (ap (λ q. slice_get opens q) n ∙ ap (λ l. slice_get l (length outer)) e ∙ last_get outer o)

outermost_last : (outer : List Open) (o : Open) (e : End) → outermost_of (outer ++ o ∷ []) e ≡ (if length outer == 0 then e else outermost_of outer o.around.end)
outermost_last [] o e = refl
outermost_last (a ∷ []) o e = refl
outermost_last (a ∷ b ∷ outer) o e = ap (λ q. if q then e else outermost_of (a ∷ b ∷ outer) o.around.end) (sym (ne_eqb (length (a ∷ b ∷ outer)) 0 (λ q. omega (arith, q))))

steps_last : (outer : List Open) (o : Open) (steps : List Step) → steps_of (outer ++ o ∷ []) ++ steps ≡ steps_of outer ++ o.step ∷ steps
steps_last [] o steps = refl
steps_last (a ∷ outer) o steps = ap (λ l. a.step ∷ l) (steps_last outer o steps)

-- where a walk stands
abbrev pub stand : List ℕ → ℕ → Rules → End → Bool → ℕ → List Open → Position
stand i at s e m j opens = record {
  input = i;
  at = at;
  rules = s;
  end = e;
  has_marker = m;
  index = j;
  depth = length opens;
  innermost = innermost_of opens;
  outermost = outermost_of opens e;
}

-- the content of an element that is open
module _ (x : Extras) (i : List ℕ) (n : ℕ) (opens outer : List Open) (o : Open) (s : Rules) (end : End) (e : Option ℕ) (m : Bool) (st fst at : ℕ) (v : Visited) (eo : opens ≡ outer ++ o ∷ []) (is : IsOpen x i o.around.rules n (length outer) st fst s e m v)
    (he : EndsWithin e (end_in (length i) o.around.end)) (hf : fst ≤ at) (ha : IsWithin at e) (hl : at ≤ length i) (el : e ≡ end_from (v.offset + v.header) (end_in (length i) o.around.end) v.length) (em : m ≡ ends_at_marker v.length) (ef : o.offset ≡ st)
    (ee : end_in (length i) end ≡ e) (ending : IsEndOf (length i) end) (around : IsEndOf (length i) o.around.end) (j : ℕ)
  where
    abbrev q : Position
    q = stand i st o.around.rules o.around.end o.around.has_marker j outer

    abbrev h : List ℕ
    h = is.header.octets

    abbrev content : Position
    content = record (stand i at s end m 0 opens) { at = fst }

    deep : length opens ≡ suc (length outer)
    deep = omega (arith, ap length eo, length-append outer (o ∷ []))

    begins : v.offset + v.header ≡ st + length h
    begins = omega (arith, is.header.offset, is.header.header)

    ends_so : (l : Option ℕ) → v.length ≡ l → end_behind q (st + length h) l ≡ end
    ends_so (Some k) q1 =
        sym (end_for_same end (length i) (st + length h + k) (ee ∙ el ∙ ap (λ l. end_from (v.offset + v.header) (end_in (length i) o.around.end) l) q1 ∙ ap (λ p. Some (p + k)) begins) ending)
    ends_so None q1 = end_same o.around.end end (length i) (sym (ee ∙ el ∙ ap (λ l. end_from (v.offset + v.header) (end_in (length i) o.around.end) l) q1)) around ending

    pub same_content : s ≡ o.around.rules → fst ≡ st + v.header → content_of q (length h) v.length ≡ content
    same_content es ep =
        let a : st + length h ≡ fst = omega (arith, ep, is.header.header) in
        let e1 : end_behind q (st + length h) v.length ≡ end = ends_so v.length refl in
        let e2 : st ≡ innermost_of opens = sym (innermost_last outer opens o eo ∙ ef) in
        let e3 : outermost_of opens end ≡ (if length outer == 0 then end else outermost_of outer o.around.end) = ap (λ l. outermost_of l end) eo ∙ outermost_last outer o end in
        let e4 : (if length outer == 0 then end_behind q (st + length h) v.length else outermost_of outer o.around.end) ≡ outermost_of opens end = ap (λ z. if length outer == 0 then z else outermost_of outer o.around.end) e1 ∙ sym e3 in
        let e5 : suc (length outer) ≡ length opens = sym deep in
        let e6 : ends_at_marker v.length ≡ m = sym em in
        let e7 : o.around.rules ≡ s = sym es in
        cc

    abbrev limit : ℕ
    limit = limit_of (length i) (end_in (length i) o.around.end)

    short : limit ≤ length i
    short = limit_size (length i) (end_in (length i) o.around.end)

    room : (l : Option ℕ) → v.length ≡ l → IfSome l (λ k. IsWithin (st + length h + k) (end_in (length i) o.around.end))
    room (Some k) q1 =
        let last : e ≡ Some (st + length h + k) = el ∙ ap (λ l. end_from (v.offset + v.header) (end_in (length i) o.around.end) l) q1 ∙ ap (λ p. Some (p + k)) begins in
        let own : st + length h + k ≤ st + length h + k = omega arith in
        within_around (st + length h + k) e (end_in (length i) o.around.end) (subst (λ z. IsWithin (st + length h + k) z) (sym last) own) he
    room None q1 = tt

    visited_so : v.constructed ≡ true → v ≡ visited st (length outer) v.class true v.number h v.length
    visited_so ep =
        let e1 = is.header.offset in
        let e2 = is.header.header in
        let e3 = is.header.depth in
        let e4 : v.holds ≡ None = holds_none v.holds (is.header.holds ∙ ap (λ b. not b) ep) in
        let e5 = is.header.whole in
        let z : record { offset = v.offset; header = v.header; length = v.length; class = v.class; constructed = v.constructed; number = v.number; depth = v.depth; holds = v.holds; breaks_its_type = v.breaks_its_type } ≡ visited st (length outer) v.class true v.number h v.length = cc in
        z
      where
        holds_none : (l : Option Rules) → is_some l ≡ not true → l ≡ None
        holds_none None q1 = refl
        holds_none (Some k) q1 = absurd (cc)

    -- a list
    pub in_list : (d : ℕ) {us : List Visited} {steps : List Step} {f : ElementError} → v.constructed ≡ true → length outer < d → IsStep o.step v.class v.number j → Faults x d content us steps f → Faults x d q (v ∷ us) (o.step ∷ steps) f
    in_list d {us} {steps} {f} ep shallow step g =
        let l = is.list ep in
        let there : st + length h ≤ limit = limit_least (st + length h) (length i) (end_in (length i) o.around.end) (omega (arith, l.2, is.header.header, hf, hl))
        (within_around (st + length h) e (end_in (length i) o.around.end) (within_later at (st + length h) e (omega (arith, l.2, is.header.header, hf)) ha) he) in
        let split = front_of_between i st limit h is.header.rest is.header.split there short in
        let is1 : IsHeaderBy o.around.rules v.class true v.number v.length h = subst (λ b. IsHeaderBy o.around.rules v.class b v.number v.length h) ep is.header.is in
        let some = header_some o.around.rules v.class true v.number v.length h is1 in
        let stays : IsOver q → ⊥ = (λ over. not_over some is1 split.0 split.1 over) in
        first stays (inner v.class v.number v.length h split.0 o.step us steps is1 split.1 (room v.length refl) shallow l.0 (subst (λ p. Faults x d p us steps f) (sym (same_content l.1 l.2)) g) step (ap (λ u. u ∷ us) (visited_so ep)) refl)
      where
        not_over : 0 < length h → IsHeaderBy o.around.rules v.class true v.number v.length h → (z : List ℕ) → octets_at q ≡ h ++ z → IsOver q → ⊥
        not_over some is1 z split (inl (a, b, e0)) = absurd (omega (arith, some, ap length (sym split ∙ e0), length-append h z))
        not_over some is1 z split (inr (a, y, e0)) = header_no_marker o.around.rules v.class true v.number v.length h z y is1 (λ t. absurd (cc)) (sym split ∙ e0)

    -- a string has no fault
    pub in_string : {us : List Visited} {steps : List Step} {f : ElementError} → v.constructed ≡ false → n + suc (length outer) ≡ 101 → Faults x 101 content us steps f → ⊥
    in_string {us} {steps} {f} ep en g =
        let (enters, last, e1, m1, h1, one) = is.string ep in
        let ending_so : end ≡ At last = at_last end last (ee ∙ e1) ending h1 in
        let octets = between i fst last in
        let limit_so : limit_of (length i) (end_in (length i) end) ≡ last = ap (λ z. limit_of (length i) (end_in (length i) z)) ending_so ∙ (let y : limit_of (length i) (end_in (length i) (At last)) ≡ last = omega (arith, h1) in y) in
        let all : octets_at content ≡ octets ++ [] = ap (λ k. between i fst k) limit_so ∙ sym (append-nil octets) in
        let to : fst + length octets ≡ last = (let w1 : at ≤ last = subst (λ z. IsWithin at z) e1 ha in omega (arith, length-between i fst last h1, w1, hf)) in
        let over : IsOver (record content { at = fst + length octets }) = inl (m1, ap octets_after ending_so, ap (λ k. between i (fst + length octets) k) limit_so ∙ ap (λ k. between i k last) to ∙ between_none i last) in
        visited_one x n s octets (suc (length outer)) fst one
        (λ ws vis. no_fault 101 content [] (omega (arith, en, deep)) all over
        (subst (λ k. Visits x s n k fst octets ws) (sym deep) (one_more octets [] ws [] (sym (append-nil octets)) (sym (append-nil ws)) vis none)) g)
      where
        at_last : (z : End) (k : ℕ) → end_in (length i) z ≡ Some k → IsEndOf (length i) z → k ≤ length i → z ≡ At k
        at_last z k q1 q2 q3 = end_same z (At k) (length i) q1 q2 q3

pub leads : {x : Extras} {r : Rules} {i : List ℕ} {n : ℕ} {opens : List Open} {s : Rules} {e : Option ℕ} {m : Bool} {at : ℕ} {vs us : List Visited} {steps : List Step} {f : ElementError} (d : ℕ) → Lowers x d → (x.enters_strings ≡ true → d ≡ 101) → (end : End) (j : ℕ)
    → HasWalked x r i n opens s e m at vs → All (IsShallow d) vs → ((outer inner : List Open) (o : Open) → opens ≡ outer ++ o ∷ inner → IsEndOf (length i) o.around.end) → end_in (length i) end ≡ e → IsEndOf (length i) end → j ≡ index_in (length opens) vs
    → Faults x d (stand i at s end m j opens) us steps f → Faults x d (start r i) (vs ++ us) (steps_of opens ++ steps) f
leads {x} {r} {i} {n} {opens} {s} {e} {m} {at} {vs} {us} {steps} {f} d low full end j (outermost ed eo es he hm ha v) h arounds ee ending ej g =
    let unlimited : end ≡ Unlimited = end_same end Unlimited (length i) (ee ∙ he) ending tt in
    let g1 = subst (λ l. Faults x d (stand i at s end m j l) us steps f) eo g in
    let g2 = subst (λ q. Faults x d (stand i at q end m j []) us steps f) es g1 in
    let g3 = subst (λ q. Faults x d (stand i at r q m j []) us steps f) unlimited g2 in
    let g4 : Faults x d (record (start r i) { at = at; index = j }) us steps f = subst (λ q. Faults x d (stand i at r Unlimited q j []) us steps f) hm g3 in
    let split : between i 0 (length i) ≡ between i 0 at ++ between i at (length i) = sym (between_more i 0 at (length i) (omega arith) ha) in
    let place : at ≡ 0 + length (between i 0 at) = omega (arith, length-between i 0 at ha) in
    let counts : j ≡ counted_in 0 0 vs = ej ∙ ap (λ l. index_in (length l) vs) eo in
    let all = behind_all d low (start r i) (between i at (length i)) at j (omega (arith, ed)) split place counts h v g4 in
    subst (λ l. Faults x d (start r i) (vs ++ us) (steps_of l ++ steps) f) (sym eo) all
leads {x} {r} {i} {n} {opens} {s} {e} {m} {at} {vs} {us} {steps} {f} d low full end j (inside outer o st fst before ws v eo w is he hf ha hl vis ev el em ef es) h arounds ee ending ej g =
    of v.constructed refl
    (λ one. leads d low full o.around.end (index_in (length outer) before) w (front_all (IsShallow d) before (v ∷ ws) vs ev h) (λ a b p q. arounds a (b ++ o ∷ []) p (eo ∙ ap (λ l. l ++ o ∷ []) q ∙ append_assoc a (p ∷ b) (o ∷ []))) refl (arounds outer [] o eo) refl one)
  where
    around : IsEndOf (length i) o.around.end
    around = arounds outer [] o eo

    deeply : length opens ≡ suc (length outer)
    deeply = omega (arith, ap length eo, length-append outer (o ∷ []))

    content : Position
    content = record (stand i at s end m 0 opens) { at = fst }

    limit : ℕ
    limit = limit_of (length i) (end_in (length i) end)

    there : at ≤ limit
    there = limit_least at (length i) (end_in (length i) end) hl (subst (λ z. IsWithin at z) (sym ee) ha)

    tail : All (IsShallow d) (v ∷ ws)
    tail = back_all (IsShallow d) before (v ∷ ws) vs ev h

    counts : j ≡ counted_in (length opens) 0 ws
    counts =
        let less : v.depth < length opens = omega (arith, deeply, is.header.depth) in
        ej ∙ ap (λ l. index_in (length opens) l) ev ∙ counted_more (length opens) 0 before (v ∷ ws) ∙ counted_first (length opens) (counted_in (length opens) 0 before) v ws
        ∙ ap (λ c. counted_in (length opens) c ws) (counted_less (length opens) (counted_in (length opens) 0 before) v less)

    depth_so : n + length opens ≡ 101
    depth_so = omega (arith, deeply, open_depth w)

    -- the fault is in the content
    inside_it : Faults x d content (ws ++ us) steps f
    inside_it =
        behind_all d low content (between i at limit) at j depth_so (sym (between_more i fst at limit hf there)) (omega (arith, length-between i fst at hl, hf)) counts (All-tail (IsShallow d) v ws tail)
        (subst (λ k. Visits x s n k fst (between i fst at) ws) (sym deeply) vis) g

    whole : before ++ (v ∷ (ws ++ us)) ≡ vs ++ us
    whole = sym (append_assoc before (v ∷ ws) us) ∙ ap (λ l. l ++ us) (sym ev)

    outside : Position
    outside = stand i st o.around.rules o.around.end o.around.has_marker (index_in (length outer) before) outer

    of : (b : Bool) → v.constructed ≡ b → (Faults x d outside (v ∷ (ws ++ us)) (o.step ∷ steps) f → Faults x d (start r i) (before ++ (v ∷ (ws ++ us))) (steps_of outer ++ o.step ∷ steps) f)
        → Faults x d (start r i) (vs ++ us) (steps_of opens ++ steps) f
    of true ep more =
        let k = index_in (length outer) before in
        let shallow : length outer < d = (let z : v.depth < d = All-head (IsShallow d) v ws tail in omega (arith, z, is.header.depth)) in
        let one = in_list x i n opens outer o s end e m st fst at v eo is he hf ha hl el em ef ee ending around k d ep shallow es inside_it in
        let steps_so : steps_of outer ++ o.step ∷ steps ≡ steps_of opens ++ steps = sym (steps_last outer o steps) ∙ ap (λ l. steps_of l ++ steps) (sym eo) in
        subst (λ l. Faults x d (start r i) (vs ++ us) l f) steps_so (subst (λ l. Faults x d (start r i) l (steps_of outer ++ o.step ∷ steps) f) whole (more one))
    of false ep more =
        let full_so : d ≡ 101 = full (is.string ep).0 in
        absurd (in_string x i n opens outer o s end e m st fst at v eo is he hf ha hl el em ef ee ending around 0 ep (omega (arith, open_depth w)) (subst (λ q. Faults x q content (ws ++ us) steps f) full_so inside_it))
