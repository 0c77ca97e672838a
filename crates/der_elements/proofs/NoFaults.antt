-- Elements have no fault.
use Rattle.std.proofs.Common.{◌≡◌, ℕ, zero, suc, ◌+◌, ◌-◌, ◌<◌, ◌≤◌, if◌then◌else◌, true, false, List, [], ◌∷◌, ◌++◌, length, take, drop, Some, None, refl, sym, ap, subst, ◌∙◌, arith, append_assoc, length-append, inl, inr}
use Rattle.std.proofs.lemmas.Bool.{lt-ltb, le-ltb}
use Rattle.std.proofs.lemmas.List.{append-nil, drop-drop, drop-take, length-take}
use Rattle.std.proofs.Math.Seq.{drop-append_seam}
use Rattle.der_base.specs.declared.header.Class.TheVariants.{Universal}
use Rattle.der_base.specs.declared.rules.Rules.{Rules}
use Rattle.der_base.specs.declared.rules.Rules.TheVariants.{Ber, Der}
use Rattle.der_base.specs.Octets.{identifier}
use Rattle.der_base.specs.Spelling.{end_marker}
use Rattle.der_elements.specs.Check.Elements.{AreElements, IsElement}
use Rattle.der_elements.specs.Check.Elements.{none as no_elements, one_more as one_element, primitive as primitive_element, constructed as constructed_element, indefinite as indefinite_element}
use Rattle.der_contents.specs.ContentRules.{IsContent}
use Rattle.der_elements.specs.declared.content.End.{End}
use Rattle.der_elements.specs.declared.content.End.TheVariants.{At, After, Unlimited}
use Rattle.der_elements.specs.declared.path.Step.{Step}
use Rattle.der_elements.specs.declared.error.ElementError.{ElementError}
use Rattle.der_elements.specs.Ends.{between, end_in, limit_of, octets_after, IsEndOf}
use Rattle.der_elements.specs.Faults.{Position, end_at, octets_at}
use Rattle.der_elements.specs.FirstFault.{Faults, FaultsOne, IsOver, behind, end_for, first, here, inner, inside, later, start}
use Rattle.der_elements.specs.Visits.{Visited, Extras, IsHeaderBy, HoldsElement, IsFirstOf, Visits, VisitsOne, none, one_more, primitive, broken, string, constructed, indefinite}
use Rattle.der_elements.proofs.Between.{between_all, between_none, length-between, middle_between}
use Rattle.der_elements.proofs.Ends.{limit_size}
use Rattle.der_elements.proofs.FaultsHere.{none_at_fault}
use Rattle.der_elements.proofs.OneVisit.{not_both, one_no_marker, one_nonempty, one_same, same_start}
use Rattle.der_elements.proofs.Opening.{header_some}
use Rattle.der_elements.proofs.VisitedElements.{joined}

-- ends

pub end_for_same : (e : End) (size n : ℕ) → end_in size e ≡ Some n → IsEndOf size e → e ≡ end_for size n
end_for_same (At m) size n q h =
    let z : m ≡ n = (cc) in
    ap At z ∙ ap (λ b. if b then After (n - size) else At n) (sym (le-ltb size n (omega (arith, z, h))))
end_for_same (After m) size n q h =
    let z : size + m ≡ n = (cc) in
    let k : m ≡ n - size = omega (arith, z) in
    ap After k ∙ ap (λ b. if b then After (n - size) else At n) (sym (lt-ltb size n (omega (arith, z, h))))
end_for_same Unlimited size n q h = absurd (cc)

pub end_same : (e e' : End) (size : ℕ) → end_in size e ≡ end_in size e' → IsEndOf size e → IsEndOf size e' → e ≡ e'
end_same (At m) e' size q h h' = end_for_same (At m) size m refl h ∙ sym (end_for_same e' size m (sym q) h')
end_same (After m) e' size q h h' = end_for_same (After m) size (size + m) refl h ∙ sym (end_for_same e' size (size + m) (sym q) h')
end_same Unlimited (At m) size q h h' = absurd (cc)
end_same Unlimited (After m) size q h h' = absurd (cc)
end_same Unlimited Unlimited size q h h' = refl

-- what follows in octets between two offsets
pub between_rest : (i : List ℕ) (a n : ℕ) (b rest : List ℕ) → between i a n ≡ b ++ rest → between i (a + length b) n ≡ rest
between_rest i a n b rest e =
    let m = a + length b in
    let k = n - m in
    let le : length b ≤ n - a = omega (arith, ap length e, length-append b rest, length-take (n - a) (drop a i)) in
    let size : n - a ≡ length b + k = omega (arith, le) in
    ap (λ l. take k l) (sym (drop-drop (length b) a i)) ∙ sym (drop-take (length b) k (drop a i)) ∙ ap (λ q. drop (length b) (take q (drop a i))) (sym size) ∙ ap (λ l. drop (length b) l) e ∙ drop-append_seam b rest

-- no element begins where a content ends
not_over : {x : Extras} {r : Rules} {n k a : ℕ} {b : List ℕ} {us : List Visited} (p : Position) (rest : List ℕ) → octets_at p ≡ b ++ rest → VisitsOne x r n k a b us → IsOver p → ⊥
not_over p rest e one (inl (m, o, q)) = one_nonempty rest one (sym q ∙ e)
not_over p rest e one (inr (m, z, q)) = one_no_marker rest (0 ∷ z) one (sym q ∙ e)

over_at : (p : Position) (a a' : ℕ) → a ≡ a' → IsOver (record p { at = a }) → IsOver (record p { at = a' })
over_at p a a' e h = subst (λ q. IsOver (record p { at = q })) e h

-- the content of a definite length, which is in the input
definite_inside : (p : Position) (h w z : List ℕ) → 0 < length h → octets_at p ≡ h ++ (w ++ z)
    → (octets_at (inside p (length h) (Some (length w))) ≡ w) × IsOver (record (inside p (length h) (Some (length w))) { at = p.at + length h + length w })
definite_inside p h w z some e = (octets, inl (refl, ap octets_after is, ap (λ q. between i last (limit_of size (end_in size q))) is ∙ ap (λ n. between i last n) limit ∙ between_none i last))
  where
    i : List ℕ
    i = p.input

    size : ℕ
    size = length i

    around : ℕ
    around = limit_of size (end_at p)

    last : ℕ
    last = p.at + length h + length w

    fits : last ≤ size
    fits = omega (arith, ap length e, length-append h (w ++ z), length-append w z, length-between i p.at around (limit_size size (end_at p)), limit_size size (end_at p), some)

    is : end_for size last ≡ At last
    is = ap (λ b. if b then After (last - size) else At last) (le-ltb size last fits)

    limit : limit_of size (end_in size (At last)) ≡ last
    limit = omega (arith, fits)

    octets : octets_at (inside p (length h) (Some (length w))) ≡ w
    octets = ap (λ q. between i (p.at + length h) (limit_of size (end_in size q))) is ∙ ap (λ n. between i (p.at + length h) n) limit ∙ middle_between i p.at around h w z e

mutual
  pub no_fault : {x : Extras} {n : ℕ} {w : List ℕ} {us vs : List Visited} {steps : List Step} {f : ElementError} (d : ℕ) (p : Position) (z : List ℕ) → n + p.depth ≡ d → octets_at p ≡ w ++ z → IsOver (record p { at = p.at + length w })
      → Visits x p.rules n p.depth p.at w us → Faults x d p vs steps f → ⊥
  no_fault d p z en e over none (first stays one) = stays (over_at p (p.at + 0) p.at (omega arith) over)
  no_fault d p z en e over none (later n b rest us ws ed eb one more ev) = not_over p rest eb one (over_at p (p.at + 0) p.at (omega arith) over)
  no_fault d p z en e over (one_more b rest us ws ei ev one more) (first stays g) = no_fault_one d p (rest ++ z) en (e ∙ ap (λ l. l ++ z) ei ∙ append_assoc b rest z) one g
  no_fault {x} {n} {w} {us} {vs} {steps} {f} d p z en e over (one_more b rest us1 ws ei ev one more) (later n' b' rest' us' ws' ed eb one' more' ev') =
      let split : octets_at p ≡ b ++ (rest ++ z) = e ∙ ap (λ l. l ++ z) ei ∙ append_assoc b rest z in
      let same : n' ≡ n = omega (arith, en, ed) in
      let o = one_same (rest ++ z) rest' one (subst (λ q. VisitsOne x p.rules q p.depth p.at b' us') same one') (sym split ∙ eb) in
      let size : length b' ≡ length b = sym (ap length o.0) in
      let last : p.at + length w ≡ p.at + length b + length rest = omega (arith, ap length ei, length-append b rest) in
      no_fault d (behind p (length b)) z en (between_rest p.input p.at (limit_of (length p.input) (end_at p)) b (rest ++ z) split) (over_at p (p.at + length w) (p.at + length b + length rest) last over) more
      (subst (λ q. Faults x d (behind p q) ws' steps f) size more')

  pub no_fault_one : {x : Extras} {n : ℕ} {b : List ℕ} {us vs : List Visited} {steps : List Step} {f : ElementError} (d : ℕ) (p : Position) (z : List ℕ) → n + p.depth ≡ d → octets_at p ≡ b ++ z → VisitsOne x p.rules n p.depth p.at b us
      → FaultsOne x d p vs steps f → ⊥
  no_fault_one {x} d p z en e one (here fault eo es ev ep) = none_at_fault x d p (octets_at p) z en e one fault
  no_fault_one {b = b} d p z en e (primitive c t h w is eb has out ev) (inner c' t' n' h' rest' s us more is' e' room deep may g st ev' es) =
      not_both p.rules c c' t t' (Some (length w)) n' b h' h h' w [] z rest' is is' eb (sym (append-nil h')) (sym e ∙ e')
  no_fault_one {b = b} d p z en e (broken t h w is eb keeps er it never ev) (inner c' t' n' h' rest' s us more is' e' room deep may g st ev' es) =
      not_both p.rules Universal c' t t' (Some (length w)) n' b h' h h' w [] z rest' is is' eb (sym (append-nil h')) (sym e ∙ e')
  no_fault_one {b = b} d p z en e (string m t h w u v us1 is eb has enters holds only vis ev) (inner c' t' n' h' rest' s us more is' e' room deep may g st ev' es) =
      not_both p.rules Universal c' t t' (Some (length w)) n' b h' h h' w [] z rest' is is' eb (sym (append-nil h')) (sym e ∙ e')
  no_fault_one {x} {b = b} {steps = steps} {f = f} d p z en e (constructed {d = m} c t h w us1 is eb may vis ev) (inner c' t' n' h' rest' s us more is' e' room deep may' g st ev' es) =
      let split : octets_at p ≡ h ++ (w ++ z) = e ∙ ap (λ l. l ++ z) eb ∙ append_assoc h w z in
      let same = same_start p.rules c c' true true t t' (Some (length w)) n' h h' (w ++ z) rest' is is' (sym split ∙ e') in
      let there = definite_inside p h w z (header_some p.rules c true t (Some (length w)) h is) split in
      let g1 = subst (λ q. Faults x d (inside p q n') us more f) (sym (ap length same.octets)) g in
      let g2 = subst (λ q. Faults x d (inside p (length h) q) us more f) (sym same.length) g1 in
      no_fault d (inside p (length h) (Some (length w))) [] (omega (arith, en)) (there.0 ∙ sym (append-nil w)) there.1 vis g2
  no_fault_one {x} {b = b} {steps = steps} {f = f} d p z en e (indefinite {d = m} c t h w us1 is eb may vis ev) (inner c' t' n' h' rest' s us more is' e' room deep may' g st ev' es) =
      let tail = w ++ (end_marker ++ z) in
      let split : octets_at p ≡ h ++ tail = e ∙ ap (λ l. l ++ z) eb ∙ append_assoc (h ++ w) end_marker z ∙ append_assoc h w (end_marker ++ z) in
      let same = same_start p.rules c c' true true t t' None n' h h' tail rest' is is' (sym split ∙ e') in
      let limit = limit_of (length p.input) (end_at p) in
      let octets : between p.input (p.at + length h) limit ≡ tail = between_rest p.input p.at limit h tail split in
      let g1 = subst (λ q. Faults x d (inside p q n') us more f) (sym (ap length same.octets)) g in
      let g2 = subst (λ q. Faults x d (inside p (length h) q) us more f) (sym same.length) g1 in
      no_fault d (inside p (length h) None) (end_marker ++ z) (omega (arith, en)) octets (inr (refl, z, between_rest p.input (p.at + length h) limit w (end_marker ++ z) octets)) vis g2

-- an input
pub octets_all : (r : Rules) (i : List ℕ) → octets_at (start r i) ≡ i
octets_all r i = between_all i (length i) (omega arith)

pub no_first_fault : {x : Extras} {r : Rules} {n : ℕ} {i : List ℕ} {us vs : List Visited} {steps : List Step} {f : ElementError} (d : ℕ) → n ≡ d → Visits x r n 0 0 i us → Faults x d (start r i) vs steps f → ⊥
no_first_fault {r = r} {i = i} d en all g =
    let last : 0 + length i ≡ length i = omega arith in
    no_fault d (start r i) [] (omega (arith, en)) (octets_all r i ∙ sym (append-nil i)) (inl (refl, refl, ap (λ n. between i n (length i)) last ∙ between_none i (length i))) all g

-- It can't be that an element isn't visited.

abbrev NotNone : Extras → ℕ → Type 0
NotNone x d = (r : Rules) (b : List ℕ) (k a : ℕ) → IsElement r d b → ((us : List Visited) → VisitsOne x r d k a b us → ⊥) → ⊥

pub visited_all : (x : Extras) (r : Rules) (d : ℕ) (i : List ℕ) (k a : ℕ) → NotNone x d → AreElements r d i → ((us : List Visited) → Visits x r d k a i us → ⊥) → ⊥
visited_all x r d i k a some no_elements never = never [] none
visited_all x r d i k a some (one_element b rest e is more) never =
    some r b k a is (λ us one. visited_all x r d rest k (a + length b) some more (λ ws others. never (us ++ ws) (one_more b rest us ws e refl one others)))

-- a string that holds an element is entered
string_entered : (x : Extras) (d : ℕ) (r : Rules) (b : List ℕ) (k a t : ℕ) (h w : List ℕ) → NotNone x d → IsHeaderBy r Universal false t (Some (length w)) h → b ≡ h ++ w → IsContent r t w → ((us : List Visited) → VisitsOne x r (suc d) k a b us → ⊥)
    → x.enters_strings ≡ true → (m : Rules) (u v : List ℕ) → HoldsElement m d t w u v → ⊥
string_entered x d r b k a t h w some is e has never en m u v holds = by m u v holds
  where
    enter : (m : Rules) (u v : List ℕ) → HoldsElement m d t w u v → IsFirstOf m d t w → ⊥
    enter m u v holds only =
        some m v (suc k) (a + length h + length u) holds.element (λ us one. never _ (string m t h w u v us is e has en holds only (one_more v [] us [] (sym (append-nil v)) (sym (append-nil us)) one none) refl))

    by : (m : Rules) (u v : List ℕ) → HoldsElement m d t w u v → ⊥
    by Der u v holds = enter Der u v holds (λ q. absurd (cc))
    by Ber u v holds = enter Ber u v holds (λ q u' v' by_der. enter Der u' v' by_der (λ q. absurd (cc)))

pub visited_one : (x : Extras) (d : ℕ) → NotNone x d
visited_one x zero r b k a one never = elim one [ ]
visited_one x (suc d) r b k a (primitive_element c t s w l len e has) never =
    let h = identifier c false t ++ s in
    never _
    (primitive c t h w (l, s, len, refl) e has
    (λ en ec m u v holds. string_entered x d r b k a t h w (visited_one x d) (subst (λ q. IsHeaderBy r q false t (Some (length w)) h) ec (l, s, len, refl)) e (has ec).1 never en m u v holds)
    refl)
visited_one x (suc d) r b k a (constructed_element c t s w l len e may are) never =
    let h = identifier c true t ++ s in
    visited_all x r d w (suc k) (a + length h) (visited_one x d) are (λ us inside. never _ (constructed c t h w us (l, s, len, refl) e may inside refl))
visited_one x (suc d) r b k a (indefinite_element c t w l er e may are) never =
    let h = identifier c true t ++ 128 ∷ [] in
    visited_all x r d w (suc k) (a + length h) (visited_one x d) are (λ us inside. never _ (indefinite c t h w us (l, er, refl, refl) (e ∙ sym (joined c t w)) may inside refl))

-- octets with a first fault are no elements
pub faults_never : (x : Extras) (r : Rules) (d : ℕ) (i : List ℕ) (vs : List Visited) (steps : List Step) (f : ElementError) → Faults x d (start r i) vs steps f → AreElements r d i → ⊥
faults_never x r d i vs steps f g are = visited_all x r d i 0 0 (visited_one x d) are (λ us all. no_first_fault d refl all g)

-- and those that an element begins have none there
pub faults_never_of : (x : Extras) (r : Rules) (d : ℕ) (i b rest : List ℕ) (vs : List Visited) (steps : List Step) (f : ElementError) → FaultsOne x d (start r i) vs steps f → i ≡ b ++ rest → IsElement r d b → ⊥
faults_never_of x r d i b rest vs steps f g e one = visited_one x d r b 0 0 one (λ us is. no_fault_one d (start r i) rest (omega arith) (octets_all r i ∙ e) is g)
