-- What a walk has visited begins all that it visits, where the input is elements.
use Rattle.std.proofs.Common.{◌≡◌, ◌≢◌, ℕ, zero, suc, ◌+◌, ◌≤◌, ◌⊎◌, Bool, Option, List, [], ◌∷◌, ◌++◌, length, drop, refl, sym, ap, subst, ◌∙◌, arith, append_assoc, length-append, length-drop, inl, inr}
use Rattle.std.proofs.lemmas.List.{append-nil, nil_from_length}
use Rattle.der_base.specs.declared.rules.Rules.{Rules}
use Rattle.der_elements.specs.declared.content.Open.{Open}
use Rattle.der_elements.specs.declared.walk.Walk.{Walk}
use Rattle.der_elements.specs.Ends.{between, end_in, IsWithin}
use Rattle.der_elements.specs.Visits.{Visited, Extras, Visits, VisitsOne, none, one_more}
use Rattle.der_elements.specs.Walked.{EndsAt, HasWalked, HasVisited, outermost, inside}
use Rattle.der_elements.proofs.Between.{between_all, between_front, drop_front}
use Rattle.der_elements.proofs.Ends.{within_later}
use Rattle.der_elements.proofs.OneVisit.{visits_same}
use Rattle.der_elements.proofs.Rest.{Rest, no_limit, rest_of}
use Rattle.der_elements.proofs.Steps.{advance, close, within}

-- after more elements of the content
advance_all : {x : Extras} {r : Rules} {i : List ℕ} {d : ℕ} {opens : List Open} {s : Rules} {e : Option ℕ} {m : Bool} {at : ℕ} {vs : List Visited} (octets others : List ℕ) (us : List Visited) (k : ℕ)
    → k ≡ length opens → HasWalked x r i d opens s e m at vs → drop at i ≡ octets ++ others → Visits x s d k at octets us
    → IsWithin (at + length octets) e → at + length octets ≤ length i → HasWalked x r i d opens s e m (at + length octets) (vs ++ us)
advance_all {x} {r} {i} {d} {opens} {s} {e} {m} {at} {vs} octets others us k ek w split none h1 h2 =
    let n : at ≡ at + 0 = omega arith in
    subst (λ q. HasWalked x r i d opens s e m q (vs ++ [])) n (subst (λ l. HasWalked x r i d opens s e m at l) (sym (append-nil vs)) w)
advance_all {x} {r} {i} {d} {opens} {s} {e} {m} {at} {vs} octets others us k ek w split (one_more b rest us1 ws1 ei ev one more) h1 h2 =
    let len : length octets ≡ length b + length rest = ap length ei ∙ length-append b rest in
    let parts : drop at i ≡ b ++ (rest ++ others) = split ∙ ap (λ l. l ++ others) ei ∙ append_assoc b rest others in
    let here : between i at (at + length b) ≡ b = between_front i at b (rest ++ others) parts in
    let one' : VisitsOne x s d (length opens) at (between i at (at + length b)) us1 =
    subst (λ l. VisitsOne x s d (length opens) at l us1) (sym here) (subst (λ q. VisitsOne x s d q at b us1) ek one) in
    let w1 = advance (at + length b) us1 w one' (omega arith)
    (within_later (at + length octets) (at + length b) e (omega (arith, len)) h1) (omega (arith, len, h2)) in
    let q : at + length octets ≡ at + length b + length rest = omega (arith, len) in
    let w2 = advance_all rest others ws1 k ek w1 (drop_front i at b (rest ++ others) parts) more (subst (λ n. IsWithin n e) q h1) (omega (arith, q, h2)) in
    let w3 = subst (λ n. HasWalked x r i d opens s e m n ((vs ++ us1) ++ ws1)) (sym q) w2 in
    subst (λ l. HasWalked x r i d opens s e m (at + length octets) l) (append_assoc vs us1 ws1 ∙ ap (λ l. vs ++ l) (sym ev)) w3

-- all the elements, of which some were visited
record Completes (x : Extras) (r : Rules) (i : List ℕ) (vs : List Visited) : Type 0 where
  others : List Visited
  visits : Visits x r 101 0 0 i (vs ++ others)

visited_all : {x : Extras} {r : Rules} {i : List ℕ} {d : ℕ} {opens : List Open} {s : Rules} {e : Option ℕ} {m : Bool} {at : ℕ} {vs : List Visited}
    → HasWalked x r i d opens s e m at vs → opens ≡ [] → length i ≤ at → Visits x r 101 0 0 i vs
visited_all {x} {r} {i} {d} {opens} {s} {e} {m} {at} {vs} (outermost ed eo es he hm ha v) q h =
    subst (λ l. Visits x r 101 0 0 l vs) (between_all i at h) (subst (λ n. Visits x r n 0 0 (between i 0 at) vs) ed v)
visited_all (inside outer o start first before us v eo w is he hf ha hl vis ev el em ef es) q h =
    absurd (omega (arith, ap length (sym eo ∙ q), length-append outer (o ∷ [])))

-- the innermost of the elements that are open
last_open : {x : Extras} {r : Rules} {i : List ℕ} {d : ℕ} {opens : List Open} {s : Rules} {e : Option ℕ} {m : Bool} {at : ℕ} {vs : List Visited}
    → HasWalked x r i d opens s e m at vs → opens ≢ [] → (outer : List Open) × (o : Open) × (opens ≡ outer ++ o ∷ [])
last_open (outermost ed eo es he hm ha v) some = absurd (some eo)
last_open (inside outer o start first before us v eo w is he hf ha hl vis ev el em ef es) some = (outer, o, eo)

more : (x : Extras) (r : Rules) (i : List ℕ) (vs us : List Visited) → Completes x r i (vs ++ us) → Completes x r i vs
more x r i vs us c = record {
  others = us ++ c.others;
  visits = subst (λ l. Visits x r 101 0 0 i l) (append_assoc vs us c.others) c.visits;
}

after_octets : (i : List ℕ) (e : Option ℕ) (m : Bool) (n after : ℕ) → EndsAt i e m n after → n ≤ after
after_octets i e m n after (inl (mf, ee, ea)) = omega (arith, ea)
after_octets i e m n after (inr (mt, ea, eb)) = omega (arith, ea)

fits : {x : Extras} {r : Rules} {i : List ℕ} {d : ℕ} {opens : List Open} {s : Rules} {e : Option ℕ} {m : Bool} {at : ℕ} {vs : List Visited}
    → HasWalked x r i d opens s e m at vs → (q : Rest x i s d opens e m at) → at + length q.octets ≤ length i
fits {i = i} {at = at} w q = omega (arith, ap length q.split, length-drop at i, length-append q.octets q.others, (within w).0)

-- the octets that are left end where the content does
ends_within : {x : Extras} {r : Rules} {i : List ℕ} {d : ℕ} {opens : List Open} {s : Rules} {e : Option ℕ} {m : Bool} {at : ℕ} {vs : List Visited}
    → HasWalked x r i d opens s e m at vs → (n : ℕ) (others : List ℕ)
    → ((opens ≡ []) × (others ≡ [])) ⊎ ((opens ≢ []) × (after : ℕ) × EndsAt i e m n after × (after ≤ length i) × IsWithin after e)
    → IsWithin n e
ends_within w n others (inl (eo, et)) = subst (λ f. IsWithin n f) (sym (no_limit w eo)) tt
ends_within {i = i} {e = e} {m = m} w n others (inr (some, after, ends, h1, h2)) = within_later after n e (after_octets i e m n after ends) h2

-- to the end of the content
to_end : {x : Extras} {r : Rules} {i : List ℕ} {d : ℕ} {opens : List Open} {s : Rules} {e : Option ℕ} {m : Bool} {at : ℕ} {vs : List Visited}
    → HasWalked x r i d opens s e m at vs → (q : Rest x i s d opens e m at)
    → HasWalked x r i d opens s e m (at + length q.octets) (vs ++ q.visited)
to_end {at = at} w q =
    advance_all q.octets q.others q.visited _ refl w q.split q.visits (ends_within w (at + length q.octets) q.others q.ends) (fits w q)

-- the content around the innermost element that is open, after that element
record Closed (x : Extras) (r : Rules) (i : List ℕ) (opens : List Open) (vs : List Visited) : Type 0 where
  depth : ℕ
  outer : List Open
  rules : Rules
  end : Option ℕ
  marker : Bool
  at : ℕ
  others : List Visited
  walked : HasWalked x r i depth outer rules end marker at (vs ++ others)
  fewer : length opens ≡ suc (length outer)

close_at : {x : Extras} {r : Rules} {i : List ℕ} {d : ℕ} {opens : List Open} {s : Rules} {e : Option ℕ} {m : Bool} {at : ℕ} {vs : List Visited}
    → HasWalked x r i d opens s e m at vs → (q : Rest x i s d opens e m at) → opens ≢ []
    → ((opens ≡ []) × (q.others ≡ [])) ⊎ ((opens ≢ []) × (after : ℕ) × EndsAt i e m (at + length q.octets) after × (after ≤ length i) × IsWithin after e)
    → Closed x r i opens vs
close_at w q some (inl (eo, et)) = absurd (some eo)
close_at {i = i} {d = d} {opens = opens} {e = e} {m = m} {at = at} w q some (inr (_, after, ends, h1, h2)) =
    let (outer, o, eo) = last_open w some in
    record {
      depth = suc d;
      outer = outer;
      rules = o.around.rules;
      end = end_in (length i) o.around.end;
      marker = o.around.has_marker;
      at = after;
      others = q.visited;
      walked = close outer o after eo (to_end w q) ends h1 h2 (after_octets i e m (at + length q.octets) after ends);
      fewer = omega (arith, ap length eo, length-append outer (o ∷ []));
    }

-- where no element is open, the rest of the input is left
finish : {x : Extras} {r : Rules} {i : List ℕ} {d : ℕ} {opens : List Open} {s : Rules} {e : Option ℕ} {m : Bool} {at : ℕ} {vs : List Visited}
    → HasWalked x r i d opens s e m at vs → (q : Rest x i s d opens e m at) → opens ≡ []
    → ((opens ≡ []) × (q.others ≡ [])) ⊎ ((opens ≢ []) × (after : ℕ) × EndsAt i e m (at + length q.octets) after × (after ≤ length i) × IsWithin after e)
    → Completes x r i vs
finish {i = i} {at = at} w q eo (inl (_, et)) =
    record {
      others = q.visited;
      visits = visited_all (to_end w q) eo (omega (arith, ap length q.split, length-drop at i, length-append q.octets q.others, ap length et));
    }
finish w q eo (inr (some, after, ends, h1, h2)) = absurd (some eo)

completed : (n : ℕ) {x : Extras} {r : Rules} {i : List ℕ} {d : ℕ} {opens : List Open} {s : Rules} {e : Option ℕ} {m : Bool} {at : ℕ} {vs : List Visited}
    → length opens ≡ n → HasWalked x r i d opens s e m at vs → (us : List Visited) → Visits x r 101 0 0 i us → Completes x r i vs
completed zero {opens = opens} size w us all = let q = rest_of w us all in finish w q (nil_from_length opens size) q.ends
completed (suc n) {x = x} {r = r} {i = i} {opens = opens} {vs = vs} size w us all =
    let q = rest_of w us all in
    let c = close_at w q (λ eo. absurd (omega (arith, size, ap length eo))) q.ends in
    more x r i vs c.others (completed n {opens = c.outer} (omega (arith, size, c.fewer)) c.walked us all)

-- what was visited begins all that is visited of the input, if that is elements
pub visited_first : (x : Extras) (r : Rules) (i : List ℕ) (w : Walk) (vs us : List Visited) → HasVisited x r i w vs
    → Visits x r 101 0 0 i us → (ws : List Visited) × (us ≡ vs ++ ws)
visited_first x r i w vs us has all =
    let c = completed (length w.opened.items) refl has.walked us all in
    (c.others, visits_same all c.visits refl)
