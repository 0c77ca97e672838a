-- What is left of a content, where a walk goes to the end of the input.
use Rattle.std.proofs.Common.{◌≡◌, ◌≢◌, ℕ, suc, ◌+◌, ◌≤◌, ◌<◌, ◌⊎◌, Bool, true, Option, None, List, [], ◌∷◌, ◌++◌, length, drop, refl, sym, ap, subst, ◌∙◌, arith, append_assoc, length-append, length-drop, inl, inr}
use Rattle.std.proofs.lemmas.List.{append-nil, append_cancel_left}
use Rattle.der_base.specs.Spelling.{end_marker}
use Rattle.der_base.specs.declared.rules.Rules.{Rules}
use Rattle.der_elements.specs.declared.content.Open.{Open}
use Rattle.der_elements.specs.Ends.{between, end_in, EndsWithin, IsWithin}
use Rattle.der_elements.specs.Visits.{Visited, Extras, Visits, none, one_more}
use Rattle.der_elements.specs.Walked.{EndsAt, IsOpen, HasWalked, outermost, inside}
use Rattle.der_elements.proofs.Between.{between_drop, drop_front, length-between}
use Rattle.der_elements.proofs.Ends.{same_end, within_around, within_later}
use Rattle.der_elements.proofs.Opening.{visits_left}

-- the octets from an offset to the end of the content there, which are visited
pub record Rest (x : Extras) (i : List ℕ) (s : Rules) (d : ℕ) (opens : List Open) (e : Option ℕ) (m : Bool) (at : ℕ) : Type 0 where
  pub octets : List ℕ
  pub others : List ℕ
  pub visited : List Visited
  pub split : drop at i ≡ octets ++ others
  pub visits : Visits x s d (length opens) at octets visited
  pub ends : ((opens ≡ []) × (others ≡ [])) ⊎ ((opens ≢ []) × (after : ℕ) × EndsAt i e m (at + length octets) after × (after ≤ length i) × IsWithin after e)

pub no_limit : {x : Extras} {r : Rules} {i : List ℕ} {d : ℕ} {opens : List Open} {s : Rules} {e : Option ℕ} {m : Bool} {at : ℕ} {vs : List Visited} → HasWalked x r i d opens s e m at vs → opens ≡ [] → e ≡ None
no_limit (outermost ed eo es he hm ha v) q = he
no_limit (inside outer o start first before us v eo w is he hf ha hl vis ev el em ef es) q = absurd (omega (arith, ap length (sym eo ∙ q), length-append outer (o ∷ [])))

-- a content has octets where an element is open
no_end : (i : List ℕ) (outer : List Open) (e : Option ℕ) (m : Bool) (start at : ℕ) (others : List ℕ) → start < at → at ≤ length i → IsWithin at e → ((z : List ℕ) → drop start i ≡ end_marker ++ z → ⊥) → drop start i ≡ others
    → (((outer ≡ []) × (others ≡ [])) ⊎ ((outer ≢ []) × (after : ℕ) × EndsAt i e m (start + 0) after × (after ≤ length i) × IsWithin after e)) → ⊥
no_end i outer e m start at others h1 h2 h3 never q (inl (eo, et)) = absurd (omega (arith, ap length (q ∙ et), length-drop start i))
no_end i outer e m start at others h1 h2 h3 never q (inr (some, after, inl (mf, ee, ea), hl, hw)) =
    let z : at ≤ start + 0 = subst (λ f. IsWithin at f) ee h3 in
    absurd (omega (arith, z))
no_end i outer e m start at others h1 h2 h3 never q (inr (some, after, inr (mt, ea, eb), hl, hw)) =
    let z : start + 0 ≡ start = omega arith in
    let b : between i start after ≡ end_marker = ap (λ n. between i n after) (sym z) ∙ eb in
    never (drop after i) (sym (between_drop i start after (omega (arith, ea))) ∙ ap (λ l. l ++ drop after i) b)

-- in the content of an element that is open
inner : {x : Extras} {i : List ℕ} {d : ℕ} {s : Rules} {e : Option ℕ} {m : Bool} {at : ℕ} (opens outer : List Open) (o : Open) (start first : ℕ) (us : List Visited) (v : Visited) (octets others : List ℕ) (ws : List Visited)
    → length opens ≡ suc (length outer) → IsOpen x i o.around.rules d (length outer) start first s e m v → EndsWithin e (end_in (length i) o.around.end) → first ≤ at → IsWithin at e → at ≤ length i
    → Visits x s d (suc (length outer)) first (between i first at) us → (m ≡ true → e ≡ end_in (length i) o.around.end) → (outer ≡ [] → end_in (length i) o.around.end ≡ None)
    → drop start i ≡ octets ++ others → Visits x o.around.rules (suc d) (length outer) start octets ws
    → (((outer ≡ []) × (others ≡ [])) ⊎ ((outer ≢ []) × (after : ℕ) × EndsAt i (end_in (length i) o.around.end) o.around.has_marker (start + length octets) after × (after ≤ length i) × IsWithin after (end_in (length i) o.around.end)))
    → Rest x i s d opens e m at
inner {i = i} {e = e} {at = at} opens outer o start first us v octets others ws k is he hf ha hl vis em top q none ends =
    absurd (no_end i outer (end_in (length i) o.around.end) o.around.has_marker start at others (omega (arith, is.begins)) hl (within_around at e _ ha he) is.no_marker q ends)
inner {x} {i} {d} {s} {e} {m} {at} opens outer o start first us v octets others ws k is he hf ha hl vis em top q (one_more b rest us1 ws1 ei ev one more) ends =
    let split : drop start i ≡ b ++ (rest ++ others) = q ∙ ap (λ l. l ++ others) ei ∙ append_assoc b rest others in
    let (w, z, ws2, split2, vis2, end2) = is.opens b (rest ++ others) us1 split one in
    of w z ws2 split2 vis2 end2 (omega (arith, ap length split, length-drop start i, length-append b (rest ++ others), is.begins))
    (around ends (omega (arith, ap length ei, length-append b rest)))
  where
    around : (((outer ≡ []) × (others ≡ [])) ⊎ ((outer ≢ []) × (after : ℕ) × EndsAt i (end_in (length i) o.around.end) o.around.has_marker (start + length octets) after × (after ≤ length i) × IsWithin after (end_in (length i) o.around.end)))
        → length b ≤ length octets → IsWithin (start + length b) (end_in (length i) o.around.end)
    around (inl (eo, et)) h = subst (λ f. IsWithin (start + length b) f) (sym (top eo)) tt
    around (inr (some, after, inl (mf, ee, ea), h1, h2)) h = within_later after (start + length b) _ (omega (arith, ea)) h2
    around (inr (some, after, inr (mt, ea, eb), h1, h2)) h = within_later after (start + length b) _ (omega (arith, ea)) h2

    of : (w z : List ℕ) (ws2 : List Visited) → drop first i ≡ w ++ z → Visits x s d (suc (length outer)) first w ws2 → EndsAt i e m (first + length w) (start + length b) → start + length b ≤ length i
        → IsWithin (start + length b) (end_in (length i) o.around.end) → Rest x i s d opens e m at
    of w z ws2 split2 vis2 end2 fits within =
        let size = length-between i first at hl in
        let left = visits_left (drop at i) z vis vis2 (between_drop i first at hf ∙ split2) (ends_of end2) in
        let n : first + length (between i first at) ≡ at = omega (arith, size) in
        let place : first + length w ≡ at + length left.octets = omega (arith, size, ap length left.split, length-append (between i first at) left.octets) in
        record {
          octets = left.octets;
          others = z;
          visited = left.visited;
          split = append_cancel_left (between i first at) (drop at i) (left.octets ++ z)
              (between_drop i first at hf ∙ split2 ∙ ap (λ l. l ++ z) left.split ∙ append_assoc (between i first at) left.octets z);
          visits = subst (λ l. Visits x s d l at left.octets left.visited) (sym k) (subst (λ l. Visits x s d (suc (length outer)) l left.octets left.visited) n left.visits);
          ends = inr (λ f. absurd (omega (arith, k, ap length f)), start + length b, subst (λ l. EndsAt i e m l (start + length b)) place end2, fits, in_it end2);
        }
      where
        ends_of : EndsAt i e m (first + length w) (start + length b) → (length (between i first at) ≤ length w) ⊎ ((y : List ℕ) × (z ≡ end_marker ++ y))
        ends_of (inl (mf, ee, ea)) = let z : at ≤ first + length w = subst (λ f. IsWithin at f) ee ha in inl (omega (arith, z, length-between i first at hl))
        ends_of (inr (mt, ea, eb)) =
            let n = start + length b in
            inr (drop n i, sym (drop_front i first w z split2) ∙ sym (between_drop i (first + length w) n (omega (arith, ea))) ∙ ap (λ l. l ++ drop n i) eb)

        in_it : EndsAt i e m (first + length w) (start + length b) → IsWithin (start + length b) e
        in_it (inl (mf, ee, ea)) = subst (λ f. IsWithin (start + length b) f) (sym ee) (let y : start + length b ≤ first + length w = omega (arith, ea) in y)
        in_it (inr (mt, ea, eb)) = subst (λ f. IsWithin (start + length b) f) (sym (em mt)) within

pub rest_of : {x : Extras} {r : Rules} {i : List ℕ} {d : ℕ} {opens : List Open} {s : Rules} {e : Option ℕ} {m : Bool} {at : ℕ} {vs : List Visited} → HasWalked x r i d opens s e m at vs
    → (us : List Visited) → Visits x r 101 0 0 i us → Rest x i s d opens e m at
rest_of {x} {r} {i} {d} {opens} {s} {e} {m} {at} (outermost ed eo es he hm ha v) us all =
    let size = length-between i 0 at ha in
    let split = between_drop i 0 at (omega arith) in
    let left = visits_left (drop at i) [] v (subst (λ n. Visits x r n 0 0 i us) (sym ed) all) (split ∙ sym (append-nil i)) (inl (omega (arith, size))) in
    let octets : left.octets ≡ drop at i = append_cancel_left (between i 0 at) left.octets (drop at i) (sym left.split ∙ sym split) in
    let n : 0 + length (between i 0 at) ≡ at = omega (arith, size) in
    let k : 0 ≡ length opens = sym (ap length eo) in
    let vis = subst (λ q. Visits x r d 0 q left.octets left.visited) n left.visits in
    record {
      octets = left.octets;
      others = [];
      visited = left.visited;
      split = sym octets ∙ sym (append-nil left.octets);
      visits = subst (λ q. Visits x q d (length opens) at left.octets left.visited) (sym es) (subst (λ q. Visits x r d q at left.octets left.visited) k vis);
      ends = inl (eo, refl);
    }
rest_of {x} {r} {i} {d} {opens} {s} {e} {m} {at} (inside outer o start first before ws v eo w is he hf ha hl vis ev el em ef es) us all =
    let around = rest_of w us all in
    let k : length opens ≡ suc (length outer) = omega (arith, ap length eo, length-append outer (o ∷ [])) in
    inner {x = x} {i = i} {d = d} {s = s} {e = e} {m = m} {at = at} opens outer o start first ws v around.octets around.others around.visited k is he hf ha hl vis (λ q. el ∙ same_end (v.offset + v.header) (end_in (length i) o.around.end) v.length (sym em ∙ q)) (no_limit w) around.split around.visits around.ends
