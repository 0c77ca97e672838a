-- A walk from element to element.
use Rattle.std.proofs.Common.{◌≡◌, ℕ, suc, ◌+◌, ◌≤◌, Bool, Option, List, [], ◌∷◌, ◌++◌, length, take, drop, refl, sym, ap, subst, ◌∙◌, arith, append_assoc, length-append}
use Rattle.std.proofs.lemmas.List.{append-nil}
use Rattle.std.proofs.Math.Seq.{take-append_seam, drop-append_seam}
use Rattle.der_base.specs.declared.rules.Rules.{Rules}
use Rattle.der_elements.specs.declared.content.Open.{Open}
use Rattle.der_elements.specs.Faults.{IsStep}
use Rattle.der_elements.specs.Visits.{Visited, Extras, Visits, VisitsOne, none, one_more}
use Rattle.der_elements.specs.Ends.{ends_at_marker, end_from, between, end_in, EndsWithin, IsWithin}
use Rattle.der_elements.specs.Walked.{index_in, EndsAt, IsOpen, HasWalked, outermost, inside}
use Rattle.der_elements.proofs.Ends.{within_around}
use Rattle.der_elements.proofs.Between.{between_more, between_none, length-between}

-- one more element at the end
pub visits_last : {x : Extras} {r : Rules} {d k a : ℕ} {b : List ℕ} {us : List Visited} (c : List ℕ) (vs : List Visited) → Visits x r d k a b us → VisitsOne x r d k (a + length b) c vs → Visits x r d k a (b ++ c) (us ++ vs)
visits_last {x} {r} {d} {k} {a} c vs none one =
    let e : a + 0 ≡ a = omega arith in
    one_more c [] vs [] (sym (append-nil c)) (sym (append-nil vs)) (subst (λ n. VisitsOne x r d k n c vs) e one) none
visits_last {x} {r} {d} {k} {a} c vs (one_more b rest us ws ei ev is more) one =
    let e : a + length _ ≡ a + length b + length rest = omega (arith, ap length ei, length-append b rest) in
    one_more b (rest ++ c) us (ws ++ vs) (ap (λ l. l ++ c) ei ∙ append_assoc b rest c) (ap (λ l. l ++ vs) ev ∙ append_assoc us ws vs) is
    (visits_last c vs more (subst (λ n. VisitsOne x r d k n c vs) e one))

-- how many elements are open
pub open_depth : {x : Extras} {r : Rules} {i : List ℕ} {d : ℕ} {opens : List Open} {s : Rules} {e : Option ℕ} {m : Bool} {at : ℕ} {vs : List Visited} → HasWalked x r i d opens s e m at vs → d + length opens ≡ 101
open_depth (outermost ed eo es he hm ha v) = omega (arith, ed, ap length eo)
open_depth (inside outer o start first before us v eo w is he hf ha hl vis ev el em ef es) = omega (arith, ap length eo, length-append outer (o ∷ []), open_depth w)

pub within : {x : Extras} {r : Rules} {i : List ℕ} {d : ℕ} {opens : List Open} {s : Rules} {e : Option ℕ} {m : Bool} {at : ℕ} {vs : List Visited} → HasWalked x r i d opens s e m at vs → (at ≤ length i) × IsWithin at e
within {at = at} (outermost ed eo es he hm ha v) = (ha, subst (λ q. IsWithin at q) (sym he) tt)
within (inside outer o start first before us v eo w is he hf ha hl vis ev el em ef es) = (hl, ha)

-- after one more element
pub advance : {x : Extras} {r : Rules} {i : List ℕ} {d : ℕ} {opens : List Open} {s : Rules} {e : Option ℕ} {m : Bool} {at : ℕ} {vs : List Visited} (n : ℕ) (us : List Visited)
    → HasWalked x r i d opens s e m at vs → VisitsOne x s d (length opens) at (between i at n) us → at ≤ n → IsWithin n e → n ≤ length i
    → HasWalked x r i d opens s e m n (vs ++ us)
advance {x} {r} {i} {d} {opens} {s} {e} {m} {at} {vs} n us (outermost ed eo es he hm ha v) one h1 h2 h3 =
    let z : length opens ≡ 0 = ap length eo in
    let begins : at ≡ 0 + length (between i 0 at) = omega (arith, length-between i 0 at ha) in
    let here : VisitsOne x r d 0 (0 + length (between i 0 at)) (between i at n) us = subst (λ q. VisitsOne x q d 0 (0 + length (between i 0 at)) (between i at n) us) es (subst (λ q. VisitsOne x s d 0 q (between i at n) us) begins (subst (λ q. VisitsOne x s d q at (between i at n) us) z one)) in
    outermost ed eo es he hm h3 (subst (λ q. Visits x r d 0 0 q (vs ++ us)) (between_more i 0 at n (omega arith) h1) (visits_last (between i at n) us v here))
advance {x} {r} {i} {d} {opens} {s} {e} {m} {at} n us (inside outer o start first before ws v eo w is he hf ha hl vis ev el em ef es) one h1 h2 h3 =
    let z : length opens ≡ suc (length outer) = omega (arith, ap length eo, length-append outer (o ∷ [])) in
    let begins : at ≡ first + length (between i first at) = omega (arith, length-between i first at hl) in
    let here : VisitsOne x s d (suc (length outer)) (first + length (between i first at)) (between i at n) us = subst (λ q. VisitsOne x s d (suc (length outer)) q (between i at n) us) begins (subst (λ q. VisitsOne x s d q at (between i at n) us) z one) in
    inside outer o start first before (ws ++ us) v eo w is he (omega arith) h2 h3
    (subst (λ q. Visits x s d (suc (length outer)) first q (ws ++ us)) (between_more i first at n hf h1) (visits_last (between i at n) us vis here))
    (ap (λ l. l ++ us) ev ∙ append_assoc before (v ∷ ws) us) el em ef es

-- after the header of an element that is open from here on
pub go_into : {x : Extras} {r : Rules} {i : List ℕ} {d : ℕ} {opens : List Open} {at : ℕ} {vs : List Visited} (opens' : List Open) (o : Open) (first : ℕ) (s : Rules) (e : Option ℕ) (m : Bool) (v : Visited)
    → HasWalked x r i (suc d) opens o.around.rules (end_in (length i) o.around.end) o.around.has_marker at vs → opens' ≡ opens ++ o ∷ []
    → IsOpen x i o.around.rules d (length opens) at first s e m v → EndsWithin e (end_in (length i) o.around.end) → IsWithin first e → first ≤ length i
    → e ≡ end_from (v.offset + v.header) (end_in (length i) o.around.end) v.length → m ≡ ends_at_marker v.length → o.offset ≡ at → IsStep o.step v.class v.number (index_in (length opens) vs)
    → HasWalked x r i d opens' s e m first (vs ++ v ∷ [])
go_into {x} {r} {i} {d} {opens} {at} {vs} opens' o first s e m v w eo is h1 h2 h3 h4 h5 h6 h7 =
    inside opens o at first vs [] v eo w is h1 (omega arith) h2 h3 (subst (λ q. Visits x s d (suc (length opens)) first q []) (sym (between_none i first)) none) refl h4 h5 h6 h7

-- the last of a list
pub last_same : {T : Type 0} (xs ys : List T) (a b : T) → xs ++ a ∷ [] ≡ ys ++ b ∷ [] → (xs ≡ ys) × (a ≡ b)
last_same xs ys a b e =
    let n : length xs ≡ length ys = omega (arith, ap length e, length-append xs (a ∷ []), length-append ys (b ∷ [])) in
    let front : xs ≡ ys = sym (take-append_seam xs (a ∷ [])) ∙ ap (λ l. take (length xs) l) e ∙ ap (λ k. take k (ys ++ b ∷ [])) n ∙ take-append_seam ys (b ∷ []) in
    let back : a ∷ [] ≡ b ∷ [] = sym (drop-append_seam xs (a ∷ [])) ∙ ap (λ l. drop (length xs) l) e ∙ ap (λ k. drop k (ys ++ b ∷ [])) n ∙ drop-append_seam ys (b ∷ []) in
    (front, cc)

-- after the end of the innermost element
pub close : {x : Extras} {r : Rules} {i : List ℕ} {d : ℕ} {opens : List Open} {s : Rules} {e : Option ℕ} {m : Bool} {at : ℕ} {vs : List Visited} (outer : List Open) (o : Open) (after : ℕ)
    → opens ≡ outer ++ o ∷ [] → HasWalked x r i d opens s e m at vs → EndsAt i e m at after → after ≤ length i → IsWithin after e → at ≤ after
    → HasWalked x r i (suc d) outer o.around.rules (end_in (length i) o.around.end) o.around.has_marker after vs
close outer o after eo (outermost ed eo' es he hm ha v) ends h1 h2 h3 = absurd (omega (arith, ap length (sym eo ∙ eo'), length-append outer (o ∷ [])))
close {x} {r} {i} {d} {opens} {s} {e} {m} {at} {vs} outer o after eo (inside outer' o' start first before us v eo' w is he hf ha hl vis ev el em ef es) ends h1 h2 h3 =
    let same = last_same outer' outer o' o (sym eo' ∙ eo) in
    let one = is.closes at after us ends hf h1 vis in
    let w' : HasWalked x r i (suc d) outer' o'.around.rules (end_in (length i) o'.around.end) o'.around.has_marker after (before ++ v ∷ us) = advance after (v ∷ us) w one (omega (arith, is.begins)) (within_around after e _ h2 he) h1 in
    let w2 = subst (λ l. HasWalked x r i (suc d) l o'.around.rules (end_in (length i) o'.around.end) o'.around.has_marker after (before ++ v ∷ us)) same.0 w' in
    let w3 = subst (λ (z : Open). HasWalked x r i (suc d) outer z.around.rules (end_in (length i) z.around.end) z.around.has_marker after (before ++ v ∷ us)) same.1 w2 in
    subst (λ l. HasWalked x r i (suc d) outer o.around.rules (end_in (length i) o.around.end) o.around.has_marker after l) (sym ev) w3
