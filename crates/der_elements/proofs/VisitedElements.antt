-- What is visited is of elements.
use Rattle.std.proofs.Common.{◌≡◌, ℕ, zero, suc, ◌+◌, ◌<◌, ◌≤◌, Option, Some, None, true, List, [], ◌∷◌, ◌++◌, length, take, drop, refl, sym, ap, subst, ◌∙◌, arith, append_assoc, length-append, ⊎_elim}
use Rattle.std.specs.Prelude.{IfSome}
use Rattle.std.specs.List.{All}
use Rattle.std.proofs.lemmas.List.Elements.{All-nil, All-cons, All-head, All-tail, All-same, All-append, All-take, All-drop, All-weaker}
use Rattle.std.proofs.Math.Seq.{take-append_seam, drop-append_seam}
use Rattle.der_base.specs.declared.header.Class.{Class}
use Rattle.der_base.specs.declared.header.Class.TheVariants.{Universal}
use Rattle.der_base.specs.Octets.{identifier}
use Rattle.der_base.specs.Spelling.{end_marker}
use Rattle.der_base.specs.declared.rules.Rules.{Rules}
use Rattle.der_base.specs.declared.rules.Rules.TheVariants.{Ber}
use Rattle.der_elements.specs.Check.Elements.{AreElements, IsElement}
use Rattle.der_elements.specs.Check.Elements.{none as no_elements, one_more as one_element, primitive as primitive_element, constructed as constructed_element, indefinite as indefinite_element}
use Rattle.der_elements.specs.FirstFault.{IsShallow}
use Rattle.der_elements.specs.Laws.{IsWithin}
use Rattle.der_elements.specs.Visits.{Visited, Extras, Visits, VisitsOne, IsStringFront, none, one_more, primitive, broken, string, constructed, indefinite}

pub string_not_zero : (t : ℕ) (u : List ℕ) → IsStringFront t u → t ≡ 0 → ⊥
string_not_zero t u f z = ⊎_elim (λ q. let e : t ≡ 4 = q.0 in absurd (omega (arith, z, e))) (λ q. let e : t ≡ 3 = q.0 in absurd (omega (arith, z, e))) f

pub joined : (c : Class) (t : ℕ) (w : List ℕ) → (identifier c true t ++ 128 ∷ []) ++ w ++ end_marker ≡ identifier c true t ++ 128 ∷ w ++ end_marker
joined c t w = ap (λ l. l ++ end_marker) (append_assoc (identifier c true t) (128 ∷ []) w)

-- places

wide_length : (l : Option ℕ) (p z z' : ℕ) → IfSome l (λ n. p + n ≤ z) → z ≤ z' → IfSome l (λ n. p + n ≤ z')
wide_length None p z z' s h = tt
wide_length (Some n) p z z' s h = omega (arith, s, h)

wider : (a z k d a' z' k' d' : ℕ) → a' ≤ a → z ≤ z' → k' ≤ k → k + d ≤ k' + d' → (v : Visited) → IsWithin a z k d v → IsWithin a' z' k' d' v
wider a z k d a' z' k' d' h1 h2 h3 h4 v (p1, p2, p3, p4, p5) = (omega (arith, p1), omega (arith, p2), wide_length v.length (v.offset + v.header) z z' p3 h2, omega (arith, p4), omega (arith, p5))

alone : (a k d : ℕ) (b h w : List ℕ) (vs : List Visited) (v : Visited) → vs ≡ v ∷ [] → v.offset ≡ a → v.header ≡ length h → v.length ≡ Some (length w) → v.depth ≡ k → length b ≡ length h + length w
    → All (IsWithin a (a + length b) k (suc d)) vs
alone a k d b h w vs v ev e1 e2 e3 e4 len =
    let P = IsWithin a (a + length b) k (suc d) in
    let content : IfSome v.length (λ n. v.offset + v.header + n ≤ a + length b) = subst (λ l. IfSome l (λ n. v.offset + v.header + n ≤ a + length b)) (sym e3) (omega (arith, e1, e2, len)) in
    All-same P vs (v ∷ []) ev (All-cons P v [] (omega (arith, e1), omega (arith, e1, e2, len), content, omega (arith, e4), omega (arith, e4)) (All-nil P))

around : (a k d : ℕ) (b h : List ℕ) (vs us : List Visited) (v : Visited) → vs ≡ v ∷ us → v.offset ≡ a → v.header ≡ length h → length h ≤ length b → IfSome v.length (λ n. a + length h + n ≤ a + length b) → v.depth ≡ k
    → (f z : ℕ) → a ≤ f → z ≤ a + length b → All (IsWithin f z (suc k) d) us → All (IsWithin a (a + length b) k (suc d)) vs
around a k d b h vs us v ev e1 e2 len content e4 f z h1 h2 inner =
    let P = IsWithin a (a + length b) k (suc d) in
    let q : a + length h ≡ v.offset + v.header = omega (arith, e1, e2) in
    let content' : IfSome v.length (λ n. v.offset + v.header + n ≤ a + length b) = subst (λ p. IfSome v.length (λ n. p + n ≤ a + length b)) q content in
    All-same P vs (v ∷ us) ev
    (All-cons P v us (omega (arith, e1), omega (arith, e1, e2, len), content', omega (arith, e4), omega (arith, e4))
    (All-weaker (IsWithin f z (suc k) d) P (wider f z (suc k) d a (a + length b) k (suc d) h1 h2 (omega arith) (omega arith)) us inner))

mutual
  pub visits_within : {x : Extras} {r : Rules} {d k a : ℕ} {i : List ℕ} {vs : List Visited} → Visits x r d k a i vs → All (IsWithin a (a + length i) k d) vs
  visits_within {d = d} {k = k} {a = a} none = All-nil (IsWithin a (a + 0) k d)
  visits_within {d = d} {k = k} {a = a} {i = i} {vs = vs} (one_more b rest us ws ei ev one more) =
      let P = IsWithin a (a + length i) k d in
      let len : length i ≡ length b + length rest = ap length ei ∙ length-append b rest in
      All-same P vs (us ++ ws) ev
      (All-append P us ws
      (All-weaker (IsWithin a (a + length b) k d) P (wider a (a + length b) k d a (a + length i) k d (omega arith) (omega (arith, len)) (omega arith) (omega arith)) us (one_within one))
      (All-weaker (IsWithin (a + length b) (a + length b + length rest) k d) P (wider (a + length b) (a + length b + length rest) k d a (a + length i) k d (omega arith) (omega (arith, len)) (omega arith) (omega arith)) ws (visits_within more)))

  pub one_within : {x : Extras} {r : Rules} {d k a : ℕ} {b : List ℕ} {vs : List Visited} → VisitsOne x r d k a b vs → All (IsWithin a (a + length b) k d) vs
  one_within {k = k} {a = a} {b = b} {vs = vs} (primitive {d = d} c t h w is e has out ev) = alone a k d b h w vs _ ev refl refl refl refl (ap length e ∙ length-append h w)
  one_within {k = k} {a = a} {b = b} {vs = vs} (broken {d = d} t h w is e keeps er it never ev) = alone a k d b h w vs _ ev refl refl refl refl (ap length e ∙ length-append h w)
  one_within {k = k} {a = a} {b = b} {vs = vs} (string {d = d} m t h w u v us is e has en holds first vis ev) =
      around a k d b h vs us _ ev refl refl (omega (arith, ap length e ∙ length-append h w)) (omega (arith, ap length e ∙ length-append h w)) refl (a + length h + length u) (a + length h + length u + length v) (omega arith)
      (omega (arith, ap length e ∙ length-append h w, ap length holds.parts ∙ length-append u v)) (visits_within vis)
  one_within {k = k} {a = a} {b = b} {vs = vs} (constructed {d = d} c t h w us is e may vis ev) =
      around a k d b h vs us _ ev refl refl (omega (arith, ap length e ∙ length-append h w)) (omega (arith, ap length e ∙ length-append h w)) refl (a + length h) (a + length h + length w) (omega arith)
      (omega (arith, ap length e ∙ length-append h w)) (visits_within vis)
  one_within {k = k} {a = a} {b = b} {vs = vs} (indefinite {d = d} c t h w us is e may vis ev) =
      let len = ap length e ∙ length-append (h ++ w) end_marker in
      let hw = length-append h w in
      around a k d b h vs us _ ev refl refl (omega (arith, len, hw)) tt refl (a + length h) (a + length h + length w) (omega arith) (omega (arith, len, hw)) (visits_within vis)

-- elements

pub front_all : (P : Visited → Type 0) (us ws vs : List Visited) → vs ≡ us ++ ws → All P vs → All P us
front_all P us ws vs e h = All-same P us (take (length us) (us ++ ws)) (sym (take-append_seam us ws)) (All-take P (length us) (us ++ ws) (subst (All P) e h))

pub back_all : (P : Visited → Type 0) (us ws vs : List Visited) → vs ≡ us ++ ws → All P vs → All P ws
back_all P us ws vs e h = All-same P ws (drop (length us) (us ++ ws)) (sym (drop-append_seam us ws)) (All-drop P (length us) (us ++ ws) (subst (All P) e h))

shallower : (k d : ℕ) (u : Visited) → u.depth < k + suc d → u.depth < suc k + d
shallower k d u h = omega (arith, h)

-- inside the first of these
all_inside : (k d : ℕ) (vs us : List Visited) (v : Visited) → vs ≡ v ∷ us → All (IsShallow (k + suc d)) vs → All (IsShallow (suc k + d)) us
all_inside k d vs us v e h = All-weaker (IsShallow (k + suc d)) (IsShallow (suc k + d)) (shallower k d) us (All-tail (IsShallow (k + suc d)) v us (subst (All (IsShallow (k + suc d))) e h))

-- the first of these is no deeper than the elements around it
not_shallow : {P : Type 0} (k : ℕ) (vs us : List Visited) (v : Visited) → vs ≡ v ∷ us → v.depth ≡ k → All (IsShallow (k + 0)) vs → P
not_shallow k vs us v e own h = let p : v.depth < k + 0 = All-head (IsShallow (k + 0)) v us (subst (All (IsShallow (k + 0))) e h) in absurd (omega (arith, p, own))

pub no_depth : {P : Type 0} {x : Extras} {r : Rules} {n k a : ℕ} {b : List ℕ} {vs : List Visited} → All (IsShallow (k + 0)) vs → VisitsOne x r n k a b vs → P
no_depth {k = k} {vs = vs} h (primitive c t o w is e has out ev) = not_shallow k vs [] _ ev refl h
no_depth {k = k} {vs = vs} h (broken t o w is e keeps er it never ev) = not_shallow k vs [] _ ev refl h
no_depth {k = k} {vs = vs} h (string m t o w u v us is e has en holds first vis ev) = not_shallow k vs us _ ev refl h
no_depth {k = k} {vs = vs} h (constructed c t o w us is e may vis ev) = not_shallow k vs us _ ev refl h
no_depth {k = k} {vs = vs} h (indefinite c t o w us is e may vis ev) = not_shallow k vs us _ ev refl h

mutual
  -- to the depth of what is visited, without values that break their type
  pub shallow_elements : {x : Extras} {r : Rules} {n k a : ℕ} {i : List ℕ} {vs : List Visited} (d : ℕ) → (x.keeps_values ≡ true → r ≡ Ber → ⊥) → All (IsShallow (k + d)) vs → Visits x r n k a i vs → AreElements r d i
  shallow_elements d f h none = no_elements
  shallow_elements {k = k} {vs = vs} d f h (one_more b rest us ws ei ev one more) =
      let P = IsShallow (k + d) in
      one_element b rest ei (shallow_element d f (front_all P us ws vs ev h) one) (shallow_elements d f (back_all P us ws vs ev h) more)

  pub shallow_element : {x : Extras} {r : Rules} {n k a : ℕ} {b : List ℕ} {vs : List Visited} (d : ℕ) → (x.keeps_values ≡ true → r ≡ Ber → ⊥) → All (IsShallow (k + d)) vs → VisitsOne x r n k a b vs → IsElement r d b
  shallow_element zero f h one = no_depth h one
  shallow_element (suc d) f h (primitive c t o w is e has out ev) = primitive_element c t is.1 w is.0 is.2 (e ∙ ap (λ l. l ++ w) is.3) has
  shallow_element (suc d) f h (broken t o w is e keeps er it never ev) = absurd (f keeps er)
  shallow_element (suc d) f h (string m t o w u v us is e has en holds first vis ev) = primitive_element Universal t is.1 w is.0 is.2 (e ∙ ap (λ l. l ++ w) is.3) (λ q. (string_not_zero t u holds.front, has))
  shallow_element {k = k} {vs = vs} (suc d) f h (constructed c t o w us is e may vis ev) =
      constructed_element c t is.1 w is.0 is.2 (e ∙ ap (λ l. l ++ w) is.3) may (shallow_elements d f (all_inside k d vs us _ ev h) vis)
  shallow_element {k = k} {vs = vs} (suc d) f h (indefinite c t o w us is e may vis ev) =
      indefinite_element c t w is.0 is.1 (e ∙ ap (λ l. l ++ w ++ end_marker) is.3 ∙ joined c t w) may (shallow_elements d f (all_inside k d vs us _ ev h) vis)

-- to the depth of the walk
pub are_elements : {x : Extras} {r : Rules} {d k a : ℕ} {i : List ℕ} {vs : List Visited} → (x.keeps_values ≡ true → r ≡ Ber → ⊥) → Visits x r d k a i vs → AreElements r d i
are_elements {d = d} {k = k} {a = a} {i = i} {vs = vs} f v = shallow_elements d f (All-weaker (IsWithin a (a + length i) k d) (IsShallow (k + d)) (λ u p. p.4) vs (visits_within v)) v
