-- What is inside an element, and what is left to visit.
use Rattle.std.proofs.Common.{◌≡◌, ℕ, suc, ◌+◌, ◌≤◌, ◌<◌, ◌⊎◌, Bool, true, false, List, [], ◌∷◌, ◌++◌, length, Option, Some, None, refl, sym, ap, subst, ◌∙◌, arith, append_assoc, length-append, inl, inr, ⊎_elim}
use Rattle.std.proofs.lemmas.List.{append-nil, append_cancel_left, nil_from_length}
use Rattle.der_base.specs.declared.header.Class.{Class}
use Rattle.der_base.specs.declared.header.Class.TheVariants.{Universal}
use Rattle.der_base.specs.declared.rules.Rules.{Rules}
use Rattle.der_base.specs.Octets.{identifier}
use Rattle.der_base.specs.Spelling.{end_marker}
use Rattle.der_base.proofs.Framing.Elements.{identifier_some}
use Rattle.der_contents.specs.ContentRules.{IsContent}
use Rattle.der_elements.specs.Visits.{Visited, Extras, IsHeaderBy, IsStringFront, HoldsElement, IsFirstOf, Visits, VisitsOne, none, one_more, primitive, broken, string, constructed, indefinite}
use Rattle.der_elements.proofs.OneVisit.{content_same, front_same, header_front, no_zero, not_both, one_no_marker, one_nonempty, one_same, rules_same, same_parts, same_start}

some_length : (h : List ℕ) → ([] ≡ h → ⊥) → 0 < length h
some_length [] f = absurd (f refl)
some_length (a ∷ h) f = omega arith

-- a header has octets, and doesn't begin as an end marker
pub header_some : (r : Rules) (c : Class) (p : Bool) (t : ℕ) (n : Option ℕ) (h : List ℕ) → IsHeaderBy r c p t n h → 0 < length h
header_some r c p t n h is = let f = header_front r c p t n h is in some_length h (λ e. identifier_some c p t f.0 (e ∙ f.1))

pub header_no_marker : (r : Rules) (c : Class) (p : Bool) (t : ℕ) (n : Option ℕ) (h y z : List ℕ) → IsHeaderBy r c p t n h → (p ≡ false → c ≡ Universal → t ≡ 0 → ⊥) → h ++ y ≡ end_marker ++ z → ⊥
header_no_marker r c p t n h y z is never q =
    let f = header_front r c p t n h is in
    no_zero (0 ∷ 0 ∷ z) c p t (f.0 ++ y) (0 ∷ z) refl (sym q ∙ ap (λ l. l ++ y) f.1 ∙ append_assoc (identifier c p t) f.0 y) never

-- inside a constructed element of definite length
pub record InDefinite (x : Extras) (r : Rules) (d k a n : ℕ) (b h z : List ℕ) : Type 0 where
  pub content : List ℕ
  pub rest : List ℕ
  pub visited : List Visited
  pub split : z ≡ content ++ rest
  pub size : length content ≡ n
  pub whole : length b ≡ length h + n
  pub visits : Visits x r d (suc k) (a + length h) content visited

pub into_definite : {x : Extras} {r : Rules} {d k a : ℕ} {b : List ℕ} {us : List Visited} (c : Class) (t n : ℕ) (h y z : List ℕ) → IsHeaderBy r c true t (Some n) h → VisitsOne x r (suc d) k a b us → b ++ y ≡ h ++ z
    → InDefinite x r d k a n b h z
into_definite {r = r} {b = b} c t n h y z is (primitive c' t' h' w' is' e' has out ev) q = absurd (not_both r c' c t' t (Some (length w')) (Some n) b h h' h w' [] y z is' is e' (sym (append-nil h)) q)
into_definite {r = r} {b = b} c t n h y z is (broken t' h' w' is' e' keeps er it never ev) q = absurd (not_both r Universal c t' t (Some (length w')) (Some n) b h h' h w' [] y z is' is e' (sym (append-nil h)) q)
into_definite {r = r} {b = b} c t n h y z is (string m' t' h' w' u v us' is' e' has en holds first vis ev) q = absurd (not_both r Universal c t' t (Some (length w')) (Some n) b h h' h w' [] y z is' is e' (sym (append-nil h)) q)
into_definite {x = x} {r = r} {k = k} {a = a} {b = b} c t n h y z is (constructed {d = d} c' t' h' w' us' is' e' may vis ev) q =
    let s = same_start r c' c true true t' t (Some (length w')) (Some n) h' h (w' ++ y) z is' is (sym (ap (λ l. l ++ y) e' ∙ append_assoc h' w' y) ∙ q) in
    let len : length w' ≡ n = (let l = s.length in cc) in
    let same : a + length h' ≡ a + length h = (let m = ap length s.octets in omega (arith, m)) in
    record {
      content = w';
      rest = y;
      visited = us';
      split = sym s.rest;
      size = len;
      whole = (let m = ap length s.octets in omega (arith, m, len, ap length e', length-append h' w'));
      visits = subst (λ m. Visits x r d (suc k) m w' us') same vis;
    }
into_definite {r = r} {b = b} c t n h y z is (indefinite c' t' h' w' us' is' e' may vis ev) q =
    let s = same_start r c' c true true t' t None (Some n) h' h ((w' ++ end_marker) ++ y) z is' is (sym (ap (λ l. l ++ y) (e' ∙ append_assoc h' w' end_marker) ∙ append_assoc h' (w' ++ end_marker) y) ∙ q) in
    absurd (let l = s.length in cc)

-- inside one of indefinite length
pub record InIndefinite (x : Extras) (r : Rules) (d k a : ℕ) (b h z : List ℕ) : Type 0 where
  pub content : List ℕ
  pub rest : List ℕ
  pub visited : List Visited
  pub split : z ≡ content ++ (end_marker ++ rest)
  pub whole : length b ≡ length h + length content + 2
  pub visits : Visits x r d (suc k) (a + length h) content visited

pub into_indefinite : {x : Extras} {r : Rules} {d k a : ℕ} {b : List ℕ} {us : List Visited} (c : Class) (t : ℕ) (h y z : List ℕ) → IsHeaderBy r c true t None h → VisitsOne x r (suc d) k a b us → b ++ y ≡ h ++ z
    → InIndefinite x r d k a b h z
into_indefinite {r = r} {b = b} c t h y z is (primitive c' t' h' w' is' e' has out ev) q = absurd (not_both r c' c t' t (Some (length w')) None b h h' h w' [] y z is' is e' (sym (append-nil h)) q)
into_indefinite {r = r} {b = b} c t h y z is (broken t' h' w' is' e' keeps er it never ev) q = absurd (not_both r Universal c t' t (Some (length w')) None b h h' h w' [] y z is' is e' (sym (append-nil h)) q)
into_indefinite {r = r} {b = b} c t h y z is (string m' t' h' w' u v us' is' e' has en holds first vis ev) q = absurd (not_both r Universal c t' t (Some (length w')) None b h h' h w' [] y z is' is e' (sym (append-nil h)) q)
into_indefinite {r = r} {b = b} c t h y z is (constructed c' t' h' w' us' is' e' may vis ev) q =
    let s = same_start r c' c true true t' t (Some (length w')) None h' h (w' ++ y) z is' is (sym (ap (λ l. l ++ y) e' ∙ append_assoc h' w' y) ∙ q) in
    absurd (let l = s.length in cc)
into_indefinite {x = x} {r = r} {k = k} {a = a} {b = b} c t h y z is (indefinite {d = d} c' t' h' w' us' is' e' may vis ev) q =
    let s = same_start r c' c true true t' t None None h' h ((w' ++ end_marker) ++ y) z is' is (sym (ap (λ l. l ++ y) (e' ∙ append_assoc h' w' end_marker) ∙ append_assoc h' (w' ++ end_marker) y) ∙ q) in
    let same : a + length h' ≡ a + length h = (let m = ap length s.octets in omega (arith, m)) in
    record {
      content = w';
      rest = y;
      visited = us';
      split = sym s.rest ∙ append_assoc w' end_marker y;
      whole = (let m = ap length s.octets in omega (arith, m, ap length e', length-append (h' ++ w') end_marker, length-append h' w'));
      visits = subst (λ m. Visits x r d (suc k) m w' us') same vis;
    }

-- inside a string
pub record InString (x : Extras) (m : Rules) (d k a : ℕ) (b h w u v : List ℕ) : Type 0 where
  pub visited : List Visited
  pub whole : b ≡ h ++ w
  pub visits : Visits x m d (suc k) (a + length h + length u) v visited

pub into_string : {x : Extras} {r : Rules} {d k a : ℕ} {b : List ℕ} {us : List Visited} (m : Rules) (t : ℕ) (h w u v y z : List ℕ) → IsHeaderBy r Universal false t (Some (length w)) h → IsContent r t w
    → x.enters_strings ≡ true → HoldsElement m d t w u v → IsFirstOf m d t w → VisitsOne x r (suc d) k a b us → b ++ y ≡ (h ++ w) ++ z → InString x m d k a b h w u v
into_string {r = r} {d = d} {b = b} m t h w u v y z is has en holds first (primitive c' t' h' w' is' e' has' out ev) q =
    let s = same_parts r c' Universal false false t' t b (h ++ w) h' h w' w y z is' is e' refl q in
    absurd (out en s.class m u v (subst (λ l. HoldsElement m d t' l u v) (sym s.content) (subst (λ n. HoldsElement m d n w u v) (sym s.number) holds)))
into_string {r = r} {b = b} m t h w u v y z is has en holds first (broken t' h' w' is' e' keeps er it never ev) q =
    let s = same_parts r Universal Universal false false t' t b (h ++ w) h' h w' w y z is' is e' refl q in
    absurd (never (content_same r t t' w w' (sym s.number) (sym s.content) has))
into_string {x = x} {r = r} {k = k} {a = a} {b = b} m t h w u v y z is has en holds first (string {d = d} m' t' h' w' u' v' us' is' e' has' en' holds' first' vis ev) q =
    let s = same_parts r Universal Universal false false t' t b (h ++ w) h' h w' w y z is' is e' refl q in
    let fronts : u' ≡ u = front_same t' u' u holds'.front (subst (λ n. IsStringFront n u) (sym s.number) holds.front) in
    let inner : v' ≡ v = append_cancel_left u' v' v (sym holds'.parts ∙ s.content ∙ holds.parts ∙ ap (λ l. l ++ v) (sym fronts)) in
    let begins : a + length h' + length u' ≡ a + length h + length u = (let n = ap length s.octets in let f = ap length fronts in omega (arith, n, f)) in
    let by : m' ≡ m = rules_same m' m d t' t w' w u' v' u v s.number s.content holds' holds first' first in
    record {
      visited = us';
      whole = e' ∙ ap (λ l. l ++ w') s.octets ∙ ap (λ l. h ++ l) s.content;
      visits = subst (λ l. Visits x m d (suc k) (a + length h + length u) l us') inner (subst (λ q. Visits x q d (suc k) (a + length h + length u) v' us') by (subst (λ n. Visits x m' d (suc k) n v' us') begins vis));
    }
into_string {r = r} {b = b} m t h w u v y z is has en holds first (constructed c' t' h' w' us' is' e' may vis ev) q =
    absurd (not_both r Universal c' t t' (Some (length w)) (Some (length w')) (h ++ w) b h h' w w' z y is is' refl e' (sym q))
into_string {r = r} {b = b} m t h w u v y z is has en holds first (indefinite c' t' h' w' us' is' e' may vis ev) q =
    absurd (not_both r Universal c' t t' (Some (length w)) None (h ++ w) b h h' w (w' ++ end_marker) z y is is' refl (e' ∙ append_assoc h' w' end_marker) (sym q))

-- what is left of octets that are visited, after some that were
pub record IsLeft (x : Extras) (r : Rules) (d k a : ℕ) (b w : List ℕ) : Type 0 where
  pub octets : List ℕ
  pub visited : List Visited
  pub split : w ≡ b ++ octets
  pub visits : Visits x r d k (a + length b) octets visited

no_more : {x : Extras} {r : Rules} {d k a : ℕ} {b : List ℕ} {us : List Visited} (i rest y t : List ℕ) → i ≡ b ++ rest → VisitsOne x r d k a b us → i ++ y ≡ t
    → ((length i ≤ 0) ⊎ ((z : List ℕ) × (t ≡ end_marker ++ z))) → ⊥
no_more {b = b} i rest y t e one q (inl le) = one_nonempty rest one (sym (nil_from_length i (omega (arith, le))) ∙ e)
no_more {b = b} i rest y t e one q (inr (z, m)) = one_no_marker (rest ++ y) (0 ∷ z) one (sym (q ∙ m) ∙ ap (λ l. l ++ y) e ∙ append_assoc b rest y)

joined : (i i' b b' rest rest' more : List ℕ) → i ≡ b ++ rest → i' ≡ b' ++ rest' → b ≡ b' → rest' ≡ rest ++ more → i' ≡ i ++ more
joined i i' b b' rest rest' more ei ei' eb er = ei' ∙ ap (λ l. l ++ rest') (sym eb) ∙ ap (λ l. b ++ l) er ∙ sym (append_assoc b rest more) ∙ ap (λ l. l ++ more) (sym ei)

pub visits_left : {x : Extras} {r : Rules} {d k a : ℕ} {b w : List ℕ} {vs us : List Visited} (y t : List ℕ) → Visits x r d k a b vs → Visits x r d k a w us → b ++ y ≡ w ++ t
    → ((length b ≤ length w) ⊎ ((z : List ℕ) × (t ≡ end_marker ++ z))) → IsLeft x r d k a b w
visits_left {x} {r} {d} {k} {a} {w = w} {us = us} y t none v q f =
    let e : a ≡ a + 0 = omega arith in
    record { octets = w; visited = us; split = refl; visits = subst (λ n. Visits x r d k n w us) e v }
visits_left y t (one_more {i = i} b rest us ws ei ev one more) none q f = absurd (no_more i rest y t ei one q f)
visits_left {x} {r} {d} {k} {a} {b = i} {w = i'} y t (one_more b rest us ws ei ev one more) (one_more b' rest' us' ws' ei' ev' one' more') q f =
    let o = one_same (rest ++ y) (rest' ++ t) one one' (sym (ap (λ l. l ++ y) ei ∙ append_assoc b rest y) ∙ q ∙ ap (λ l. l ++ t) ei' ∙ append_assoc b' rest' t) in
    let begins : a + length b' ≡ a + length b = (let m = ap length o.0 in omega (arith, m)) in
    let fits : (length rest ≤ length rest') ⊎ ((z : List ℕ) × (t ≡ end_marker ++ z)) =
    ⊎_elim (λ le. inl (let m = ap length o.0 in omega (arith, le, m, ap length ei, length-append b rest, ap length ei', length-append b' rest'))) (λ z. inr z) f in
    let left = visits_left y t more (subst (λ m. Visits x r d k m rest' ws') begins more') o.2 fits in
    let at : a + length b + length rest ≡ a + length i = omega (arith, ap length ei, length-append b rest) in
    record {
      octets = left.octets;
      visited = left.visited;
      split = joined i i' b b' rest rest' left.octets ei ei' o.0 left.split;
      visits = subst (λ n. Visits x r d k n left.octets left.visited) at left.visits;
    }
