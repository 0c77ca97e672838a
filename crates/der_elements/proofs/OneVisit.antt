-- Octets are visited in one way.
use Rattle.std.proofs.Common.{◌≡◌, ℕ, suc, ◌+◌, Bool, true, false, List, [], ◌∷◌, ◌++◌, length, Option, Some, None, refl, sym, ap, subst, ◌∙◌, arith, append_assoc, inl, inr}
use Rattle.std.proofs.lemmas.List.{append_cancel_left, append_cancel_right}
use Rattle.der_base.specs.declared.header.Class.{Class}
use Rattle.der_base.specs.declared.header.Class.TheVariants.{Universal}
use Rattle.der_base.specs.Octets.{identifier}
use Rattle.der_base.specs.Spelling.{end_marker}
use Rattle.der_base.proofs.Framing.Elements.{identifier_some}
use Rattle.der_base.proofs.Headers.BerHeaders.{ber_header_same}
use Rattle.der_base.proofs.Octets.Identifiers.{fronts_same}
use Rattle.der_base.specs.declared.rules.Rules.{Rules}
use Rattle.der_base.specs.declared.rules.Rules.TheVariants.{Ber, Der}
use Rattle.der_elements.proofs.CheckLaws.FirstOctets.{zero_first, constructed_first}
use Rattle.der_contents.specs.ContentRules.{IsContent}
use Rattle.der_elements.specs.Visits.{Visited, Extras, IsHeaderBy, IsStringFront, HoldsElement, IsFirstOf, Visits, VisitsOne, none, one_more, primitive, broken, string, constructed, indefinite, visited}
use Rattle.der_elements.proofs.Headers.{header_begins, length_from}
use Rattle.der_elements.proofs.VisitedElements.{string_not_zero}

length_back : (n n' : Option ℕ) → length_from n ≡ length_from n' → n ≡ n'
length_back (Some n) (Some m) e = cc
length_back (Some n) None e = absurd (cc)
length_back None (Some m) e = absurd (cc)
length_back None None e = refl

pub record SameStart (c c' : Class) (p p' : Bool) (t t' : ℕ) (n n' : Option ℕ) (h h' y y' : List ℕ) : Type 0 where
  pub class : c ≡ c'
  pub constructed : p ≡ p'
  pub number : t ≡ t'
  pub length : n ≡ n'
  pub octets : h ≡ h'
  pub rest : y ≡ y'

pub same_start : (r : Rules) (c c' : Class) (p p' : Bool) (t t' : ℕ) (n n' : Option ℕ) (h h' y y' : List ℕ) → IsHeaderBy r c p t n h → IsHeaderBy r c' p' t' n' h' → h ++ y ≡ h' ++ y' → SameStart c c' p p' t t' n n' h h' y y'
same_start r c c' p p' t t' n n' h h' y y' is is' e =
    let s = ber_header_same (h ++ y) y y' c c' p p' t t' (length_from n) (length_from n') (header_begins r (h ++ y) c p t n h y is refl) (header_begins r (h ++ y) c' p' t' n' h' y' is' e) in
    record {
      class = s.class;
      constructed = s.constructed;
      number = s.number;
      length = length_back n n' s.length;
      octets = append_cancel_right h h' y (e ∙ ap (λ l. h' ++ l) (sym s.rest));
      rest = s.rest;
    }

-- two elements with definite lengths
pub record SameParts (c c' : Class) (p p' : Bool) (t t' : ℕ) (h h' w w' y y' : List ℕ) : Type 0 where
  pub class : c ≡ c'
  pub constructed : p ≡ p'
  pub number : t ≡ t'
  pub octets : h ≡ h'
  pub content : w ≡ w'
  pub rest : y ≡ y'

in_two : (b b' h h' z z' y y' : List ℕ) → b ≡ h ++ z → b' ≡ h' ++ z' → b ++ y ≡ b' ++ y' → h ++ (z ++ y) ≡ h' ++ (z' ++ y')
in_two b b' h h' z z' y y' e e' q = sym (ap (λ l. l ++ y) e ∙ append_assoc h z y) ∙ q ∙ ap (λ l. l ++ y') e' ∙ append_assoc h' z' y'

pub same_parts : (r : Rules) (c c' : Class) (p p' : Bool) (t t' : ℕ) (b b' h h' w w' y y' : List ℕ) → IsHeaderBy r c p t (Some (length w)) h → IsHeaderBy r c' p' t' (Some (length w')) h' → b ≡ h ++ w → b' ≡ h' ++ w' → b ++ y ≡ b' ++ y'
    → SameParts c c' p p' t t' h h' w w' y y'
same_parts r c c' p p' t t' b b' h h' w w' y y' is is' e e' q =
    let s = same_start r c c' p p' t t' (Some (length w)) (Some (length w')) h h' (w ++ y) (w' ++ y') is is' (in_two b b' h h' w w' y y' e e' q) in
    let len : length w ≡ length w' = (let l = s.length in cc) in
    let f = fronts_same w w' y y' len s.rest in
    record { class = s.class; constructed = s.constructed; number = s.number; octets = s.octets; content = f.0; rest = f.1 }

pub not_both : (r : Rules) (c c' : Class) (t t' : ℕ) (n n' : Option ℕ) (b b' h h' z z' y y' : List ℕ) → IsHeaderBy r c false t n h → IsHeaderBy r c' true t' n' h' → b ≡ h ++ z → b' ≡ h' ++ z' → b ++ y ≡ b' ++ y' → ⊥
not_both r c c' t t' n n' b b' h h' z z' y y' is is' e e' q =
    let s = same_start r c c' false true t t' n n' h h' (z ++ y) (z' ++ y') is is' (in_two b b' h h' z z' y y' e e' q) in
    absurd (let p = s.constructed in cc)

-- an element has an octet, and doesn't begin as an end marker
pub header_front : (r : Rules) (c : Class) (p : Bool) (t : ℕ) (n : Option ℕ) (h : List ℕ) → IsHeaderBy r c p t n h → (s : List ℕ) × (h ≡ identifier c p t ++ s)
header_front r c p t (Some n) h is = (is.1, is.3)
header_front r c p t None h is = (128 ∷ [], is.3)

front_at : (r : Rules) (c : Class) (p : Bool) (t : ℕ) (n : Option ℕ) (b h z y i : List ℕ) → IsHeaderBy r c p t n h → b ≡ h ++ z → i ≡ b ++ y → (s : List ℕ) × (i ≡ identifier c p t ++ s)
front_at r c p t n b h z y i is e q =
    let f = header_front r c p t n h is in
    (f.0 ++ (z ++ y), q ∙ ap (λ l. l ++ y) e ∙ append_assoc h z y ∙ ap (λ l. l ++ (z ++ y)) f.1 ∙ append_assoc (identifier c p t) f.0 (z ++ y))

pub one_front : {x : Extras} {r : Rules} {d k a : ℕ} {b : List ℕ} {us : List Visited} (y i : List ℕ) → VisitsOne x r d k a b us → i ≡ b ++ y
    → (c : Class) × (p : Bool) × (t : ℕ) × (s : List ℕ) × (i ≡ identifier c p t ++ s) × (p ≡ false → c ≡ Universal → t ≡ 0 → ⊥)
one_front {r = r} {b = b} y i (primitive c t h w is e has out ev) q = let f = front_at r c false t (Some (length w)) b h w y i is e q in (c, false, t, f.0, f.1, λ p ec. (has ec).0)
one_front {r = r} {b = b} y i (broken t h w is e keeps er it never ev) q = let f = front_at r Universal false t (Some (length w)) b h w y i is e q in (Universal, false, t, f.0, f.1, λ p c. it)
one_front {r = r} {b = b} y i (string m t h w u v us is e has en holds first vis ev) q = let f = front_at r Universal false t (Some (length w)) b h w y i is e q in (Universal, false, t, f.0, f.1, λ p c. string_not_zero t u holds.front)
one_front {r = r} {b = b} y i (constructed c t h w us is e may vis ev) q = let f = front_at r c true t (Some (length w)) b h w y i is e q in (c, true, t, f.0, f.1, λ p. absurd (cc))
one_front {r = r} {b = b} y i (indefinite c t h w us is e may vis ev) q = let f = front_at r c true t None b h (w ++ end_marker) y i is (e ∙ append_assoc h w end_marker) q in (c, true, t, f.0, f.1, λ p. absurd (cc))

pub one_nonempty : {x : Extras} {r : Rules} {d k a : ℕ} {b : List ℕ} {us : List Visited} (y : List ℕ) → VisitsOne x r d k a b us → [] ≡ b ++ y → ⊥
one_nonempty y one q = let (c, p, t, s, e, n) = one_front y [] one q in identifier_some c p t s e

pub no_zero : (i : List ℕ) (c : Class) (p : Bool) (t : ℕ) (s more : List ℕ) → i ≡ 0 ∷ more → i ≡ identifier c p t ++ s → (p ≡ false → c ≡ Universal → t ≡ 0 → ⊥) → ⊥
no_zero i c false t s more z e n = let f = zero_first (0 ∷ more) c t s refl (sym z ∙ e) in n refl f.0 f.1
no_zero i c true t s more z e n = constructed_first (0 ∷ more) c t s refl (sym z ∙ e)

pub one_no_marker : {x : Extras} {r : Rules} {d k a : ℕ} {b : List ℕ} {us : List Visited} (y more : List ℕ) → VisitsOne x r d k a b us → 0 ∷ more ≡ b ++ y → ⊥
one_no_marker y more one q = let (c, p, t, s, e, n) = one_front y (0 ∷ more) one q in no_zero (0 ∷ more) c p t s more refl e n

pub front_same : (t : ℕ) (u u' : List ℕ) → IsStringFront t u → IsStringFront t u' → u ≡ u'
front_same t u u' (inl z) (inl z') = z.1 ∙ sym z'.1
front_same t u u' (inl z) (inr z') = let e : t ≡ 4 = z.0 in let e' : t ≡ 3 = z'.0 in absurd (omega (arith, e, e'))
front_same t u u' (inr z) (inl z') = let e : t ≡ 3 = z.0 in let e' : t ≡ 4 = z'.0 in absurd (omega (arith, e, e'))
front_same t u u' (inr z) (inr z') = z.1 ∙ sym z'.1

whole_same : (b b' h h' w w' : List ℕ) → b ≡ h ++ w → b' ≡ h' ++ w' → h ≡ h' → w ≡ w' → b ≡ b'
whole_same b b' h h' w w' e e' p q = e ∙ ap (λ l. l ++ w) p ∙ ap (λ l. h' ++ l) q ∙ sym e'

pub content_same : (r : Rules) (t t' : ℕ) (w w' : List ℕ) → t ≡ t' → w ≡ w' → IsContent r t w → IsContent r t' w'
content_same r t t' w w' et ew h = subst (λ l. IsContent r t' l) ew (subst (λ n. IsContent r n w) et h)

plain_same : (a k : ℕ) (c c' : Class) (p : Bool) (t t' : ℕ) (h h' : List ℕ) (n n' : Option ℕ) → c ≡ c' → t ≡ t' → h ≡ h' → n ≡ n' → visited a k c p t h n ≡ visited a k c' p t' h' n'
plain_same a k c c' p t t' h h' n n' e1 e2 e3 e4 =
    ap (λ z. visited a k z p t h n) e1 ∙ ap (λ z. visited a k c' p z h n) e2 ∙ ap (λ z. visited a k c' p t' z n) e3 ∙ ap (λ z. visited a k c' p t' h' z) e4

-- a string holds an element by one of the rules
pub rules_same : (m m' : Rules) (d t t' : ℕ) (w w' u v u' v' : List ℕ) → t ≡ t' → w ≡ w' → HoldsElement m d t w u v → HoldsElement m' d t' w' u' v' → IsFirstOf m d t w → IsFirstOf m' d t' w' → m ≡ m'
rules_same Ber Ber d t t' w w' u v u' v' et ew h h' f f' = refl
rules_same Der Der d t t' w w' u v u' v' et ew h h' f f' = refl
rules_same Ber Der d t t' w w' u v u' v' et ew h h' f f' = absurd (f refl u' v' (subst (λ l. HoldsElement Der d t l u' v') (sym ew) (subst (λ n. HoldsElement Der d n w' u' v') (sym et) h')))
rules_same Der Ber d t t' w w' u v u' v' et ew h h' f f' = absurd (f' refl u v (subst (λ l. HoldsElement Der d t' l u v) ew (subst (λ n. HoldsElement Der d n w u v) et h)))

mutual
  pub one_same : {x : Extras} {r : Rules} {d k a : ℕ} {b b' : List ℕ} {us us' : List Visited} (y y' : List ℕ) → VisitsOne x r d k a b us → VisitsOne x r d k a b' us' → b ++ y ≡ b' ++ y' → (b ≡ b') × (us ≡ us') × (y ≡ y')
  -- primitive
  one_same {r = r} {k = k} {a = a} {b = b} {b' = b'} y y' (primitive c t h w is e has out ev) (primitive c' t' h' w' is' e' has' out' ev') q =
      let s = same_parts r c c' false false t t' b b' h h' w w' y y' is is' e e' q in
      (whole_same b b' h h' w w' e e' s.octets s.content, ev ∙ ap (λ v. v ∷ []) (plain_same a k c c' false t t' h h' (Some (length w)) (Some (length w')) s.class s.number s.octets (ap (λ l. Some (length l)) s.content)) ∙ sym ev', s.rest)
  one_same {r = r} {b = b} {b' = b'} y y' (primitive c t h w is e has out ev) (broken t' h' w' is' e' keeps er it never ev') q =
      let s = same_parts r c Universal false false t t' b b' h h' w w' y y' is is' e e' q in
      absurd (never (content_same r t t' w w' s.number s.content (has s.class).1))
  one_same {x = x} {r = r} {b = b} {b' = b'} y y' (primitive {d = d} c t h w is e has out ev) (string m' t' h' w' u v vs is' e' has' en holds first vis ev') q =
      let s = same_parts r c Universal false false t t' b b' h h' w w' y y' is is' e e' q in
      absurd (out en s.class m' u v (subst (λ l. HoldsElement m' d t l u v) (sym s.content) (subst (λ n. HoldsElement m' d n w' u v) (sym s.number) holds)))
  one_same {r = r} {b = b} {b' = b'} y y' (primitive c t h w is e has out ev) (constructed c' t' h' w' vs is' e' may vis ev') q = absurd (not_both r c c' t t' (Some (length w)) (Some (length w')) b b' h h' w w' y y' is is' e e' q)
  one_same {r = r} {b = b} {b' = b'} y y' (primitive c t h w is e has out ev) (indefinite c' t' h' w' vs is' e' may vis ev') q =
      absurd (not_both r c c' t t' (Some (length w)) None b b' h h' w (w' ++ end_marker) y y' is is' e (e' ∙ append_assoc h' w' end_marker) q)
  -- a value that breaks its type
  one_same {r = r} {b = b} {b' = b'} y y' (broken t h w is e keeps er it never ev) (primitive c' t' h' w' is' e' has' out' ev') q =
      let s = same_parts r Universal c' false false t t' b b' h h' w w' y y' is is' e e' q in
      absurd (never (content_same r t' t w' w (sym s.number) (sym s.content) (has' (sym s.class)).1))
  one_same {r = r} {k = k} {a = a} {b = b} {b' = b'} y y' (broken t h w is e keeps er it never ev) (broken t' h' w' is' e' keeps' er' it' never' ev') q =
      let s = same_parts r Universal Universal false false t t' b b' h h' w w' y y' is is' e e' q in
      let same = plain_same a k Universal Universal false t t' h h' (Some (length w)) (Some (length w')) s.class s.number s.octets (ap (λ l. Some (length l)) s.content) in
      (whole_same b b' h h' w w' e e' s.octets s.content, ev ∙ ap (λ (v : Visited). record v { breaks_its_type = true } ∷ []) same ∙ sym ev', s.rest)
  one_same {r = r} {b = b} {b' = b'} y y' (broken t h w is e keeps er it never ev) (string m' t' h' w' u v vs is' e' has' en holds first vis ev') q =
      let s = same_parts r Universal Universal false false t t' b b' h h' w w' y y' is is' e e' q in
      absurd (never (content_same r t' t w' w (sym s.number) (sym s.content) has'))
  one_same {r = r} {b = b} {b' = b'} y y' (broken t h w is e keeps er it never ev) (constructed c' t' h' w' vs is' e' may vis ev') q = absurd (not_both r Universal c' t t' (Some (length w)) (Some (length w')) b b' h h' w w' y y' is is' e e' q)
  one_same {r = r} {b = b} {b' = b'} y y' (broken t h w is e keeps er it never ev) (indefinite c' t' h' w' vs is' e' may vis ev') q =
      absurd (not_both r Universal c' t t' (Some (length w)) None b b' h h' w (w' ++ end_marker) y y' is is' e (e' ∙ append_assoc h' w' end_marker) q)
  -- a string that is entered
  one_same {r = r} {b = b} {b' = b'} y y' (string {d = d} m t h w u v us is e has en holds first vis ev) (primitive c' t' h' w' is' e' has' out' ev') q =
      let s = same_parts r Universal c' false false t t' b b' h h' w w' y y' is is' e e' q in
      absurd (out' en (sym s.class) m u v (subst (λ l. HoldsElement m d t' l u v) s.content (subst (λ n. HoldsElement m d n w u v) s.number holds)))
  one_same {r = r} {b = b} {b' = b'} y y' (string m t h w u v us is e has en holds first vis ev) (broken t' h' w' is' e' keeps er it never ev') q =
      let s = same_parts r Universal Universal false false t t' b b' h h' w w' y y' is is' e e' q in
      absurd (never (content_same r t t' w w' s.number s.content has))
  one_same {x = x} {r = r} {k = k} {a = a} {b = b} {b' = b'} y y' (string {d = d} m t h w u v us is e has en holds first vis ev) (string m' t' h' w' u' v' us' is' e' has' en' holds' first' vis' ev') q =
      let s = same_parts r Universal Universal false false t t' b b' h h' w w' y y' is is' e e' q in
      let fronts : u ≡ u' = front_same t u u' holds.front (subst (λ m. IsStringFront m u') (sym s.number) holds'.front) in
      let inner : v ≡ v' = append_cancel_left u v v' (sym holds.parts ∙ s.content ∙ holds'.parts ∙ ap (λ l. l ++ v') (sym fronts)) in
      let begins : a + length h' + length u' ≡ a + length h + length u = (let m = ap length s.octets in let f = ap length fronts in omega (arith, m, f)) in
      let by : m ≡ m' = rules_same m m' d t t' w w' u v u' v' s.number s.content holds holds' first first' in
      let more : us ≡ us' = visits_same vis (subst (λ q. Visits x q d (suc k) (a + length h + length u) v' us') (sym by) (subst (λ n. Visits x m' d (suc k) n v' us') begins vis')) inner in
      let same = plain_same a k Universal Universal false t t' h h' (Some (length w)) (Some (length w')) s.class s.number s.octets (ap (λ l. Some (length l)) s.content) in
      let marked : Rules → Visited = λ q. record (visited a k Universal false t' h' (Some (length w'))) { holds = Some q } in
      (whole_same b b' h h' w w' e e' s.octets s.content, ev ∙ ap (λ (z : Visited). record z { holds = Some m } ∷ us) same ∙ ap (λ q. marked q ∷ us) by ∙ ap (λ l. marked m' ∷ l) more ∙ sym ev', s.rest)
  one_same {r = r} {b = b} {b' = b'} y y' (string m t h w u v us is e has en holds first vis ev) (constructed c' t' h' w' vs is' e' may vis' ev') q = absurd (not_both r Universal c' t t' (Some (length w)) (Some (length w')) b b' h h' w w' y y' is is' e e' q)
  one_same {r = r} {b = b} {b' = b'} y y' (string m t h w u v us is e has en holds first vis ev) (indefinite c' t' h' w' vs is' e' may vis' ev') q =
      absurd (not_both r Universal c' t t' (Some (length w)) None b b' h h' w (w' ++ end_marker) y y' is is' e (e' ∙ append_assoc h' w' end_marker) q)
  -- constructed
  one_same {r = r} {b = b} {b' = b'} y y' (constructed c t h w us is e may vis ev) (primitive c' t' h' w' is' e' has' out' ev') q = absurd (not_both r c' c t' t (Some (length w')) (Some (length w)) b' b h' h w' w y' y is' is e' e (sym q))
  one_same {r = r} {b = b} {b' = b'} y y' (constructed c t h w us is e may vis ev) (broken t' h' w' is' e' keeps er it never ev') q = absurd (not_both r Universal c t' t (Some (length w')) (Some (length w)) b' b h' h w' w y' y is' is e' e (sym q))
  one_same {r = r} {b = b} {b' = b'} y y' (constructed c t h w us is e may vis ev) (string m' t' h' w' u v vs is' e' has' en holds first vis' ev') q = absurd (not_both r Universal c t' t (Some (length w')) (Some (length w)) b' b h' h w' w y' y is' is e' e (sym q))
  one_same {x = x} {r = r} {k = k} {a = a} {b = b} {b' = b'} y y' (constructed {d = d} c t h w us is e may vis ev) (constructed c' t' h' w' us' is' e' may' vis' ev') q =
      let s = same_parts r c c' true true t t' b b' h h' w w' y y' is is' e e' q in
      let begins : a + length h' ≡ a + length h = (let m = ap length s.octets in omega (arith, m)) in
      let more : us ≡ us' = visits_same vis (subst (λ m. Visits x r d (suc k) m w' us') begins vis') s.content in
      let same = plain_same a k c c' true t t' h h' (Some (length w)) (Some (length w')) s.class s.number s.octets (ap (λ l. Some (length l)) s.content) in
      (whole_same b b' h h' w w' e e' s.octets s.content, ev ∙ ap (λ m. m ∷ us) same ∙ ap (λ l. visited a k c' true t' h' (Some (length w')) ∷ l) more ∙ sym ev', s.rest)
  one_same {r = r} {b = b} {b' = b'} y y' (constructed c t h w us is e may vis ev) (indefinite c' t' h' w' us' is' e' may' vis' ev') q =
      let s = same_start r c c' true true t t' (Some (length w)) None h h' (w ++ y) (w' ++ end_marker ++ y') is is' (in_two b b' h h' w (w' ++ end_marker) y y' e (e' ∙ append_assoc h' w' end_marker) q) in
      absurd (let l = s.length in cc)
  -- of indefinite length
  one_same {r = r} {b = b} {b' = b'} y y' (indefinite c t h w us is e may vis ev) (primitive c' t' h' w' is' e' has' out' ev') q =
      absurd (not_both r c' c t' t (Some (length w')) None b' b h' h w' (w ++ end_marker) y' y is' is e' (e ∙ append_assoc h w end_marker) (sym q))
  one_same {r = r} {b = b} {b' = b'} y y' (indefinite c t h w us is e may vis ev) (broken t' h' w' is' e' keeps er it never ev') q =
      absurd (not_both r Universal c t' t (Some (length w')) None b' b h' h w' (w ++ end_marker) y' y is' is e' (e ∙ append_assoc h w end_marker) (sym q))
  one_same {r = r} {b = b} {b' = b'} y y' (indefinite c t h w us is e may vis ev) (string m' t' h' w' u v vs is' e' has' en holds first vis' ev') q =
      absurd (not_both r Universal c t' t (Some (length w')) None b' b h' h w' (w ++ end_marker) y' y is' is e' (e ∙ append_assoc h w end_marker) (sym q))
  one_same {r = r} {b = b} {b' = b'} y y' (indefinite c t h w us is e may vis ev) (constructed c' t' h' w' us' is' e' may' vis' ev') q =
      let s = same_start r c c' true true t t' None (Some (length w')) h h' (w ++ end_marker ++ y) (w' ++ y') is is' (in_two b b' h h' (w ++ end_marker) w' y y' (e ∙ append_assoc h w end_marker) e' q) in
      absurd (let l = s.length in cc)
  one_same {x = x} {r = r} {k = k} {a = a} {b = b} {b' = b'} y y' (indefinite {d = d} c t h w us is e may vis ev) (indefinite c' t' h' w' us' is' e' may' vis' ev') q =
      let s = same_start r c c' true true t t' None None h h' (w ++ end_marker ++ y) (w' ++ end_marker ++ y') is is'
      (in_two b b' h h' (w ++ end_marker) (w' ++ end_marker) y y' (e ∙ append_assoc h w end_marker) (e' ∙ append_assoc h' w' end_marker) q) in
      let begins : a + length h' ≡ a + length h = (let m = ap length s.octets in omega (arith, m)) in
      let o = open_same y y' vis (subst (λ m. Visits x r d (suc k) m w' us') begins vis') (sym (append_assoc w end_marker y) ∙ s.rest ∙ append_assoc w' end_marker y') in
      let same = plain_same a k c c' true t t' h h' None None s.class s.number s.octets refl in
      (e ∙ ap (λ l. l ++ w ++ end_marker) s.octets ∙ ap (λ l. h' ++ l ++ end_marker) o.0 ∙ sym e', ev ∙ ap (λ m. m ∷ us) same ∙ ap (λ l. visited a k c' true t' h' None ∷ l) o.1 ∙ sym ev', o.2)

  pub visits_same : {x : Extras} {r : Rules} {d k a : ℕ} {i i' : List ℕ} {vs vs' : List Visited} → Visits x r d k a i vs → Visits x r d k a i' vs' → i ≡ i' → vs ≡ vs'
  visits_same none none q = refl
  visits_same none (one_more b rest us ws ei ev one more) q = absurd (one_nonempty rest one (q ∙ ei))
  visits_same (one_more b rest us ws ei ev one more) none q = absurd (one_nonempty rest one (sym q ∙ ei))
  visits_same {x = x} {r = r} {d = d} {k = k} {a = a} (one_more b rest us ws ei ev one more) (one_more b' rest' us' ws' ei' ev' one' more') q =
      let o = one_same rest rest' one one' (sym ei ∙ q ∙ ei') in
      let begins : a + length b' ≡ a + length b = (let m = ap length o.0 in omega (arith, m)) in
      let tail : ws ≡ ws' = visits_same more (subst (λ m. Visits x r d k m rest' ws') begins more') o.2 in
      ev ∙ ap (λ l. l ++ ws) o.1 ∙ ap (λ l. us' ++ l) tail ∙ sym ev'

  open_same : {x : Extras} {r : Rules} {d k a : ℕ} {w w' : List ℕ} {us us' : List Visited} (y y' : List ℕ) → Visits x r d k a w us → Visits x r d k a w' us' → w ++ (end_marker ++ y) ≡ w' ++ (end_marker ++ y')
      → (w ≡ w') × (us ≡ us') × (y ≡ y')
  open_same y y' none none q = (refl, refl, append_cancel_left end_marker y y' q)
  open_same y y' none (one_more b rest us ws ei ev one more) q = absurd (one_no_marker (rest ++ (end_marker ++ y')) (0 ∷ y) one (q ∙ ap (λ l. l ++ (end_marker ++ y')) ei ∙ append_assoc b rest (end_marker ++ y')))
  open_same y y' (one_more b rest us ws ei ev one more) none q = absurd (one_no_marker (rest ++ (end_marker ++ y)) (0 ∷ y') one (sym q ∙ ap (λ l. l ++ (end_marker ++ y)) ei ∙ append_assoc b rest (end_marker ++ y)))
  open_same {x = x} {r = r} {d = d} {k = k} {a = a} y y' (one_more b rest us ws ei ev one more) (one_more b' rest' us' ws' ei' ev' one' more') q =
      let o =
      one_same (rest ++ (end_marker ++ y)) (rest' ++ (end_marker ++ y')) one one'
      (sym (ap (λ l. l ++ (end_marker ++ y)) ei ∙ append_assoc b rest (end_marker ++ y)) ∙ q ∙ ap (λ l. l ++ (end_marker ++ y')) ei' ∙ append_assoc b' rest' (end_marker ++ y')) in
      let begins : a + length b' ≡ a + length b = (let m = ap length o.0 in omega (arith, m)) in
      let p = open_same y y' more (subst (λ m. Visits x r d k m rest' ws') begins more') o.2 in
      (ei ∙ ap (λ l. l ++ rest) o.0 ∙ ap (λ l. b' ++ l) p.0 ∙ sym ei', ev ∙ ap (λ l. l ++ ws) o.1 ∙ ap (λ l. us' ++ l) p.1 ∙ sym ev', p.2)
