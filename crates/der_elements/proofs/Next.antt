-- A walk passes the element that it read.
use Rattle.std.proofs.Common.{◌≡◌, ℕ, suc, ◌+◌, ◌-◌, ◌^◌, ◌<◌, ◌≤◌, Bool, true, false, not, if◌then◌else◌, min, List, [], ◌∷◌, ◌++◌, length, drop, Option, Some, None, refl, sym, ap, subst, ◌∙◌, arith, append_assoc, length-append, inl, inr, ⊎_elim}
use Rattle.std.proofs.lemmas.List.{append_cancel_left}
use Rattle.der_base.specs.declared.header.Class.TheVariants.{Universal}
use Rattle.der_base.specs.Spelling.{end_marker}
use Rattle.der_base.specs.declared.rules.Rules.{Rules}
use Rattle.der_elements.specs.Check.Elements.{IsElement, MayBeConstructed}
use Rattle.der_contents.specs.ContentRules.{IsContent}
use Rattle.der_elements.specs.declared.content.Open.{Open}
use Rattle.der_elements.specs.declared.element.Element.{Element}
use Rattle.der_elements.specs.declared.walk.Walk.{Walk}
use Rattle.der_elements.specs.Visits.{Visited, Extras, IsHeaderBy, HoldsElement, IsFirstOf, Visits, VisitsOne, string, constructed, indefinite, visited}
use Rattle.std.specs.Prelude.{IfSome, is_some, unwrap_or}
use Rattle.der_elements.specs.declared.content.End.{End}
use Rattle.der_elements.specs.Ends.{end_from, ends_at_marker, between, end_in, end_of, here_of, limit_of, EndsWithin, IsEndOf, IsWithin}
use Rattle.der_elements.specs.Faults.{IsStep}
use Rattle.der_elements.specs.Walked.{visited_of, index_in, BeginsAt, EndsAt, IsOpen, HasWalked, HasVisited}
use Rattle.der_elements.specs.Reading.{IsRead, whole, list, Passes, GoesInto, GoesOn, count_one, front_of, rules_inside, string_front_of}
use Rattle.der_elements.specs.Reading.{string as read_string}
use Rattle.der_elements.proofs.Between.{between_drop, between_front, between_more, drop_front, front_between, front_within, length-between}
use Rattle.der_elements.proofs.Counts.{index_around, index_few, index_inside, index_same, split_last}
use Rattle.der_elements.proofs.Ends.{limit_least, limit_size, limit_within}
use Rattle.der_elements.proofs.Opening.{header_no_marker, header_some, into_definite, into_indefinite, into_string}
use Rattle.der_elements.proofs.VisitedElements.{string_not_zero}
use Rattle.der_elements.proofs.Steps.{advance, go_into, open_depth, within}

-- a list is opened whose header is h
module _ (i : List ℕ) (r : Rules) (e : Element) (h : List ℕ) (l : Option ℕ) (el : e.length ≡ l) (eh : e.header ≡ length h) (ep : e.constructed ≡ true) (ed : e.holds ≡ None) (eo : e.breaks_its_type ≡ false)
    (is : IsHeaderBy r e.class true e.number l h) (there : drop e.offset i ≡ h ++ drop (e.offset + e.header) i) where
  list_header : between i e.offset (e.offset + e.header) ≡ h
  list_header =
      let q : e.offset + e.header ≡ e.offset + length h = omega (arith, eh) in
      ap (λ m. between i e.offset m) q ∙ between_front i e.offset h (drop (e.offset + e.header) i) there

  list_begins : BeginsAt i r e.depth e.offset (visited_of e)
  list_begins = record {
    octets = h;
    rest = drop (e.offset + e.header) i;
    split = there;
    is = subst (λ q. IsHeaderBy r e.class q e.number e.length h) (sym ep) (subst (λ q. IsHeaderBy r e.class true e.number q h) (sym el) is);
    header = eh;
    offset = refl;
    depth = refl;
    holds = ap is_some ed ∙ sym (ap (λ b. not b) ep);
    whole = eo;
  }

  list_no_marker : (z : List ℕ) → drop e.offset i ≡ end_marker ++ z → ⊥
  list_no_marker z q = header_no_marker r e.class true e.number l h (drop (e.offset + e.header) i) z is (λ t. absurd (cc)) (sym there ∙ q)

-- a list that is opened
open_list : (x : Extras) (r : Rules) (i : List ℕ) (d : ℕ) (e : Element) (h : List ℕ) (l end : Option ℕ) → e.length ≡ l → e.header ≡ length h → e.constructed ≡ true → e.holds ≡ None → e.breaks_its_type ≡ false
    → IsHeaderBy r e.class true e.number l h → MayBeConstructed r e.class e.number → drop e.offset i ≡ h ++ drop (e.offset + e.header) i
    → IsOpen x i r d e.depth e.offset (e.offset + e.header) r (end_from (e.offset + e.header) end l) (ends_at_marker l) (visited_of e)
open_list x r i d e h (Some n) end el eh ep ed eo is may there = record {
  closes = closes;
  opens = opens;
  header = list_begins i r e h (Some n) el eh ep ed eo is there;
  list = λ _. (may, refl, refl);
  string = λ q. absurd (cc);
  begins = omega (arith, eh, header_some r e.class true e.number (Some n) h is);
  no_marker = list_no_marker i r e h (Some n) el eh ep ed eo is there;
}
  where
    p : ℕ
    p = e.offset + e.header

    opens : (b y : List ℕ) (us : List Visited) → drop e.offset i ≡ b ++ y → VisitsOne x r (suc d) e.depth e.offset b us
        → (w z : List ℕ) × (ws : List Visited) × (drop p i ≡ w ++ z) × Visits x r d (suc e.depth) p w ws × EndsAt i (Some (p + n)) false (p + length w) (e.offset + length b)
    opens b y us q one =
        let g = into_definite e.class e.number n h y (drop p i) is one (sym q ∙ there) in
        let first : e.offset + length h ≡ p = omega (arith, eh) in
        let end : p + n ≡ p + length g.content = omega (arith, g.size) in
        (g.content, g.rest, g.visited, g.split, subst (λ m. Visits x r d (suc e.depth) m g.content g.visited) first g.visits, inl (refl, ap Some end, omega (arith, g.whole, g.size, eh)))

    closes : (at after : ℕ) (us : List Visited) → EndsAt i (Some (p + n)) false at after → p ≤ at → after ≤ length i → Visits x r d (suc e.depth) p (between i p at) us
        → VisitsOne x r (suc d) e.depth e.offset (between i e.offset after) (visited_of e ∷ us)
    closes at after us (inr (m, ea, eb)) hp ha v = absurd (cc)
    closes at after us (inl (m, ea, eb)) hp ha v =
        let w = between i p at in
        let ee : p + n ≡ at = (cc) in
        let len : length w ≡ n = omega (arith, ee, length-between i p at) in
        let all : between i e.offset after ≡ h ++ w = ap (λ q. between i e.offset q) eb ∙ sym (between_more i e.offset p at (omega arith) hp) ∙ ap (λ l. l ++ w) (list_header i r e h (Some n) el eh ep ed eo is there) in
        let begins : p ≡ e.offset + length h = omega (arith, eh) in
        constructed e.class e.number h w us (subst (λ q. IsHeaderBy r e.class true e.number (Some q) h) (sym len) is) all may (subst (λ q. Visits x r d (suc e.depth) q w us) begins v)
        (ap (λ q. q ∷ us) (same (Some (length w)) (el ∙ ap Some (sym len))))
      where
        same : (l : Option ℕ) → e.length ≡ l → visited_of e ≡ visited e.offset e.depth e.class true e.number h l
        same l el = cc
open_list x r i d e h None end el eh ep ed eo is may there = record {
  closes = closes;
  opens = opens;
  header = list_begins i r e h None el eh ep ed eo is there;
  list = λ _. (may, refl, refl);
  string = λ q. absurd (cc);
  begins = omega (arith, eh, header_some r e.class true e.number None h is);
  no_marker = list_no_marker i r e h None el eh ep ed eo is there;
}
  where
    p : ℕ
    p = e.offset + e.header

    opens : (b y : List ℕ) (us : List Visited) → drop e.offset i ≡ b ++ y → VisitsOne x r (suc d) e.depth e.offset b us
        → (w z : List ℕ) × (ws : List Visited) × (drop p i ≡ w ++ z) × Visits x r d (suc e.depth) p w ws × EndsAt i end true (p + length w) (e.offset + length b)
    opens b y us q one =
        let g = into_indefinite e.class e.number h y (drop p i) is one (sym q ∙ there) in
        let first : e.offset + length h ≡ p = omega (arith, eh) in
        let last : e.offset + length b ≡ p + length g.content + 2 = omega (arith, g.whole, eh) in
        let after = drop_front i p g.content (end_marker ++ g.rest) g.split in
        let marker : between i (p + length g.content) (e.offset + length b) ≡ end_marker = ap (λ m. between i (p + length g.content) m) last ∙ between_front i (p + length g.content) end_marker g.rest after in
        (g.content, end_marker ++ g.rest, g.visited, g.split, subst (λ m. Visits x r d (suc e.depth) m g.content g.visited) first g.visits, inr (refl, last, marker))

    closes : (at after : ℕ) (us : List Visited) → EndsAt i end true at after → p ≤ at → after ≤ length i → Visits x r d (suc e.depth) p (between i p at) us
        → VisitsOne x r (suc d) e.depth e.offset (between i e.offset after) (visited_of e ∷ us)
    closes at after us (inl (m, ea, eb)) hp ha v = absurd (cc)
    closes at after us (inr (m, ea, eb)) hp ha v =
        let w = between i p at in
        let all : between i e.offset after ≡ h ++ w ++ end_marker =
        sym (between_more i e.offset at after (omega arith) (omega (arith, ea))) ∙ ap (λ l. between i e.offset at ++ l) eb
        ∙ ap (λ l. l ++ end_marker) (sym (between_more i e.offset p at (omega arith) hp) ∙ ap (λ l. l ++ w) (list_header i r e h None el eh ep ed eo is there)) in
        let begins : p ≡ e.offset + length h = omega (arith, eh) in
        indefinite e.class e.number h w us is all may (subst (λ q. Visits x r d (suc e.depth) q w us) begins v) (ap (λ q. q ∷ us) same)
      where
        same : visited_of e ≡ visited e.offset e.depth e.class true e.number h None
        same = cc

-- a string that is opened
open_string : (x : Extras) (r s : Rules) (i : List ℕ) (d : ℕ) (e : Element) (h w u v : List ℕ) (first end : ℕ) → e.header ≡ length h → e.length ≡ Some (length w) → e.constructed ≡ false → e.holds ≡ Some s
    → e.breaks_its_type ≡ false → e.class ≡ Universal → IsHeaderBy r Universal false e.number (Some (length w)) h → IsContent r e.number w → x.enters_strings ≡ true
    → HoldsElement s d e.number w u v → IsFirstOf s d e.number w → drop e.offset i ≡ (h ++ w) ++ drop end i → end ≡ e.offset + length (h ++ w) → end ≤ length i → first ≡ e.offset + length h + length u
    → IsOpen x i r d e.depth e.offset first s (Some end) false (visited_of e)
open_string x r s i d e h w u v first end eh el ep ed eo ec is content en holds only there ee hl ef = record {
  closes = closes;
  opens = opens;
  header = header_is;
  list = λ q. absurd (cc);
  string = λ _. (en, end, refl, refl, hl, subst (λ l. IsElement s d l) (sym inner) holds.element);
  begins = omega (arith, ef, header_some r Universal false e.number (Some (length w)) h is);
  no_marker = no_marker;
}
  where
    total : length (h ++ w) ≡ length h + (length u + length v)
    total = omega (arith, length-append h w, ap length holds.parts, length-append u v)

    here : between i e.offset end ≡ h ++ w
    here = ap (λ m. between i e.offset m) ee ∙ between_front i e.offset (h ++ w) (drop end i) there

    header_is : BeginsAt i r e.depth e.offset (visited_of e)
    header_is =
        let is1 = subst (λ q. IsHeaderBy r Universal false e.number q h) (sym el) is in
        let is2 = subst (λ q. IsHeaderBy r q false e.number e.length h) (sym ec) is1 in
        record {
          octets = h;
          rest = w ++ drop end i;
          split = there ∙ append_assoc h w (drop end i);
          is = subst (λ q. IsHeaderBy r e.class q e.number e.length h) (sym ep) is2;
          header = eh;
          offset = refl;
          depth = refl;
          holds = ap is_some ed ∙ sym (ap (λ b. not b) ep);
          whole = eo;
        }

    no_marker : (z : List ℕ) → drop e.offset i ≡ end_marker ++ z → ⊥
    no_marker z q =
        header_no_marker r Universal false e.number (Some (length w)) h (w ++ drop end i) z is (λ t c. string_not_zero e.number u holds.front) (sym (there ∙ append_assoc h w (drop end i)) ∙ q)

    rest : drop first i ≡ v ++ drop end i
    rest =
        let q : first ≡ e.offset + length (h ++ u) = omega (arith, ef, length-append h u) in
        let parts : (h ++ w) ++ drop end i ≡ (h ++ u) ++ (v ++ drop end i) =
        ap (λ l. (h ++ l) ++ drop end i) holds.parts ∙ ap (λ l. l ++ drop end i) (sym (append_assoc h u v)) ∙ append_assoc (h ++ u) v (drop end i) in
        ap (λ n. drop n i) q ∙ drop_front i e.offset (h ++ u) (v ++ drop end i) (there ∙ parts)

    opens : (b z : List ℕ) (us : List Visited) → drop e.offset i ≡ b ++ z → VisitsOne x r (suc d) e.depth e.offset b us
        → (w1 z1 : List ℕ) × (ws : List Visited) × (drop first i ≡ w1 ++ z1) × Visits x s d (suc e.depth) first w1 ws × EndsAt i (Some end) false (first + length w1) (e.offset + length b)
    opens b z us q one =
        let g = into_string s e.number h w u v z (drop end i) is content en holds only one (sym q ∙ there) in
        let last : end ≡ first + length v = omega (arith, ee, ef, total) in
        (v, drop end i, g.visited, rest, subst (λ m. Visits x s d (suc e.depth) m v g.visited) (sym ef) g.visits, inl (refl, ap Some last, omega (arith, last, ee, ap length g.whole)))

    same : visited_of e ≡ record (visited e.offset e.depth Universal false e.number h (Some (length w))) { holds = Some s }
    same = cc

    front : between i e.offset first ≡ h ++ u
    front =
        let q : first ≡ e.offset + length (h ++ u) = omega (arith, ef, length-append h u) in
        ap (λ n. between i e.offset n) q ∙ front_between i e.offset end (h ++ u) v (here ∙ ap (λ l. h ++ l) holds.parts ∙ sym (append_assoc h u v))

    inner : between i first end ≡ v
    inner =
        let split : (h ++ u) ++ between i first end ≡ (h ++ u) ++ v =
        ap (λ l. l ++ between i first end) (sym front) ∙ between_more i e.offset first end (omega arith) (omega (arith, total)) ∙ here ∙ ap (λ l. h ++ l) holds.parts ∙ sym (append_assoc h u v) in
        append_cancel_left (h ++ u) (between i first end) v split

    closes : (at after : ℕ) (us : List Visited) → EndsAt i (Some end) false at after → first ≤ at → after ≤ length i → Visits x s d (suc e.depth) first (between i first at) us
        → VisitsOne x r (suc d) e.depth e.offset (between i e.offset after) (visited_of e ∷ us)
    closes at after us (inr (m, ea, eb)) hp ha vis = absurd (cc)
    closes at after us (inl (m, es, eb)) hp ha vis =
        let ea : at ≡ end = (cc) in
        let all : between i e.offset after ≡ h ++ w = ap (λ n. between i e.offset n) (eb ∙ ea) ∙ here in
        string s e.number h w u v us is all content en holds only
        (subst (λ n. Visits x s d (suc e.depth) n v us) ef (subst (λ l. Visits x s d (suc e.depth) first l us) (ap (λ n. between i first n) ea ∙ inner) vis))
        (ap (λ q. q ∷ us) same)

-- the octets in front of what is visited in a string
pub front_length : (e : Element) (s : Rules) (d : ℕ) (w u v : List ℕ) → e.holds ≡ Some s → HoldsElement s d e.number w u v → front_of e ≡ length u
front_length e s d w u v t h =
    ⊎_elim
    (λ z. ap (λ b. if is_some b then string_front_of e.number else 0) t ∙ ap string_front_of z.0 ∙ sym (ap length z.1))
    (λ z. ap (λ b. if is_some b then string_front_of e.number else 0) t ∙ ap string_front_of z.0 ∙ sym (ap length z.1))
    h.front

end_at_least : (p : ℕ) (end l : Option ℕ) → IsWithin p end → IsWithin p (end_from p end l)
end_at_least p end (Some n) h = omega arith
end_at_least p end None h = h

ends_within : (p : ℕ) (end l : Option ℕ) → IfSome l (λ n. IsWithin (p + n) end) → EndsWithin (end_from p end l) end
ends_within p None l h = tt
ends_within p (Some k) (Some n) h = (p + n, refl, h)
ends_within p (Some k) None h = (k, refl, omega arith)

-- the same at equal places
pub moved : (x : Extras) (r : Rules) (i : List ℕ) (d : ℕ) (opens opens' : List Open) (s s' : Rules) (e e' : Option ℕ) (m m' : Bool) (at at' : ℕ) (vs : List Visited) → opens' ≡ opens → s' ≡ s → e' ≡ e → m' ≡ m → at' ≡ at
    → HasWalked x r i d opens s e m at vs → HasWalked x r i d opens' s' e' m' at' vs
moved x r i d opens opens' s s' e e' m m' at at' vs p1 p2 p3 p4 p5 w =
    let w1 = subst (λ q. HasWalked x r i d q s e m at vs) (sym p1) w in
    let w2 = subst (λ q. HasWalked x r i d opens' q e m at vs) (sym p2) w1 in
    let w3 = subst (λ q. HasWalked x r i d opens' s' q m at vs) (sym p3) w2 in
    let w4 = subst (λ q. HasWalked x r i d opens' s' e' q at vs) (sym p4) w3 in
    subst (λ q. HasWalked x r i d opens' s' e' m' q vs) (sym p5) w4

-- what a walk knows of the element that it read
pub record Reads (x : Extras) (w : Walk) (e : Element) : Type 0 where
  pub offset : e.offset ≡ w.at
  pub depth : e.depth ≡ length w.opened.items
  pub shallow : e.depth ≤ 100
  pub some : 2 ≤ e.header
  pub index : e.index ≡ w.content.visited
  pub room : IfSome e.length (λ n. IsWithin (e.offset + e.header + n) (end_of w))
  pub read : IsRead x w.content.rules (100 - e.depth) (here_of w) e

pub passes : (x : Extras) (r : Rules) (w w' : Walk) (vs : List Visited) (e : Element) → length w.input.now < 2 ^ 64 → HasVisited x r w.input.now w vs → Reads x w e → Passes w e w'
    → HasVisited x r w.input.now w' (vs ++ visited_of e ∷ [])
passes x r w w' vs e size has reads pass = of reads.read pass
  where
    i : List ℕ
    i = w.input.now

    limit : ℕ
    limit = limit_of (length i) (end_of w)

    deep : has.depth ≡ suc (100 - e.depth)
    deep = omega (arith, open_depth has.walked, reads.depth, reads.shallow)

    walked : HasWalked x r i (suc (100 - e.depth)) w.opened.items w.content.rules (end_of w) w.content.has_marker w.at vs
    walked = subst (λ d. HasWalked x r i d w.opened.items w.content.rules (end_of w) w.content.has_marker w.at vs) deep has.walked

    there : w.at ≤ limit
    there = (let q = within walked in limit_least w.at (length i) (end_of w) q.0 q.1)

    short : limit ≤ length i
    short = limit_size (length i) (end_of w)

    -- one more is counted
    more : length (vs ++ visited_of e ∷ []) ≡ suc (length vs)
    more = omega (arith, length-append vs (visited_of e ∷ []))

    one_more_here : w.at < length i → (count_one w.content).visited ≡ index_in (length w.opened.items) (vs ++ visited_of e ∷ [])
    one_more_here h =
        let k = length w.opened.items in
        let few = index_few k vs in
        let n = has.few in
        let c = has.counts in
        let same : min (w.content.visited + 1) (2 ^ 64 - 1) ≡ suc (index_in k vs) = omega (arith, few, n, c, size, h) in
        same ∙ sym (index_same k vs (visited_of e) reads.depth)

    none_around : (outer inner : List Open) (o : Open) → w.opened.items ≡ outer ++ o ∷ inner → o.around.visited ≡ index_in (length outer) (vs ++ visited_of e ∷ [])
    none_around outer inner o q =
        has.counts_around outer inner o q ∙ sym (index_around (length outer) vs (visited_of e) (omega (arith, reads.depth, ap length q, length-append outer (o ∷ inner))))

    on : GoesOn w (limit_of (length i) (end_from (e.offset + e.header) (end_of w) e.length)) w' → (h b rest : List ℕ) → here_of w ≡ (h ++ b) ++ rest → e.header ≡ length h → e.length ≡ Some (length b)
        → VisitsOne x w.content.rules (suc (100 - e.depth)) e.depth e.offset (h ++ b) (visited_of e ∷ []) → HasVisited x r i w' (vs ++ visited_of e ∷ [])
    on g h b rest split eh el one =
        let n = w.at + length (h ++ b) in
        let here : between i w.at n ≡ h ++ b = front_between i w.at limit (h ++ b) rest split in
        let inside : n ≤ limit = front_within i w.at limit (h ++ b) rest there short split in
        let one1 = subst (λ k. VisitsOne x w.content.rules (suc (100 - e.depth)) k e.offset (h ++ b) (visited_of e ∷ [])) reads.depth one in
        let one2 = subst (λ k. VisitsOne x w.content.rules (suc (100 - e.depth)) (length w.opened.items) k (h ++ b) (visited_of e ∷ [])) reads.offset one1 in
        let one3 = subst (λ l. VisitsOne x w.content.rules (suc (100 - e.depth)) (length w.opened.items) w.at l (visited_of e ∷ [])) (sym here) one2 in
        let next = advance n (visited_of e ∷ []) walked one3 (omega arith) (limit_within n (length i) (end_of w) inside) (omega (arith, inside, short)) in
        let q = length-append h b in
        let z = reads.offset in
        let end : w'.at ≡ n = g.at ∙ ap (λ l. limit_of (length i) (end_from (e.offset + e.header) (end_of w) l)) el ∙ omega (arith, eh, q, z, inside, short) in
        let later : w.at + 2 ≤ n = omega (arith, q, eh, reads.some) in
        let opens = ap length g.opens in
        record {
          input = g.input;
          enters = g.enters ∙ has.enters;
          keeps = g.keeps ∙ has.keeps;
          depth = suc (100 - e.depth);
          walked = moved x r i (suc (100 - e.depth)) w.opened.items w'.opened.items w.content.rules w'.content.rules (end_of w) (end_in (length i) w'.content.end) w.content.has_marker w'.content.has_marker n w'.at (vs ++ visited_of e ∷ []) g.opens (ap (λ c. c.rules) g.content)
              (ap (λ c. end_in (length i) c.end) g.content) (ap (λ c. c.has_marker) g.content) end next;
          counts = ap (λ c. c.visited) g.content ∙ one_more_here (omega (arith, later, inside, short)) ∙ ap (λ k. index_in k (vs ++ visited_of e ∷ [])) (sym opens);
          counts_around = λ outer inner o q. none_around outer inner o (sym g.opens ∙ q);
          end = subst (λ z. IsEndOf (length i) z) (sym (ap (λ c. c.end) g.content)) has.end;
          ends_around = λ outer inner o q. has.ends_around outer inner o (sym g.opens ∙ q);
          few = omega (arith, more, has.few, later, end);
        }

    into : (first : ℕ) (limit : End) → IsEndOf (length i) limit → GoesInto (record w { content = count_one w.content }) e first limit w' → end_in (length i) limit ≡ end_from (e.offset + e.header) (end_of w) e.length
        → IsOpen x i w.content.rules (100 - e.depth) e.depth e.offset first (rules_inside w.content.rules e) (end_from (e.offset + e.header) (end_of w) e.length) (ends_at_marker e.length) (visited_of e)
        → IsWithin first (end_from (e.offset + e.header) (end_of w) e.length) → first ≤ length i → w.at + 2 ≤ first → HasVisited x r i w' (vs ++ visited_of e ∷ [])
    into first limit inside g ee is h2 h3 later =
        let s = rules_inside w.content.rules e in
        let en = end_from (e.offset + e.header) (end_of w) e.length in
        let m = ends_at_marker e.length in
        let o = g.opened in
        let around = ap (λ c. end_in (length i) c.end) g.around in
        let base = moved x r i (suc (100 - e.depth)) w.opened.items w.opened.items w.content.rules o.around.rules (end_of w) (end_in (length i) o.around.end) w.content.has_marker o.around.has_marker w.at w.at vs refl (ap (λ c. c.rules) g.around) around (ap (λ c. c.has_marker) g.around) refl walked in
        let is1 = subst (λ k. IsOpen x i w.content.rules (100 - e.depth) k e.offset first s en m (visited_of e)) reads.depth is in
        let is2 = subst (λ k. IsOpen x i w.content.rules (100 - e.depth) (length w.opened.items) k first s en m (visited_of e)) reads.offset is1 in
        let is3 = subst (λ q. IsOpen x i q (100 - e.depth) (length w.opened.items) w.at first s en m (visited_of e)) (sym (ap (λ c. c.rules) g.around)) is2 in
        let fits = subst (λ q. EndsWithin en q) (sym around) (ends_within (e.offset + e.header) (end_of w) e.length reads.room) in
        let next = go_into (w.opened.items ++ o ∷ []) o first s en m (visited_of e) base refl is3 fits h2 h3 (ap (λ q. end_from (e.offset + e.header) q e.length) (sym around)) refl (g.offset ∙ reads.offset) (subst (λ n. IsStep o.step e.class e.number n) (reads.index ∙ has.counts) g.step) in
        let k : length w'.opened.items ≡ suc (length w.opened.items) = omega (arith, ap length g.opens, length-append w.opened.items (o ∷ [])) in
        record {
          input = g.input;
          enters = g.enters ∙ has.enters;
          keeps = g.keeps ∙ has.keeps;
          depth = 100 - e.depth;
          walked = moved x r i (100 - e.depth) (w.opened.items ++ o ∷ []) w'.opened.items s w'.content.rules en (end_in (length i) w'.content.end) m w'.content.has_marker first w'.at (vs ++ visited_of e ∷ []) g.opens g.rules (ap (λ z. end_in (length i) z) g.end ∙ ee) g.marker g.at next;
          counts = g.none ∙ sym (index_inside (length w'.opened.items) vs (visited_of e) (omega (arith, k, reads.depth)));
          counts_around = λ outer inner p q. counted_around o (omega (arith, later, h3)) outer inner p (sym g.opens ∙ q);
          end = subst (λ z. IsEndOf (length i) z) (sym g.end) inside;
          ends_around = λ outer inner p q. ends_of outer inner p (sym g.opens ∙ q);
          few = omega (arith, more, has.few, later, g.at);
        }
      where
        counted_around : (o : Open) → w.at < length i → (outer inner : List Open) (p : Open) → w.opened.items ++ g.opened ∷ [] ≡ outer ++ p ∷ inner → p.around.visited ≡ index_in (length outer) (vs ++ visited_of e ∷ [])
        counted_around o h outer inner p q =
            elim (split_last outer inner p w.opened.items g.opened q) [
              | inl (f, same) ↦ ap (λ (z : Open). z.around.visited) same ∙ ap (λ c. c.visited) g.around ∙ one_more_here h ∙ ap (λ l. index_in (length l) (vs ++ visited_of e ∷ [])) (sym f)
              | inr (more, f) ↦ none_around outer more p f
            ]

        ends_of : (outer inner : List Open) (p : Open) → w.opened.items ++ g.opened ∷ [] ≡ outer ++ p ∷ inner → IsEndOf (length i) p.around.end
        ends_of outer inner p q =
            elim (split_last outer inner p w.opened.items g.opened q) [
              | inl (f, same) ↦ subst (λ z. IsEndOf (length i) z) (sym (ap (λ (z : Open). z.around.end) same ∙ ap (λ c. c.end) g.around)) has.end
              | inr (more, f) ↦ has.ends_around outer more p f
            ]

    of : IsRead x w.content.rules (100 - e.depth) (here_of w) e → Passes w e w' → HasVisited x r i w' (vs ++ visited_of e ∷ [])
    of (whole h b rest split eh el ep ed one) (end, te, ee, inl (inl t, g)) = absurd (cc)
    of (whole h b rest split eh el ep ed one) (end, te, ee, inl (inr t, g)) = absurd (let q = sym t ∙ ap is_some ed in cc)
    of (whole h b rest split eh el ep ed one) (end, te, ee, inr (p, d, g)) = on g h b rest (split ∙ sym (append_assoc h b rest)) eh el one
    of (read_string s h b rest u v split eh el ep ed eo ec is content en holds only) (end, te, ee, inr (p, d, g)) = absurd (cc)
    of (read_string s h b rest u v split eh el ep ed eo ec is content en holds only) (end, te, ee, inl (t, g)) =
        let all : here_of w ≡ (h ++ b) ++ rest = split ∙ sym (append_assoc h b rest) in
        let inside : w.at + length (h ++ b) ≤ limit = front_within i w.at limit (h ++ b) rest there short all in
        let p = e.offset + e.header in
        let first = p + front_of e in
        let last = p + length b in
        let fl = front_length e s (100 - e.depth) b u v ed holds in
        let lb = length-append h b in
        let lu = ap length holds.parts ∙ length-append u v in
        let n : w.at + length (h ++ b) ≡ last = omega (arith, eh, lb, reads.offset) in
        let from : end_from p (end_of w) e.length ≡ Some last = ap (λ l. end_from p (end_of w) l) el in
        let ef : first ≡ e.offset + length h + length u = omega (arith, eh, fl) in
        let to_end : drop e.offset i ≡ (h ++ b) ++ drop last i =
        ap (λ n. drop n i) reads.offset ∙ sym (between_drop i w.at (w.at + length (h ++ b)) (omega arith)) ∙ ap (λ l. l ++ drop (w.at + length (h ++ b)) i) (front_between i w.at limit (h ++ b) rest all)
        ∙ ap (λ n. (h ++ b) ++ drop n i) n in
        let is_open = open_string x w.content.rules s i (100 - e.depth) e h b u v first last eh el ep ed eo ec is content en holds only to_end (omega (arith, lb, eh)) (omega (arith, n, inside, short)) ef in
        let is1 = subst (λ q. IsOpen x i w.content.rules (100 - e.depth) e.depth e.offset first s q false (visited_of e)) (sym from) is_open in
        let is2 = subst (λ q. IsOpen x i w.content.rules (100 - e.depth) e.depth e.offset first s (end_from p (end_of w) e.length) q (visited_of e)) (sym (ap ends_at_marker el)) is1 in
        let is3 = subst (λ q. IsOpen x i w.content.rules (100 - e.depth) e.depth e.offset first q (end_from p (end_of w) e.length) (ends_at_marker e.length) (visited_of e)) (sym (ap (λ z. unwrap_or z w.content.rules) ed)) is2 in
        into first end (te has.end) g ee is3 (subst (λ q. IsWithin first q) (sym from) (let z : first ≤ last = omega (arith, fl, lu) in z)) (omega (arith, fl, lu, n, inside, short)) (omega (arith, reads.some, reads.offset))
    of (list h rest split eh ep ed eo is may) (end, te, ee, inr (p, d, g)) = absurd (cc)
    of (list h rest split eh ep ed eo is may) (end, te, ee, inl (t, g)) =
        let p = e.offset + e.header in
        let inside : w.at + length h ≤ limit = front_within i w.at limit h rest there short split in
        let n : w.at + length h ≡ p = omega (arith, eh, reads.offset) in
        let to_end : drop e.offset i ≡ h ++ drop p i =
        ap (λ n. drop n i) reads.offset ∙ sym (between_drop i w.at (w.at + length h) (omega arith)) ∙ ap (λ l. l ++ drop (w.at + length h) i) (front_between i w.at limit h rest split) ∙ ap (λ n. h ++ drop n i) n in
        let is_open = open_list x w.content.rules i (100 - e.depth) e h e.length (end_of w) refl eh ep ed eo is may to_end in
        let no_front : p + front_of e ≡ p = ap (λ z. p + (if is_some z then string_front_of e.number else 0)) ed ∙ omega arith in
        let g1 = subst (λ q. GoesInto (record w { content = count_one w.content }) e q end w') no_front g in
        let is1 = subst (λ q. IsOpen x i w.content.rules (100 - e.depth) e.depth e.offset p q (end_from p (end_of w) e.length) (ends_at_marker e.length) (visited_of e)) (sym (ap (λ z. unwrap_or z w.content.rules) ed)) is_open in
        let fits : p ≤ limit = omega (arith, n, inside) in
        into p end (te has.end) g1 ee is1 (end_at_least p (end_of w) e.length (limit_within p (length i) (end_of w) fits)) (omega (arith, fits, short)) (omega (arith, reads.some, reads.offset))
