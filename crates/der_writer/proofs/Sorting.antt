-- Elements of a SET OF, each put in front of the first greater one.
use Rattle.std.proofs.Common.{◌≡◌, ℕ, ◌+◌, ◌-◌, ◌<◌, ◌≤◌, ◌==◌, nat_lt, ◌⊎◌, ⊎_elim, inl, inr, Bool, true, false, List, [], ◌∷◌, ◌++◌, length, take, drop, refl, sym, ap, subst, ◌∙◌, arith, append_assoc, length-append, length-drop}
use Rattle.std.specs.Prelude.{◌↔◌, IsTrue}
use Rattle.std.specs.List.{AllByRecursion, concat}
use Rattle.std.specs.List.Sorted.{IsPermutation}
use Rattle.std.proofs.lemmas.Bool.{cases_lt}
use Rattle.std.proofs.lemmas.Bool.Decides.{nat_tests}
use Rattle.std.proofs.lemmas.List.{append-nil, take_at, drop_at, take_all, take-take, drop-take, length-take-le}
use Rattle.std.proofs.lemmas.Slice.{take-put_mid, drop-put_mid}
use borrow.Rule.Slice.PartMut.{put_mid, same_len_mid, mid_len}
use Rattle.std.proofs.Math.Seq.{take-length, drop-length}
use Rattle.std.proofs.lemmas.List.Folds.{concat-append}
use Rattle.std.proofs.lemmas.List.Sorted.{IsPermutation-refl, IsPermutation-sym, IsPermutation-trans, IsPermutation-cons, IsPermutation-middle, IsPermutation-append_left}
use Rattle.der_base.specs.SetOfOrder.{Descends, IsAscending}
use Rattle.der_values.proofs.LawsLaws.Containers.SetOfOrders.{Greater, greater_descends, descends_greater}
use Rattle.der_base.specs.Octets.{identifier, shortest_length}
use Rattle.der_writer.specs.SetsOf.{IsElement, IsInOrder}
use Rattle.der_writer.proofs.Headers.{length_some}
use Rattle.der_writer.specs.Inner.Sorting.{is_greater, with_element, sorted_from, sorted, Measures, IsPlaceOf, Sorts, SortsBetween}

-- The test of the order.

-- it is so, or it isn't
abbrev Tells : List ℕ → List ℕ → Type 0
Tells a b = ((is_greater a b ≡ true) × Greater a b) ⊎ ((is_greater a b ≡ false) × ¬ Greater a b)

tells : (a b : List ℕ) → Tells a b
tells [] b = inr (refl, λ h. h)
tells (x ∷ a) [] =
    ⊎_elim
    (λ l. let e : nat_lt 0 x ≡ true = grind (arith, nat_tests) in inl (rw e refl, inl l))
    (λ m.
    let e : nat_lt 0 x ≡ false = grind (arith, nat_tests) in
    ⊎_elim
    (λ h. inl (rw e h.0, inr h.1))
    (λ h. inr (rw e h.0, λ g. ⊎_elim (λ l. absurd (omega (arith, l, m))) h.1 g))
    (tells a []))
    (cases_lt 0 x)
tells (x ∷ a) (y ∷ b) =
    ⊎_elim
    (λ l. let e : nat_lt y x ≡ true = grind (arith, nat_tests) in inl (rw e refl, inl l))
    (λ m.
    let e : nat_lt y x ≡ false = grind (arith, nat_tests) in
    ⊎_elim
    (λ l.
    let f : (x == y) ≡ false = grind (arith, nat_tests) in
    inr (rw (e, f) refl, λ g. ⊎_elim (λ k. absurd (omega (arith, k, m))) (λ k. absurd (omega (arith, k.0, l))) g))
    (λ n.
    let same : x ≡ y = omega (arith, m, n) in
    let f : (x == y) ≡ true = grind (arith, nat_tests) in
    ⊎_elim
    (λ h. inl (rw (e, f) h.0, inr (same, h.1)))
    (λ h. inr (rw (e, f) h.0, λ g. ⊎_elim (λ k. absurd (omega (arith, k, m))) (λ k. h.1 k.1) g))
    (tells a b))
    (cases_lt x y))
    (cases_lt y x)

-- what the test of the code returns
pub as_told : (r : Bool) (a b : List ℕ) → IsTrue r ↔ Descends a b → r ≡ is_greater a b
as_told true a b h = ⊎_elim (λ t. sym t.0) (λ t. absurd (t.1 (descends_greater a b (h.0 refl)))) (tells a b)
as_told false a b h = ⊎_elim (λ t. absurd (no (h.1 (greater_descends a b t.1)))) (λ t. sym t.0) (tells a b)
  where
    no : false ≡ true → ⊥
    no e = cc

never_both : (a b : List ℕ) → Greater a b → ¬ Greater b a
never_both [] b g h = g
never_both (x ∷ a) [] g h = h
never_both (x ∷ a) (y ∷ b) (inl l) (inl m) = omega (arith, l, m)
never_both (x ∷ a) (y ∷ b) (inl l) (inr (e, h)) = omega (arith, l, e)
never_both (x ∷ a) (y ∷ b) (inr (e, g)) (inl m) = omega (arith, m, e)
never_both (x ∷ a) (y ∷ b) (inr (e, g)) (inr (f, h)) = never_both a b g h

-- Their order.

ascends_on : (t s : List ℕ) (ts : List (List ℕ)) → ¬ Descends t s → IsAscending (t ∷ ts) → IsAscending (t ∷ with_element s ts)
ascends_on t s [] up h = (up, tt)
ascends_on t s (u ∷ us) up h =
    ⊎_elim
    (λ k. rw (k.0) (up, (λ d. never_both u s k.1 (descends_greater s u d), h.1)))
    (λ k. rw (k.0) (h.0, ascends_on u s us (λ d. k.1 (descends_greater u s d)) h.1))
    (tells u s)

ascends_with : (s : List ℕ) (ts : List (List ℕ)) → IsAscending ts → IsAscending (with_element s ts)
ascends_with s [] h = tt
ascends_with s (u ∷ us) h =
    ⊎_elim
    (λ k. rw (k.0) (λ d. never_both u s k.1 (descends_greater s u d), h))
    (λ k. rw (k.0) (ascends_on u s us (λ d. k.1 (descends_greater u s d)) h))
    (tells u s)

ascends_from : (ts ss : List (List ℕ)) → IsAscending ts → IsAscending (sorted_from ts ss)
ascends_from ts [] h = h
ascends_from ts (s ∷ ss) h = ascends_from (with_element s ts) ss (ascends_with s ts h)

-- They are the same.

same_with : (s : List ℕ) (ts : List (List ℕ)) → IsPermutation (s ∷ ts) (with_element s ts)
same_with s [] = IsPermutation-refl (s ∷ [])
same_with s (u ∷ us) =
    ⊎_elim
    (λ k. rw (k.0) (IsPermutation-refl (s ∷ u ∷ us)))
    (λ k.
    rw (k.0)
    (IsPermutation-trans (s ∷ u ∷ us) (u ∷ s ∷ us) (u ∷ with_element s us)
    (IsPermutation-sym (u ∷ s ∷ us) (s ∷ u ∷ us) (IsPermutation-middle (u ∷ []) s us))
    (IsPermutation-cons u (s ∷ us) (with_element s us) (same_with s us))))
    (tells u s)

same_from : (ts ss : List (List ℕ)) → IsPermutation (ts ++ ss) (sorted_from ts ss)
same_from ts [] = let P : List (List ℕ) → Type 0 = λ l. IsPermutation l ts in subst P (sym (append-nil ts)) (IsPermutation-refl ts)
same_from ts (s ∷ ss) =
    IsPermutation-trans (ts ++ s ∷ ss) (s ∷ (ts ++ ss)) (sorted_from (with_element s ts) ss) (IsPermutation-middle ts s ss)
    (IsPermutation-trans (s ∷ (ts ++ ss)) (with_element s ts ++ ss) (sorted_from (with_element s ts) ss)
    (IsPermutation-append_left ss (s ∷ ts) (with_element s ts) (same_with s ts)) (same_from (with_element s ts) ss))

pub in_order : (ss : List (List ℕ)) → IsInOrder ss (sorted ss)
in_order ss = record { same = same_from [] ss; ascend = ascends_from [] ss tt }

pub size_with : (s : List ℕ) (ts : List (List ℕ)) → length (concat (with_element s ts)) ≡ length (concat ts) + length s
size_with s [] = omega (arith, length-append s [])
size_with s (u ∷ us) =
    ⊎_elim
    (λ k. rw (k.0) (omega (arith, length-append s (u ++ concat us))))
    (λ k. rw (k.0) (omega (arith, size_with s us, length-append u (concat us), length-append u (concat (with_element s us)))))
    (tells u s)

size_from : (ts ss : List (List ℕ)) → length (concat (sorted_from ts ss)) ≡ length (concat ts) + length (concat ss)
size_from ts [] = omega arith
size_from ts (s ∷ ss) = omega (arith, size_from (with_element s ts) ss, size_with s ts, length-append s (concat ss))

pub size_sorted : (ss : List (List ℕ)) → length (concat (sorted ss)) ≡ length (concat ss)
size_sorted ss = omega (arith, size_from [] ss)

pub elements_with : (s : List ℕ) (ts : List (List ℕ)) → IsElement s → AllByRecursion IsElement ts → AllByRecursion IsElement (with_element s ts)
elements_with s [] e h = (e, tt)
elements_with s (u ∷ us) e h =
    ⊎_elim (λ k. rw (k.0) (e, h)) (λ k. rw (k.0) (h.0, elements_with s us e h.1)) (tells u s)

-- The place of an element among those in front of it.

-- those in front of a place, of which none is greater, and those behind it
pub record Splits (ts : List (List ℕ)) (s : List ℕ) (place : ℕ) : Type 0 where
  pub front : List (List ℕ)
  pub back : List (List ℕ)
  pub both : ts ≡ front ++ back
  pub at : place ≡ length (concat front)
  pub elements : AllByRecursion IsElement back
  pub with_it : with_element s ts ≡ front ++ with_element s back

pub at_first : (ts : List (List ℕ)) (s : List ℕ) → AllByRecursion IsElement ts → Splits ts s 0
at_first ts s h = record { front = []; back = ts; both = refl; at = refl; elements = h; with_it = refl }

some_octets : (s : List ℕ) → IsElement s → 1 ≤ length s
some_octets s (c, p, t, w, small, e) =
    let size = shortest_length (length w) in
    omega (arith, ap length e, length_some (length w), length-append (identifier c p t ++ size) w, length-append (identifier c p t) size)

joined : (ts front back : List (List ℕ)) → ts ≡ front ++ back → concat ts ≡ concat front ++ concat back
joined ts front back e = ap concat e ∙ concat-append front back

behind : (ts : List (List ℕ)) (s : List ℕ) (place : ℕ) (h : Splits ts s place) → drop place (concat ts) ≡ concat h.back
behind ts s place h = ap (drop place) (joined ts h.front h.back h.both) ∙ drop_at (concat h.front) (concat h.back) place (sym h.at)

before : (ts : List (List ℕ)) (s : List ℕ) (place : ℕ) (h : Splits ts s place) → take place (concat ts) ≡ concat h.front
before ts s place h = ap (take place) (joined ts h.front h.back h.both) ∙ take_at (concat h.front) (concat h.back) place (sym h.at)

-- what the first of those behind it is
pub record Next (ts : List (List ℕ)) (s : List ℕ) (place : ℕ) (h : Splits ts s place) : Type 0 where
  pub first : List ℕ
  pub others : List (List ℕ)
  pub is : h.back ≡ first ∷ others

next : (ts : List (List ℕ)) (s : List ℕ) (place : ℕ) (h : Splits ts s place) → place < length (concat ts) → Next ts s place h
next ts s place h more = go h.back refl
  where
    go : (l : List (List ℕ)) → h.back ≡ l → Next ts s place h
    go [] e =
        let n : length (concat ts) ≡ length (concat h.front) + 0 =
        ap length (joined ts h.front h.back h.both) ∙ ap (λ l. length (concat h.front ++ concat l)) e ∙ length-append (concat h.front) [] in
        absurd (omega (arith, n, more, h.at))
    go (t ∷ us) e = record { first = t; others = us; is = e }

first_of : (t : List ℕ) (us : List (List ℕ)) (octets : List ℕ) (size : ℕ) → IsElement t → octets ≡ t ++ concat us → Measures octets size → take size octets ≡ t
first_of t us octets size k e m = ap (take size) e ∙ take_at t (concat us) size (sym (m.exact t (concat us) k e))

-- it is in front of a greater one
pub found : (ts : List (List ℕ)) (s octets : List ℕ) (place size : ℕ) → Splits ts s place → place < length (concat ts)
    → octets ≡ drop place (concat ts) → Measures octets size → is_greater (take size octets) s ≡ true
    → take place (concat ts) ++ (s ++ drop place (concat ts)) ≡ concat (with_element s ts)
found ts s octets place size h more own m greater =
    let n = next ts s place h more in
    let t = n.first in
    let elements : AllByRecursion IsElement (t ∷ n.others) = subst (AllByRecursion IsElement) n.is h.elements in
    let rest : octets ≡ t ++ concat n.others = own ∙ behind ts s place h ∙ ap concat n.is in
    let is_first : take size octets ≡ t = first_of t n.others octets size elements.0 rest m in
    let test : is_greater t s ≡ true = ap (λ l. is_greater l s) (sym is_first) ∙ greater in
    let placed : with_element s (t ∷ n.others) ≡ s ∷ t ∷ n.others = rw test refl in
    let all : with_element s ts ≡ h.front ++ s ∷ h.back = h.with_it ∙ ap (λ l. h.front ++ with_element s l) n.is ∙ ap (λ l. h.front ++ l) placed ∙ ap (λ l. h.front ++ s ∷ l) (sym n.is) in
    ap (λ l. l ++ (s ++ drop place (concat ts))) (before ts s place h) ∙ ap (λ l. concat h.front ++ (s ++ l)) (behind ts s place h)
    ∙ sym (concat-append h.front (s ∷ h.back)) ∙ ap concat (sym all)

-- it isn't in front of another
pub further : (ts : List (List ℕ)) (s octets : List ℕ) (place size : ℕ) → Splits ts s place → place < length (concat ts)
    → octets ≡ drop place (concat ts) → Measures octets size → is_greater (take size octets) s ≡ false
    → Splits ts s (place + size)
further ts s octets place size h more own m other =
    let n = next ts s place h more in
    let t = n.first in
    let elements : AllByRecursion IsElement (t ∷ n.others) = subst (AllByRecursion IsElement) n.is h.elements in
    let rest : octets ≡ t ++ concat n.others = own ∙ behind ts s place h ∙ ap concat n.is in
    let is_first : take size octets ≡ t = first_of t n.others octets size elements.0 rest m in
    let test : is_greater t s ≡ false = ap (λ l. is_greater l s) (sym is_first) ∙ other in
    let placed : with_element s (t ∷ n.others) ≡ t ∷ with_element s n.others = rw test refl in
    record {
      front = h.front ++ t ∷ [];
      back = n.others;
      both = h.both ∙ ap (λ l. h.front ++ l) n.is ∙ sym (append_assoc h.front (t ∷ []) n.others);
      at = omega (arith, h.at, m.exact t (concat n.others) elements.0 rest, ap length (concat-append h.front (t ∷ [])), length-append (concat h.front) (t ++ []), length-append t []);
      elements = elements.1;
      with_it = h.with_it ∙ ap (λ l. h.front ++ with_element s l) n.is ∙ ap (λ l. h.front ++ l) placed ∙ sym (append_assoc h.front (t ∷ []) (with_element s n.others));
    }

-- it is behind all
pub at_end : (ts : List (List ℕ)) (s : List ℕ) (place : ℕ) → Splits ts s place → length (concat ts) ≤ place
    → take (length (concat ts)) (concat ts) ++ (s ++ drop (length (concat ts)) (concat ts)) ≡ concat (with_element s ts)
at_end ts s place h all =
    let none : h.back ≡ [] = go h.back h.elements (omega (arith, all, h.at, ap length (joined ts h.front h.back h.both), length-append (concat h.front) (concat h.back))) in
    let own : ts ≡ h.front = h.both ∙ ap (λ l. h.front ++ l) none ∙ append-nil h.front in
    let put : with_element s ts ≡ ts ++ s ∷ [] = h.with_it ∙ ap (λ l. h.front ++ with_element s l) none ∙ ap (λ l. l ++ s ∷ []) (sym own) in
    ap (λ l. l ++ (s ++ drop (length (concat ts)) (concat ts))) (take-length (concat ts)) ∙ ap (λ l. concat ts ++ (s ++ l)) (drop-length (concat ts))
    ∙ sym (concat-append ts (s ∷ [])) ∙ ap concat (sym put)
  where
    go : (l : List (List ℕ)) → AllByRecursion IsElement l → length (concat l) ≡ 0 → l ≡ []
    go [] k e = refl
    go (t ∷ us) k e = absurd (omega (arith, e, some_octets t k.0, length-append t (concat us)))

-- The loop over them.

-- those in front of an offset are sorted, those behind it aren't yet
pub record IsSortedTo (ss : List (List ℕ)) (last : ℕ) (content : List ℕ) : Type 0 where
  pub done : List (List ℕ)
  pub left : List (List ℕ)
  pub octets : content ≡ concat done ++ concat left
  pub at : last ≡ length (concat done)
  pub elements_done : AllByRecursion IsElement done
  pub elements_left : AllByRecursion IsElement left
  pub same : sorted_from done left ≡ sorted ss

pub none_sorted : (ss : List (List ℕ)) (content : List ℕ) → AllByRecursion IsElement ss → content ≡ concat ss → IsSortedTo ss 0 content
none_sorted ss content h e = record { done = []; left = ss; octets = e; at = refl; elements_done = tt; elements_left = h; same = refl }

-- one more
pub one_sorted : (ss : List (List ℕ)) (last end : ℕ) (content new : List ℕ) → IsSortedTo ss last content → last < length content
    → ((s rest : List ℕ) → IsElement s → drop last content ≡ s ++ rest → end ≡ last + length s)
    → ((ts : List (List ℕ)) (s : List ℕ) → AllByRecursion IsElement ts → take end content ≡ concat ts ++ s → last ≡ length (concat ts) → new ≡ concat (with_element s ts) ++ drop end content)
    → IsSortedTo ss end new
one_sorted ss last end content new h more ends puts = go h.left h.elements_left refl
  where
    go : (l : List (List ℕ)) → AllByRecursion IsElement l → h.left ≡ l → IsSortedTo ss end new
    go [] k e = absurd (omega (arith, more, h.at, ap length (h.octets ∙ ap (λ l. concat h.done ++ concat l) e), length-append (concat h.done) []))
    go (s ∷ us) k e =
        let octets : content ≡ concat h.done ++ (s ++ concat us) = h.octets ∙ ap (λ l. concat h.done ++ concat l) e in
        let behind : drop last content ≡ s ++ concat us = ap (drop last) octets ∙ drop_at (concat h.done) (s ++ concat us) last (sym h.at) in
        let at : end ≡ last + length s = ends s (concat us) k.0 behind in
        let grouped : content ≡ (concat h.done ++ s) ++ concat us = octets ∙ sym (append_assoc (concat h.done) s (concat us)) in
        let size : length (concat h.done ++ s) ≡ end = omega (arith, length-append (concat h.done) s, at, h.at) in
        let front : take end content ≡ concat h.done ++ s = ap (take end) grouped ∙ take_at (concat h.done ++ s) (concat us) end size in
        let rest : drop end content ≡ concat us = ap (drop end) grouped ∙ drop_at (concat h.done ++ s) (concat us) end size in
        record {
          done = with_element s h.done;
          left = us;
          octets = puts h.done s h.elements_done front h.at ∙ ap (λ l. concat (with_element s h.done) ++ l) rest;
          at = omega (arith, at, h.at, size_with s h.done);
          elements_done = elements_with s h.done k.0 h.elements_done;
          elements_left = k.1;
          same = ap (sorted_from h.done) (sym e) ∙ h.same;
        }

-- all
pub all_sorted : (ss : List (List ℕ)) (last : ℕ) (content : List ℕ) → IsSortedTo ss last content → length content ≤ last → content ≡ concat (sorted ss)
all_sorted ss last content h all = go h.left h.elements_left refl
  where
    go : (l : List (List ℕ)) → AllByRecursion IsElement l → h.left ≡ l → content ≡ concat (sorted ss)
    go [] k e = h.octets ∙ ap (λ l. concat h.done ++ concat l) e ∙ append-nil (concat h.done) ∙ ap concat (ap (sorted_from h.done) (sym e) ∙ h.same)
    go (s ∷ us) k e =
        absurd (omega (arith, all, h.at, ap length (h.octets ∙ ap (λ l. concat h.done ++ concat l) e), length-append (concat h.done) (s ++ concat us), length-append s (concat us), some_octets s k.0))

-- The steps of the code.

-- all octets from an offset on
pub from_on : (l : List ℕ) (place n : ℕ) → length l ≤ place + n → take n (drop place l) ≡ drop place l
from_on l place n long = take_all n (drop place l) (omega (arith, long, length-drop place l))

-- the elements in front of the offset, and the one there
abbrev SplitsAt : List ℕ → ℕ → ℕ → Type 0
SplitsAt content last place = (ts : List (List ℕ)) (s : List ℕ) → AllByRecursion IsElement ts → content ≡ concat ts ++ s → last ≡ length (concat ts) → Splits ts s place

module _ (content sorted element : List ℕ) (last place size n m : ℕ) (front : sorted ≡ take last content) (back : element ≡ drop last content)
    (more : place < last) (long : length sorted ≤ place + n) (same : m ≡ size) (measures : Measures (take n (drop place sorted)) size)
    (splits : SplitsAt content last place) where
  elements_are : (ts : List (List ℕ)) (s : List ℕ) → content ≡ concat ts ++ s → last ≡ length (concat ts) → sorted ≡ concat ts
  elements_are ts s e at = front ∙ ap (take last) e ∙ take_at (concat ts) s last (sym at)

  element_is : (ts : List (List ℕ)) (s : List ℕ) → content ≡ concat ts ++ s → last ≡ length (concat ts) → element ≡ s
  element_is ts s e at = back ∙ ap (drop last) e ∙ drop_at (concat ts) s last (sym at)

  octets_are : (ts : List (List ℕ)) (s : List ℕ) → content ≡ concat ts ++ s → last ≡ length (concat ts) → take n (drop place sorted) ≡ drop place (concat ts)
  octets_are ts s e at = from_on sorted place n long ∙ ap (drop place) (elements_are ts s e at)

  test_is : (r : Bool) (ts : List (List ℕ)) (s : List ℕ) → content ≡ concat ts ++ s → last ≡ length (concat ts) → is_greater (take m (drop place sorted)) element ≡ r
      → is_greater (take size (take n (drop place sorted))) s ≡ r
  test_is r ts s e at test =
      ap (λ l. is_greater (take size l) s) (from_on sorted place n long) ∙ ap (λ j. is_greater (take j (drop place sorted)) s) (sym same)
      ∙ ap (is_greater (take m (drop place sorted))) (sym (element_is ts s e at)) ∙ test

  pub found_in : is_greater (take m (drop place sorted)) element ≡ true → IsPlaceOf content last place
  found_in greater ts s h e at =
      found ts s (take n (drop place sorted)) place size (splits ts s h e at) (omega (arith, more, at)) (octets_are ts s e at) measures (test_is true ts s e at greater)

  pub further_in : is_greater (take m (drop place sorted)) element ≡ false → SplitsAt content last (place + size)
  further_in other ts s h e at =
      further ts s (take n (drop place sorted)) place size (splits ts s h e at) (omega (arith, more, at)) (octets_are ts s e at) measures (test_is false ts s e at other)

pub none_in : (content : List ℕ) (last place : ℕ) → last ≤ place → SplitsAt content last place → IsPlaceOf content last last
none_in content last place all splits ts s h e at =
    let P : ℕ → Type 0 = λ j. take j (concat ts) ++ (s ++ drop j (concat ts)) ≡ concat (with_element s ts) in
    subst P (sym at) (at_end ts s place (splits ts s h e at) (omega (arith, all, at)))

-- between two offsets of a buffer
pub sorted_between : (begin end : ℕ) (old w : List ℕ) → begin ≤ end → end ≤ length old → Sorts (take (end - begin) (drop begin old)) w
    → SortsBetween begin end old (put_mid begin (end - begin) old w)
sorted_between begin end old w up within h =
    let size : length w ≡ end - begin = h.size ∙ length-take-le (end - begin) (drop begin old) (omega (arith, within, length-drop begin old)) in
    let k : begin + (end - begin) ≡ end = omega (arith, up) in
    record {
      size = same_len_mid begin (end - begin) old w (size ∙ sym (mid_len begin end old within));
      behind = drop-put_mid begin (end - begin) old w end (omega (arith, up)) (omega (arith, up, within)) size;
      sorts = λ before ss e b ends room held.
          let front : take begin old ≡ before = sym (take-take begin end old up) ∙ ap (take begin) held ∙ take_at before (concat ss) begin (sym b) in
          let own : take (end - begin) (drop begin old) ≡ concat ss =
          sym (drop-take begin (end - begin) old) ∙ ap (λ j. drop begin (take j old)) k ∙ ap (drop begin) held ∙ drop_at before (concat ss) begin (sym b) in
          take-put_mid begin (end - begin) old w end (omega (arith, up, size)) (omega (arith, up, within)) ∙ ap (λ l. l ++ w) front ∙ ap (λ l. before ++ l) (h.sorts ss e own);
    }
