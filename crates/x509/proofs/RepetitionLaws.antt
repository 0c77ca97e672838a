-- Lists of items that begin with an identifier: whether two begin with the same one.
use Rattle.std.proofs.Common.{◌≡◌, ◌≢◌, ℕ, zero, suc, ◌+◌, ◌-◌, ◌<◌, ◌≤◌, ◌⊎◌, ◌↔◌, Bool, true, false, cond, nat_eq, List, [], ◌∷◌, ◌++◌, length, length-append, map, get_or, sum_by, IsTrue, IsPermutation, IsSortedBy, Ordering, Less, Equal, Greater, nat_cmp, is_lt, is_eq, refl, sym, ap, subst, ◌∙◌, inl, inr, append-nil, arith}
use Rattle.std.specs.Ordering.{ordering_reverse}
use Rattle.std.specs.Cmp.Lexicographic.{pointwise, slice_cmp, same_text, other_text, nat_list_cmp_total, texts_ties}
use Rattle.std.proofs.lemmas.Bool.{false≢true}
use Rattle.std.proofs.lemmas.Cmp.{tied_itself}
use Rattle.std.proofs.lemmas.List.{length-map, map-append}
use Rattle.std.proofs.lemmas.List.Sorted.{IsPermutation-map, all_adjacent_more, sum_by-IsPermutation}
use Rattle.std.proofs.lemmas.List.Sums.{sum_by-cons}
use Rattle.x509.specs.Formats.{sequence, spells}
use Rattle.x509.specs.Lists.{BeginsWithNone, Somewhere, here, later}
use Rattle.x509.specs.Rules.{AreIdentifiers, at_end, identified, unidentified, HasMoreThan, HasRepetition, HasTwice, HaveEqualNeighbours, HaveOneIdentifier, leading_identifier}
use Rattle.x509.proofs.FormatLaws.{shows_one}
use Rattle.x509.proofs.WalkLaws.{ahead, never, nowhere}

-- one if they are the same octets, else none
abbrev same : List ℕ → List ℕ → ℕ
same w v = cond (pointwise nat_eq w v) 1 0

-- how often octets are among others
abbrev times : List ℕ → List (List ℕ) → ℕ
times w ws = sum_by (same w) ws

told : (w v : List ℕ) (b : Bool) → b ≡ pointwise nat_eq w v → ((w ≡ v) × (◌≡◌ {A = ℕ} (cond b 1 0) 1)) ⊎ ((w ≢ v) × (◌≡◌ {A = ℕ} (cond b 1 0) 0))
told w v true e = inl (same_text w v e, refl)
told w v false e = inr (other_text w v e, refl)

alike : (w v : List ℕ) → ((w ≡ v) × (same w v ≡ 1)) ⊎ ((w ≢ v) × (same w v ≡ 0))
alike w v = told w v (pointwise nat_eq w v) refl

is_same : (w v : List ℕ) → w ≡ v → same w v ≡ 1
is_same w v e = elim (alike w v) [ inl a ↦ a.1 | inr a ↦ absurd (a.0 e) ]

differs : (w v : List ℕ) → w ≢ v → same w v ≡ 0
differs w v n = elim (alike w v) [ inl a ↦ absurd (n a.0) | inr a ↦ a.1 ]

counted : (w v : List ℕ) {ws vs : List (List ℕ)} → ws ≡ v ∷ vs → times w ws ≡ same w v + times w vs
counted w v {vs = vs} e = ap (times w) e ∙ sum_by-cons (same w) v vs

-- ---- a walk over the items

one_identifier : (x w v r q : List ℕ) → spells leading_identifier x w r → spells leading_identifier x v q → w ≡ v
one_identifier x w v r q a b = ((shows_one leading_identifier tt).one_value x w v r q a b).0

module _ (x w r : List ℕ) (s : spells leading_identifier x w r) where
  again_at : (y v q : List ℕ) → spells leading_identifier y v q → {ws vs : List (List ℕ)} → ws ≡ v ∷ vs → {m : List ℕ} → (Somewhere sequence (λ y _. HaveOneIdentifier x y) m → 1 ≤ times w vs) → (HaveOneIdentifier x y ⊎ Somewhere sequence (λ y _. HaveOneIdentifier x y) m) → 1 ≤ times w ws
  again_at y v q a e k (inl (u, p, o, b, c)) =
      let one = is_same w v (one_identifier x w u r p s b ∙ one_identifier y u v o q c a) in
      let all = counted w v e in
      omega (arith, one, all)
  again_at y v q a e k (inr h) = let less = k h in let all = counted w v e in omega (arith, less, all)

  again : {i rest : List ℕ} {ws : List (List ℕ)} → AreIdentifiers i ws rest → BeginsWithNone sequence rest → Somewhere sequence (λ y _. HaveOneIdentifier x y) i → 1 ≤ times w ws
  again (at_end e d) n h = absurd (nowhere n (subst (λ z. Somewhere sequence (λ y _. HaveOneIdentifier x y) z) d h))
  again (identified y v q t a e more) n h = again_at y v q a e (λ k. again more n k) ((ahead {f = sequence} tt y t).0 h)
  again (unidentified y t none more) n h = elim ((ahead {f = sequence} tt y t).0 h) [
    | inl a ↦ absurd (none a.0 a.2 a.4)
    | inr k ↦ again more n k
  ]

  found : {i rest : List ℕ} {ws : List (List ℕ)} → AreIdentifiers i ws rest → 1 ≤ times w ws → Somewhere sequence (λ y _. HaveOneIdentifier x y) i
  found (at_end e d) h = let none = ap (times w) e in absurd (omega (arith, none, h))
  found (identified {vs = vs} y v q t a e more) h = elim (alike w v) [
    | inl b ↦ here y t (w, r, q, s, subst (λ z. spells leading_identifier y z q) (sym b.0) a)
    | inr b ↦ let all = counted w v e in let less : 1 ≤ times w vs = omega (arith, b.1, all, h) in later y t (found more less)
  ]
  found (unidentified y t none more) h = later y t (found more h)

repeats : {i rest : List ℕ} {ws : List (List ℕ)} → AreIdentifiers i ws rest → BeginsWithNone sequence rest → HasRepetition i → HasTwice ws
repeats (at_end e d) n h = absurd (nowhere n (subst HasRepetition d h))
repeats (identified y v q t a e more) n h = elim ((ahead {f = sequence} tt y t).0 h) [
  | inl k ↦ (v, let one = is_same v v refl in let less = again y v q a more n k in let all = counted v v e in omega (arith, one, less, all))
  | inr k ↦ let (w, less) = repeats more n k in (w, let all = counted w v e in omega (arith, less, all))
]
repeats (unidentified y t none more) n h = elim ((ahead {f = sequence} tt y t).0 h) [
  | inl k ↦ absurd (never (λ z rest b. none b.0 b.1 b.3) k)
  | inr k ↦ repeats more n k
]

repeated : {i rest : List ℕ} {ws : List (List ℕ)} → AreIdentifiers i ws rest → (w : List ℕ) → 1 < times w ws → HasRepetition i
repeated (at_end e d) w h = let none = ap (times w) e in absurd (omega (arith, none, h))
repeated (identified {vs = vs} y v q t a e more) w h =
    let all = counted w v e in
    elim (alike w v) [
      | inl b ↦ let less : 1 ≤ times w vs = omega (arith, b.1, all, h) in here y t (found y v q a more (subst (λ z. 1 ≤ times z vs) b.0 less))
      | inr b ↦ let less : 1 < times w vs = omega (arith, b.1, all, h) in later y t (repeated more w less)
    ]
repeated (unidentified y t none more) w h = later y t (repeated more w h)

one_item : (i x y m n : List ℕ) → spells sequence i x m → spells sequence i y n → (x ≡ y) × (m ≡ n)
one_item i x y m n a b = (shows_one sequence tt).one_value i x y m n a b

not_there : (i rest y m : List ℕ) → BeginsWithNone sequence rest → i ≡ rest → spells sequence i y m → ⊥
not_there i rest y m n d t = n y m (subst (λ z. spells sequence z y m) d t)

-- a walk to the end passes the most
most : {i rest m : List ℕ} {ws vs : List (List ℕ)} → AreIdentifiers i ws rest → BeginsWithNone sequence rest → AreIdentifiers i vs m → length vs ≤ length ws
most a n (at_end e d) = let none = ap length e in omega (arith, none)
most {i = i} {rest = rest} (at_end e d) n (identified {m = m} y v q t a f more) = absurd (not_there i rest y m n d t)
most {i = i} {rest = rest} (at_end e d) n (unidentified {m = m} y t none more) = absurd (not_there i rest y m n d t)
most {i = i} {rest = rest} (identified {m = k} {vs = us} x w p s b e left) n (identified {m = m} y v q t a f more) =
    let less = most (subst (λ z. AreIdentifiers z us rest) (one_item i x y k m s t).1 left) n more in
    let all = ap length e in
    let others = ap length f in
    omega (arith, less, all, others)
most {i = i} (identified {m = k} x w p s b e left) n (unidentified {m = m} y t none more) = absurd (none w p (subst (λ z. spells leading_identifier z w p) (one_item i x y k m s t).0 b))
most {i = i} (unidentified {m = k} x s none left) n (identified {m = m} y v q t a f more) = absurd (none v q (subst (λ z. spells leading_identifier z v q) (sym (one_item i x y k m s t).0) a))
most {i = i} {rest = rest} {ws = ws} (unidentified {m = k} x s none left) n (unidentified {m = m} y t other more) = most (subst (λ z. AreIdentifiers z ws rest) (one_item i x y k m s t).1 left) n more

-- one walk after another
joined : {i m rest : List ℕ} {ws vs : List (List ℕ)} → AreIdentifiers i ws m → AreIdentifiers m vs rest → AreIdentifiers i (ws ++ vs) rest
joined {m = m} {rest = rest} {ws = ws} {vs = vs} (at_end e d) b = subst (λ z. AreIdentifiers z (ws ++ vs) rest) (sym d) (subst (λ z. AreIdentifiers m (z ++ vs) rest) (sym e) b)
joined {vs = vs} (identified x w q s a e more) b = identified x w q s a (ap (λ z. z ++ vs) e) (joined more b)
joined (unidentified x s none more) b = unidentified x s none (joined more b)

pub start : {i : List ℕ} → AreIdentifiers i [] i
start = at_end refl refl

module _ {B : Type 0} (text : B → List ℕ) {i left : List ℕ} (kept : List B) (x rest : List ℕ) (a : AreIdentifiers i (map text kept) left) (s : spells sequence left x rest) where
  pub one_more : (b : B) (q : List ℕ) → spells leading_identifier x (text b) q → AreIdentifiers i (map text (kept ++ b ∷ [])) rest
  one_more b q t = subst (λ z. AreIdentifiers i z rest) (sym (map-append text kept (b ∷ []))) (joined a (identified x (text b) q s t refl (at_end refl refl)))

  pub passed_over : BeginsWithNone leading_identifier x → AreIdentifiers i (map text kept) rest
  passed_over n = subst (λ z. AreIdentifiers i z rest) (append-nil (map text kept)) (joined a (unidentified x s n (at_end refl refl)))

  -- there is one more than the most
  pub too_many : (b : B) (q : List ℕ) {n : ℕ} → spells leading_identifier x (text b) q → length kept ≡ n → HasMoreThan n i
  too_many b q t e = (map text (kept ++ b ∷ []), rest, one_more b q t, let l = length-map (kept ++ b ∷ []) text in omega (arith, l, e, length-append {A = B}))

-- all of them were passed
pub told_all : {i left : List ℕ} {ws : List (List ℕ)} {n : ℕ} {b : Bool} → AreIdentifiers i ws left → BeginsWithNone sequence left → length ws ≤ n → IsTrue b ↔ HasTwice ws → (¬ HasMoreThan n i) × (IsTrue b ↔ HasRepetition i)
told_all a none few t = (
  λ (vs, m, more, l). let h = most a none more in omega (arith, h, few, l),
  (λ h. let (w, l) = t.0 h in repeated a w l, λ h. t.1 (repeats a none h)),
)

-- ---- sorting

module _ {X : Type 0} (text : X → List ℕ) where
  abbrev order : X → X → Ordering
  order x y = slice_cmp nat_cmp (text x) (text y)

  -- of two that differ and are in order, the first is less
  less : (x y : X) (r : Ordering) → r ≡ order y x → is_lt r ≡ false → text x ≢ text y → order x y ≡ Less
  less x y Less e h n = absurd (false≢true (sym h))
  less x y Equal e h n = absurd (n (sym (same_text (text y) (text x) (sym (texts_ties (text y) (text x) ∙ ap is_eq (sym e))))))
  less x y Greater e h n = nat_list_cmp_total.antisymm (text x) (text y) ∙ ap ordering_reverse (sym e)

-- each is less than the next one
abbrev Ascend : List ℕ → List (List ℕ) → Type 0
Ascend v [] = Unit {0}
Ascend v (u ∷ us) = (slice_cmp nat_cmp v u ≡ Less) × Ascend u us

is_less : (w v : List ℕ) → slice_cmp nat_cmp w v ≡ Less → w ≢ v
is_less w v l e = let tie = tied_itself nat_list_cmp_total w in let h = subst (λ z. slice_cmp nat_cmp w z ≡ Less) (sym e) l in cc

absent : (w v : List ℕ) (us : List (List ℕ)) → slice_cmp nat_cmp w v ≡ Less → Ascend v us → times w (v ∷ us) ≡ 0
absent w v [] l a = let all = counted w v {vs = []} refl in let none = differs w v (is_less w v l) in omega (arith, all, none)
absent w v (u ∷ us) l a =
    let all = counted w v {vs = u ∷ us} refl in
    let none = differs w v (is_less w v l) in
    let others = absent w u us (nat_list_cmp_total.trans w v u l a.0) a.1 in
    omega (arith, all, none, others)

once : (w v : List ℕ) (us : List (List ℕ)) → Ascend v us → times w (v ∷ us) ≤ 1
once w v [] a = let all = counted w v {vs = []} refl in elim (alike w v) [ inl b ↦ omega (arith, all, b.1) | inr b ↦ omega (arith, all, b.1) ]
once w v (u ∷ us) a =
    let all = counted w v {vs = u ∷ us} refl in
    elim (alike w v) [
      | inl b ↦ let others = absent w u us (subst (λ z. slice_cmp nat_cmp z u ≡ Less) (sym b.0) a.0) a.1 in omega (arith, all, b.1, others)
      | inr b ↦ let others = once w u us a.1 in omega (arith, all, b.1, others)
    ]

module _ {X : Type 0} (text : X → List ℕ) where
  ascends : (x : X) (xs : List X) → IsSortedBy (λ x y. is_lt (order text x y)) (x ∷ xs) → ¬ HaveEqualNeighbours (x ∷ xs) text → Ascend (text x) (map text xs)
  ascends x [] s n = tt
  ascends x (y ∷ ys) s n = (
    less text x y (order text y x) refl (s 0 x (omega arith) (omega arith)) (λ e. n (0, x, omega arith, e)),
    ascends y ys
        (λ k d l h. let e : suc k + 1 ≡ suc (k + 1) = omega arith in subst (λ z. is_lt (order text (get_or (x ∷ (y ∷ ys)) z d) (get_or (y ∷ ys) k d)) ≡ false) e (s (suc k) d (omega arith) (omega arith)))
        (λ (k, d, l, h). let e : suc (k + 1) ≡ suc k + 1 = omega arith in n (suc k, d, omega arith, h ∙ ap (λ z. text (get_or (x ∷ (y ∷ ys)) z d)) e)),
  )

  ordered_once : (xs : List X) → IsSortedBy (λ x y. is_lt (order text x y)) xs → ¬ HaveEqualNeighbours xs text → (w : List ℕ) → times w (map text xs) ≤ 1
  ordered_once [] s n w = omega arith
  ordered_once (x ∷ xs) s n w = once w (text x) (map text xs) (ascends x xs s n)

  neighbours : (xs : List X) (k : ℕ) (d : X) → k + 1 < length xs → text (get_or xs k d) ≡ text (get_or xs (k + 1) d) → 1 < times (text (get_or xs k d)) (map text xs)
  neighbours [] k d l e = absurd (omega arith)
  neighbours (x ∷ []) k d l e = absurd (omega arith)
  neighbours (x ∷ (y ∷ ys)) zero d l e =
      let first = counted (text x) (text x) {vs = map text (y ∷ ys)} refl in
      let second = counted (text x) (text y) {vs = map text ys} refl in
      let one = is_same (text x) (text x) refl in
      let other = is_same (text x) (text y) e in
      omega (arith, first, second, one, other)
  neighbours (x ∷ (y ∷ ys)) (suc k) d l e =
      let step : suc k + 1 ≡ suc (k + 1) = omega arith in
      let h = neighbours (y ∷ ys) k d (omega arith) (e ∙ ap (λ z. text (get_or (x ∷ (y ∷ ys)) z d)) step) in
      let all = counted (text (get_or (y ∷ ys) k d)) (text x) {vs = map text (y ∷ ys)} refl in
      omega (arith, h, all)

  moved : (xs ys : List X) → IsPermutation xs ys → (w : List ℕ) → times w (map text ys) ≡ times w (map text xs)
  moved xs ys p w = sum_by-IsPermutation (same w) (map text xs) (map text ys) (IsPermutation-map text xs ys p)

  -- octets are there twice iff they are side by side in order
  pub twice : (xs ys : List X) (b : Bool) → IsPermutation xs ys → IsSortedBy (λ x y. is_lt (order text x y)) ys → IsTrue b ↔ HaveEqualNeighbours ys text → IsTrue b ↔ HasTwice (map text xs)
  twice xs ys true p s t = (
    λ h. let (k, d, l, e) = t.0 refl in (text (get_or ys k d), subst (λ n. 1 < n) (moved xs ys p (text (get_or ys k d))) (neighbours ys k d l e)),
    λ h. refl,
  )
  twice xs ys false p s t = (
    λ h. absurd (false≢true h),
    λ (w, l). let few = ordered_once ys s (λ n. false≢true (t.1 n)) w in let e = moved xs ys p w in absurd (omega (arith, few, e, l)),
  )

-- an index in range needs no default
any_default : {X : Type 0} (xs : List X) (k : ℕ) (d e : X) → k < length xs → get_or xs k d ≡ get_or xs k e
any_default [] k d e l = absurd (omega arith)
any_default (x ∷ xs) zero d e l = refl
any_default (x ∷ xs) (suc k) d e l = any_default xs k d e (omega arith)

-- the next two differ, too
pub one_further : {X : Type 0} (text : X → List ℕ) (xs : List X) (place : ℕ) (d e : X) → 1 ≤ place → place < length xs → false ≡ pointwise nat_eq (text (get_or xs (place - 1) d)) (text (get_or xs place e)) → ((k : ℕ) (c : X) → k + 1 < place → text (get_or xs k c) ≢ text (get_or xs (k + 1) c)) → (k : ℕ) (c : X) → k + 1 < place + 1 → text (get_or xs k c) ≢ text (get_or xs (k + 1) c)
one_further text xs place d e p l f before =
    all_adjacent_more xs (λ x y. text x ≢ text y) place p before
    (λ c q. other_text (text (get_or xs (place - 1) d)) (text (get_or xs place e)) f (ap text (any_default xs (place - 1) d c (omega arith)) ∙ q ∙ ap text (any_default xs place c e l)))
