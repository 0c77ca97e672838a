-- Numbers of broken rules.
use Rattle.std.proofs.Common.{◌≡◌, ℕ, ◌+◌, ◌<◌, ◌≤◌, ◌⊎◌, inl, inr, List, [], ◌∷◌, ◌++◌, length, take, Some, None, slice_get, get_or, refl, sym, ap, ◌∙◌, subst, arith, length-append}
use Rattle.std.proofs.lemmas.List.{take_all, take_more, length-take-le}
use Rattle.std.proofs.lemmas.Option.{none-some, slice_get_within, get_or_from_slice_get, slice_get_cases}
use Rattle.der_elements.specs.Check.Overlay.{overlay}
use Rattle.c_formats.specs.Rules.{AreBroken, PutsBroken}
use Rattle.der_elements.proofs.CheckLaws.Overlays.{overlay_none, overlay_more}

-- the numbers of the broken ones of the first rules were put
pub record BrokenSoFar {R : Type 0} (IsBroken : R → Type 0) (n : ℕ) (rules : List R) (index : ℕ) (old new : List ℕ) (count : ℕ) : Type 0 where
  pub numbers : List ℕ
  pub are : AreBroken IsBroken n (take index rules) numbers
  pub put : new ≡ overlay old 0 numbers
  pub counted : count ≡ length numbers
  pub few : length numbers ≤ index

module _ {R : Type 0} (IsBroken : R → Type 0) where
  nothing : (n : ℕ) → AreBroken IsBroken n [] []
  unfolding AreBroken
  nothing n = refl

  kept : (n : ℕ) (rs : List R) (r : R) (numbers : List ℕ) → AreBroken IsBroken n rs numbers → ¬ IsBroken r
      → AreBroken IsBroken n (rs ++ r ∷ []) numbers
  unfolding AreBroken
  kept n [] r numbers h k = (numbers, inr (k, refl), h)
  kept n (x ∷ xs) r numbers h k = (h.0, h.1, kept (n + 1) xs r h.0 h.2 k)

  broken : (n : ℕ) (rs : List R) (r : R) (numbers : List ℕ) (m : ℕ) → m ≡ n + length rs → AreBroken IsBroken n rs numbers → IsBroken r
      → AreBroken IsBroken n (rs ++ r ∷ []) (numbers ++ m ∷ [])
  unfolding AreBroken
  broken n [] r numbers m e h b = let same : m ≡ n = omega (arith, e) in ([], inl (b, ap (λ v. v ++ m ∷ []) h ∙ ap (λ k. k ∷ []) same), refl)
  broken n (x ∷ xs) r numbers m e (others, inl h, t) b =
      (others ++ m ∷ [], inl (h.0, ap (λ v. v ++ m ∷ []) h.1), broken (n + 1) xs r others m (omega (arith, e)) t b)
  broken n (x ∷ xs) r numbers m e (others, inr h, t) b =
      (others ++ m ∷ [], inr (h.0, ap (λ v. v ++ m ∷ []) h.1), broken (n + 1) xs r others m (omega (arith, e)) t b)

  module _ (n : ℕ) (rules : List R) (old : List ℕ) where
    pub none_so_far : BrokenSoFar IsBroken n rules 0 old old 0
    none_so_far = record { numbers = []; are = nothing n; put = overlay_none old 0; counted = refl; few = omega arith }

    one_more : (i : ℕ) (r : R) → slice_get rules i ≡ Some r → take (i + 1) rules ≡ take i rules ++ r ∷ []
    one_more i r s = take_more rules i r (slice_get_within rules i r s) ∙ ap (λ x. take i rules ++ x ∷ []) (get_or_from_slice_get rules i r r s)

    pub one_kept : (i : ℕ) (r : R) (new : List ℕ) (count : ℕ) → slice_get rules i ≡ Some r → BrokenSoFar IsBroken n rules i old new count → ¬ IsBroken r
        → BrokenSoFar IsBroken n rules (i + 1) old new count
    one_kept i r new count s h k = record {
      numbers = h.numbers;
      are = rw (one_more i r s) (kept n (take i rules) r h.numbers h.are k);
      put = h.put;
      counted = h.counted;
      few = omega (arith, h.few);
    }

    pub one_broken : (i : ℕ) (r : R) (before new : List ℕ) (count : ℕ) → slice_get rules i ≡ Some r → BrokenSoFar IsBroken n rules i old before count → IsBroken r
        → new ≡ overlay before count ((n + i) ∷ []) → BrokenSoFar IsBroken n rules (i + 1) old new (count + 1)
    one_broken i r before new count s h b put =
        let asked : length (take i rules) ≡ i = length-take-le i rules (omega (arith, slice_get_within rules i r s)) in
        let zero_more : length h.numbers ≡ 0 + length h.numbers = omega arith in
        let longer : length (h.numbers ++ (n + i) ∷ []) ≡ length h.numbers + 1 = length-append h.numbers ((n + i) ∷ []) in record {
          numbers = h.numbers ++ (n + i) ∷ [];
          are = rw (one_more i r s) (broken n (take i rules) r h.numbers (n + i) (omega (arith, asked)) h.are b);
          put = put ∙ ap (λ v. overlay v count ((n + i) ∷ [])) h.put ∙ ap (λ k. overlay (overlay old 0 h.numbers) k ((n + i) ∷ [])) h.counted ∙ ap (λ k. overlay (overlay old 0 h.numbers) k ((n + i) ∷ [])) zero_more ∙ overlay_more old 0 h.numbers ((n + i) ∷ []);
          counted = omega (arith, h.counted, longer);
          few = omega (arith, h.few, longer);
        }

    past : (i : ℕ) → slice_get rules i ≡ None → length rules ≤ i
    past i s = by_cases (slice_get_cases rules i).1
      where
        by_cases : ((x : R) × (i < length rules) × (slice_get rules i ≡ Some x) × (get_or rules i x ≡ x)) ⊎ ((length rules ≤ i) × (slice_get rules i ≡ None)) → length rules ≤ i
        by_cases (inl h) = absurd (none-some h.0 (sym s ∙ h.2))
        by_cases (inr h) = h.0

    pub all_asked : (i : ℕ) (new : List ℕ) (count : ℕ) → slice_get rules i ≡ None → BrokenSoFar IsBroken n rules i old new count
        → PutsBroken IsBroken n rules old (new, count)
    all_asked i new count s h = (h.numbers, subst (λ x. AreBroken IsBroken n x h.numbers) (take_all i rules (past i s)) h.are, h.put, h.counted)
