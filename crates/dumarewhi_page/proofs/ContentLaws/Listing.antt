-- Rows that are written one after another.
use Rattle.std.proofs.Common.{◌≡◌, ℕ, zero, suc, ◌+◌, ◌-◌, ◌<◌, ◌≤◌, ◌⊎◌, ◌==◌, if◌then◌else◌, List, [], ◌∷◌, ◌++◌, length, take, sym, ap, ◌∙◌, arith, refl, inl, inr, append_assoc, length-append, set, get_or, replicate}
use Rattle.std.proofs.lemmas.Bool.Decides.{eqb_tells}
use Rattle.std.proofs.lemmas.List.{take_all, take_more_set, take-append-le, append-nil, set_past, length-set, get_or-replicate, get_or-set_same, get_or-set_other, length-replicate}
use Rattle.der_elements.specs.Visits.{Visited}
use Rattle.dumarewhi_page.specs.declared.content.row.PageRow.{PageRow}
use Rattle.dumarewhi_page.specs.Content.Rows.{AreRows, around_in, last_with, row_after, rows_after}

below_or_not : (n m : ℕ) → (n < m) ⊎ (m ≤ n)
below_or_not n zero = inr (omega arith)
below_or_not zero (suc m) = inl (omega arith)
below_or_not (suc n) (suc m) = elim (below_or_not n m) [ inl h ↦ inl (omega (arith, h)) | inr h ↦ inr (omega (arith, h)) ]

pub rows_none : (rows : List PageRow) → AreRows [] rows 0
unfolding rows_after
rows_none rows = (refl, sym (take_all (length rows) [] (omega arith)))

length-rows : (before vs : List Visited) → length (rows_after before vs) ≡ length vs
unfolding rows_after
length-rows before [] = refl
length-rows before (v ∷ vs) = omega (arith, length-rows (before ++ v ∷ []) vs)

-- one more at the end
one_row_more : (before vs : List Visited) (v : Visited) → rows_after before (vs ++ v ∷ []) ≡ rows_after before vs ++ row_after (before ++ vs) v ∷ []
unfolding rows_after
one_row_more before [] v = ap (λ l. row_after l v ∷ []) (sym (append-nil before))
one_row_more before (u ∷ vs) v =
    ap (λ l. row_after before u ∷ l) (one_row_more (before ++ u ∷ []) vs v ∙ ap (λ l. rows_after (before ++ u ∷ []) vs ++ row_after l v ∷ []) (append_assoc before (u ∷ []) vs))

-- a row after the others, if there is room
more_rows : (all rows : List PageRow) (n : ℕ) (row : PageRow) → n ≡ length all → take n rows ≡ take (length rows) all
    → take (n + 1) (set rows n row) ≡ take (length (set rows n row)) (all ++ row ∷ [])
more_rows all rows n row e h =
    let size : length (all ++ row ∷ []) ≡ length all + 1 = length-append all (row ∷ []) in
    let same : length (set rows n row) ≡ length rows = length-set rows n row in
    elim (below_or_not n (length rows)) [
      | inl room ↦ (
          take_more_set rows n row room
          ∙ ap (λ us. us ++ row ∷ []) (h ∙ take_all (length rows) all (omega (arith, e, room)))
          ∙ sym (take_all (length (set rows n row)) (all ++ row ∷ []) (omega (arith, e, room, size, same)))
          )
      | inr full ↦ (
          ap (take (n + 1)) (set_past rows n row full)
          ∙ take_all (n + 1) rows (omega (arith, full))
          ∙ sym (take_all n rows full) ∙ h
          ∙ sym (take-append-le (length rows) all (row ∷ []) (omega (arith, e, full)))
          ∙ ap (λ k. take k (all ++ row ∷ [])) (sym same)
          )
    ]

pub rows_more : (vs : List Visited) (rows : List PageRow) (n : ℕ) (row : PageRow) (v : Visited) → AreRows vs rows n → row ≡ row_after vs v
    → AreRows (vs ++ v ∷ []) (set rows n row) (n + 1)
rows_more vs rows n row v h e =
    let before = rows_after [] vs in
    let all : rows_after [] (vs ++ v ∷ []) ≡ before ++ row ∷ [] = one_row_more [] vs v ∙ ap (λ z. before ++ z ∷ []) (sym e) in
    let size = length-rows [] vs in (
      omega (arith, h.0, length-append vs (v ∷ [])),
      more_rows before rows n row (h.0 ∙ sym size) h.1 ∙ ap (λ l. take (length (set rows n row)) l) (sym all),
    )

last_more : (k l n : ℕ) (vs : List Visited) (v : Visited) → last_with k l n (vs ++ v ∷ []) ≡ (if v.depth == k then suc (n + length vs) else last_with k l n vs)
unfolding last_with
last_more k l n [] v = let e : n + 0 ≡ n = omega arith in ap (λ m. if v.depth == k then suc m else l) (sym e)
last_more k l n (u ∷ vs) v =
    let e : suc n + length vs ≡ n + length (u ∷ vs) = omega arith in
    last_more k (if u.depth == k then suc n else l) (suc n) vs v ∙ ap (λ m. if v.depth == k then suc m else last_with k (if u.depth == k then suc n else l) (suc n) vs) e

-- the last of each depth
pub record AreLast (rows : List ℕ) (vs : List Visited) : Type 0 where
  pub size : length rows ≡ 101
  pub last : (k : ℕ) → k < 101 → get_or rows k 0 ≡ last_with k 0 0 vs

pub last_none : (rows : List ℕ) → rows ≡ replicate 101 0 → AreLast rows []
unfolding last_with
last_none rows e = record { size = ap length e ∙ length-replicate {A = ℕ} 101 0; last = λ k h. ap (λ l. get_or l k 0) e ∙ get_or-replicate {A = ℕ} 101 k 0 0 h }

pub last_set : (rows : List ℕ) (vs : List Visited) (v : Visited) (d n : ℕ) → AreLast rows vs → v.depth ≡ d → n ≡ length vs → AreLast (set rows d (n + 1)) (vs ++ v ∷ [])
last_set rows vs v d n h e c = record { size = length-set rows d (n + 1) ∙ h.size; last = last }
  where
    last : (k : ℕ) → k < 101 → get_or (set rows d (n + 1)) k 0 ≡ last_with k 0 0 (vs ++ v ∷ [])
    last k small =
        elim (eqb_tells v.depth k) [
          | inl (t, same) ↦ (
              let q : k ≡ d = sym same ∙ e in
              let fits : d < length rows = omega (arith, h.size, q, small) in
              ap (λ j. get_or (set rows d (n + 1)) j 0) q ∙ get_or-set_same rows d (n + 1) 0 fits ∙ omega (arith, c) ∙ ap (λ b. if b then suc (0 + length vs) else last_with k 0 0 vs) (sym t) ∙ sym (last_more k 0 0 vs v)
              )
          | inr (t, other) ↦ (
              get_or-set_other rows d k (n + 1) 0 (λ z. other (e ∙ sym z)) ∙ h.last k small ∙ ap (λ b. if b then suc (0 + length vs) else last_with k 0 0 vs) (sym t) ∙ sym (last_more k 0 0 vs v)
              )
        ]

pub around_is : (rows : List ℕ) (vs : List Visited) (d : ℕ) → AreLast rows vs → d ≤ 100 → (if d == 0 then 0 else get_or rows (d - 1) 0) ≡ around_in d vs
around_is rows vs d h small = ap (λ m. if d == 0 then 0 else m) (h.last (d - 1) (omega (arith, small)))
