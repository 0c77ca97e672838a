-- The order of a SET OF, octet by octet, and that no two DER encodings tie.
use Rattle.std.proofs.Common.{◌≡◌, ℕ, zero, suc, ◌<◌, ◌≤◌, ◌⊎◌, List, [], ◌∷◌, ◌++◌, refl, sym, ◌∙◌, arith, inl, inr, append-nil}
use Rattle.der_base.specs.Laws.{EncodingsDoNotTie}
use Rattle.der_base.specs.SetOfOrder.{Descends, padded}
use Rattle.der_base.specs.Spelling.{DerSpells}
use Rattle.der_base.specs.Tree.{Node}
use Rattle.der_values.proofs.LawsLaws.Spellings.DerWithinBer.{der_spelling_same}

-- the same by recursion: a is the greater
abbrev pub Greater : List ℕ → List ℕ → Type 0
Greater [] b = ⊥
Greater (x ∷ a) [] = (0 < x) ⊎ Greater a []
Greater (x ∷ a) (y ∷ b) = (y < x) ⊎ ((x ≡ y) × Greater a b)

further : (x y : ℕ) (a b : List ℕ) (k : ℕ) → x ≡ y → ((j : ℕ) → j < k → padded a j ≡ padded b j) → (j : ℕ) → j < suc k → padded (x ∷ a) j ≡ padded (y ∷ b) j
further x y a b k e before zero l = e
further x y a b k e before (suc j) l = before j (omega (arith, l))

-- behind the end of b its octets are 0
further_past : (a : List ℕ) (k : ℕ) → ((j : ℕ) → j < k → padded a j ≡ padded [] j) → (j : ℕ) → j < suc k → padded (0 ∷ a) j ≡ padded [] j
further_past a k before zero l = refl
further_past a k before (suc j) l = before j (omega (arith, l))

nothing_below : (P : ℕ → Type 0) (j : ℕ) → j < 0 → P j
nothing_below P j l = absurd (omega (arith, l))

pub greater_descends : (a b : List ℕ) → Greater a b → Descends a b
greater_descends [] b h = absurd h
greater_descends (x ∷ a) [] (inl l) = record { place = 0; before = λ j m. nothing_below (λ j. padded (x ∷ a) j ≡ padded [] j) j m; there = l }
greater_descends (zero ∷ a) [] (inr h) =
    let d = greater_descends a [] h in record { place = suc d.place; before = further_past a d.place d.before; there = d.there }
greater_descends (suc x ∷ a) [] (inr h) = record { place = 0; before = λ j m. nothing_below (λ j. padded (suc x ∷ a) j ≡ padded [] j) j m; there = omega arith }
greater_descends (x ∷ a) (y ∷ b) (inl l) = record { place = 0; before = λ j m. nothing_below (λ j. padded (x ∷ a) j ≡ padded (y ∷ b) j) j m; there = l }
greater_descends (x ∷ a) (y ∷ b) (inr (e, h)) =
    let d = greater_descends a b h in record { place = suc d.place; before = further x y a b d.place e d.before; there = d.there }

at_place : (a b : List ℕ) (k : ℕ) → ((j : ℕ) → j < k → padded a j ≡ padded b j) → padded b k < padded a k → Greater a b
at_place [] b k before there = absurd (omega (arith, there))
at_place (x ∷ a) [] zero before there = inl there
at_place (x ∷ a) [] (suc k) before there = inr (at_place a [] k (λ j l. before (suc j) (omega (arith, l))) there)
at_place (x ∷ a) (y ∷ b) zero before there = inl there
at_place (x ∷ a) (y ∷ b) (suc k) before there = inr (before 0 (omega arith), at_place a b k (λ j l. before (suc j) (omega (arith, l))) there)

pub descends_greater : (a b : List ℕ) → Descends a b → Greater a b
descends_greater a b d = at_place a b d.place d.before d.there

not_less : (x y : ℕ) → ¬ (x < y) → y ≤ x
not_less x y h = omega (arith, h)

more : (x y : ℕ) (a b : List ℕ) → x ≡ y → ((r : List ℕ) × (a ≡ b ++ r)) ⊎ ((r : List ℕ) × (b ≡ a ++ r))
    → ((r : List ℕ) × (x ∷ a ≡ y ∷ b ++ r)) ⊎ ((r : List ℕ) × (y ∷ b ≡ x ∷ a ++ r))
more x y a b e (inl (r, q)) = inl (r, rw (e, q) refl)
more x y a b e (inr (r, q)) = inr (r, rw (e, q) refl)

one_front : (a b : List ℕ) (o o' : Node) (d d' : ℕ) → DerSpells a o d → DerSpells b o' d' → ((r : List ℕ) × (a ≡ b ++ r)) ⊎ ((r : List ℕ) × (b ≡ a ++ r)) → a ≡ b
one_front a b o o' d d' s s' (inl (r, q)) = (der_spelling_same a b [] r o o' d d' s s' (append-nil a ∙ q)).0
one_front a b o o' d d' s s' (inr (r, q)) = sym (der_spelling_same b a [] r o' o d' d s' s (append-nil b ∙ q)).0

-- lists of octets of which neither is greater are the same but for octets of 0 at the end of one
pub tie : (a b : List ℕ) → ¬ Greater a b → ¬ Greater b a → ((r : List ℕ) × (a ≡ b ++ r)) ⊎ ((r : List ℕ) × (b ≡ a ++ r))
tie [] b h k = inr (b, refl)
tie (x ∷ a) [] h k = inl (x ∷ a, refl)
tie (x ∷ a) (y ∷ b) h k =
    let e : x ≡ y = omega (arith, not_less y x (λ l. h (inl l)), not_less x y (λ l. k (inl l))) in
    more x y a b e (tie a b (λ g. h (inr (e, g))) (λ g. k (inr (sym e, g))))

-- so two DER encodings of which neither is greater are the same: one would be a front of the other
pub encodings_do_not_tie : EncodingsDoNotTie
encodings_do_not_tie a b (o, d, s) (o', d', s') h k = one_front a b o o' d d' s s' (tie a b (λ g. h (greater_descends a b g)) (λ g. k (greater_descends b a g)))
