-- Worked rows of the order of a SET OF.
use Rattle.std.proofs.Common.{[], ◌∷◌, refl, lit<, arith, inl, inr}
use Rattle.der_base.specs.SetOfOrder.{Descends, IsAscending}
use Rattle.der_values.proofs.LawsLaws.Containers.SetOfOrders.{Greater, greater_descends, descends_greater}

-- 02 03 01 00 01 and then 02 03 01 00 00
pub descending : Descends (2 ∷ 3 ∷ 1 ∷ 0 ∷ 1 ∷ []) (2 ∷ 3 ∷ 1 ∷ 0 ∷ 0 ∷ [])
descending = greater_descends _ _ (inr (refl, inr (refl, inr (refl, inr (refl, inl (lit< tt))))))

not_alike : Greater (2 ∷ 1 ∷ 1 ∷ []) (2 ∷ 1 ∷ 1 ∷ []) → ⊥
not_alike (inl l) = omega (arith, l)
not_alike (inr (_, inl l)) = omega (arith, l)
not_alike (inr (_, inr (_, inl l))) = omega (arith, l)
not_alike (inr (_, inr (_, inr (_, h)))) = h

-- 02 01 01 twice
alike : Descends (2 ∷ 1 ∷ 1 ∷ []) (2 ∷ 1 ∷ 1 ∷ []) → ⊥
alike d = not_alike (descends_greater _ _ d)

-- 05 00 and 05 are alike: the shorter is padded
longer : Greater (5 ∷ 0 ∷ []) (5 ∷ []) → ⊥
longer (inl l) = omega (arith, l)
longer (inr (_, inl l)) = omega (arith, l)
longer (inr (_, inr h)) = h

shorter : Greater (5 ∷ []) (5 ∷ 0 ∷ []) → ⊥
shorter (inl l) = omega (arith, l)
shorter (inr (_, h)) = h

pub tie_ascends : IsAscending ((5 ∷ 0 ∷ []) ∷ (5 ∷ []) ∷ [])
tie_ascends = ((λ d. longer (descends_greater _ _ d)), tt)

tie_ascends_back : IsAscending ((5 ∷ []) ∷ (5 ∷ 0 ∷ []) ∷ [])
tie_ascends_back = ((λ d. shorter (descends_greater _ _ d)), tt)

-- 05 01 and then 05
pub longer_descends : Descends (5 ∷ 1 ∷ []) (5 ∷ [])
longer_descends = greater_descends _ _ (inr (refl, inl (lit< tt)))

-- 02 01 01, 02 01 03, 02 01 02: the last two descend
pub third_descends : IsAscending ((2 ∷ 1 ∷ 1 ∷ []) ∷ (2 ∷ 1 ∷ 3 ∷ []) ∷ (2 ∷ 1 ∷ 2 ∷ []) ∷ []) → ⊥
third_descends h = h.1.0 (greater_descends _ _ (inr (refl, inr (refl, inl (lit< tt)))))

-- a length counts before a content: 02 01 80 and then 02 02 00 80
length_first : Greater (2 ∷ 1 ∷ 0x80 ∷ []) (2 ∷ 2 ∷ 0 ∷ 0x80 ∷ []) → ⊥
length_first (inl l) = omega (arith, l)
length_first (inr (_, inl l)) = omega (arith, l)
length_first (inr (_, inr (e, _))) = cc
