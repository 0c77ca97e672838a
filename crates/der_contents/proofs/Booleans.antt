-- The rules of a BOOLEAN, by the tests of its value.
use Rattle.std.proofs.Common.{◌≡◌, ℕ, List, [], ◌∷◌, ◌⊎◌, length, refl, inl, inr}
use Rattle.std.proofs.lemmas.Bool.{false≢true}
use Rattle.der_base.specs.declared.error.Error.{Error as BerError}
use Rattle.der_base.specs.declared.error.Error.TheVariants.{InvalidLength}
use Rattle.der_base.specs.declared.rules.Rules.{Rules}
use Rattle.der_base.specs.declared.rules.Rules.TheVariants.{Ber, Der}
use Rattle.der_base.specs.LeafRefusal.{IsFirstRefusal, NoneHolds}
use Rattle.der_base.specs.Refusal.{refusal, invalid_length}
use Rattle.der_base.proofs.Leaves.Decided.{sure, decided_equal, decided_list, decided_or}
use Rattle.der_values.specs.Kinds.{leaf_tests}
use Rattle.der_contents.specs.declared.content_error.ContentError.TheVariants.{BooleanLength, BooleanValue}
use Rattle.der_contents.specs.ContentRules.{AllHold, IsFirstBroken, boolean_rules}

one_octet : (w : List ℕ) → ¬ (¬ (length w ≡ 1)) → length w ≡ 1
one_octet w n = sure _ (decided_equal (length w) 1) n

-- both rules hold
pub holds : (r : Rules) (w : List ℕ) → NoneHolds (leaf_tests r 1 w) → AllHold (boolean_rules r w)
holds Ber w n = (one_octet w n.1.0, tt)
holds Der w n =
    let strict : (w ≡ 0 ∷ []) ⊎ (w ≡ 255 ∷ []) = sure _ (decided_or _ _ (decided_list w (0 ∷ [])) (decided_list w (255 ∷ []))) (λ q. n.1.0 ((λ a. q (inl a)), (λ b. q (inr b)))) in
    (one_octet w n.0, (strict, tt))

-- the rule of the length is broken
pub size : (r : Rules) (w : List ℕ) → IsFirstRefusal (leaf_tests r 1 w) invalid_length → IsFirstBroken (boolean_rules r w) BooleanLength
size Ber w (inl h) = absurd (false≢true h.0)
size Ber w (inr (n, inl h)) = inl (h.0, refl)
size Ber w (inr (n, inr h)) = absurd h.1
size Der w (inl h) = inl (h.0, refl)
size Der w (inr (n, inl h)) = let e = h.1 in cc
size Der w (inr (n, inr h)) = absurd h.1

-- the rule of the value is broken

is_length : (e : BerError) → refusal e ≡ invalid_length → e ≡ InvalidLength
is_length InvalidLength h = refl
is_length _ h = cc

pub value : (r : Rules) (w : List ℕ) (e : BerError) → ¬ (e ≡ InvalidLength) → IsFirstRefusal (leaf_tests r 1 w) (refusal e) → IsFirstBroken (boolean_rules r w) BooleanValue
value Ber w e m (inl h) = absurd (false≢true h.0)
value Ber w e m (inr (n, inl h)) = absurd (m (is_length e h.1))
value Ber w e m (inr (n, inr h)) = absurd h.1
value Der w e m (inl h) = absurd (m (is_length e h.1))
value Der w e m (inr (n, inl h)) = inr (one_octet w n, inl ((λ q. elim q [ inl a ↦ h.0.0 a | inr b ↦ h.0.1 b ]), refl))
value Der w e m (inr (n, inr h)) = absurd h.1
