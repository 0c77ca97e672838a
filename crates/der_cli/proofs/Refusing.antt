-- Refusals of inputs and of their blocks.
use Rattle.std.proofs.Common.{◌≡◌, ◌≢◌, ◌⊎◌, ◌+◌, ◌<◌, ◌≤◌, ℕ, suc, Bool, Err, IfErr, IfOk, IsErr, IsTrue, MatchResult, Ok, OnOk, Result, false, inl, inr, List, ◌++◌, ap, arith, codes, length, refl, subst, sym, true}
use Rattle.std.proofs.lemmas.List.{length-append, length-drop}
use Rattle.der_input.specs.declared.error.FormError.{FormError}
use Rattle.der_input.specs.declared.error.FormError.TheVariants.{OutOfMemory}
use Rattle.der_input.specs.Blocks.{BeginsWithBlock}
use Rattle.der_cli.specs.Inputs.{IsAfterBlocks, after_more, after_none}

-- what holds if something was told
pub refuses_told : {E : Type 0} (r : Result Bool E) (T P : Type 0) → OnOk r T → (T → P) → IfOk r (λ ok. ok ≡ false → P)
refuses_told (Ok x) T P t f = λ no. f t
refuses_told (Err e) T P t f = tt

-- what is told under a condition
pub told_if : {E : Type 0} (r : Result Bool E) (A P : Type 0) → (A → OnOk r P) → OnOk r (A → P)
told_if (Ok x) A P f = f
told_if (Err e) A P f = tt

-- what is taken, by whether it is accepted
pub taken_so : {E : Type 0} (r : Result Bool E) (P Q : Type 0) (R : Bool → Type 0) → IfOk r (λ ok. IsTrue ok → P) → IfOk r (λ ok. ok ≡ false → Q) → (P → R true)
    → (Q → R false) → IfOk r R
taken_so (Ok true) P Q R p q f g = f (p refl)
taken_so (Ok false) P Q R p q f g = g (q refl)
taken_so (Err e) P Q R p q f g = tt

pub taken_not : {E : Type 0} (r : Result Bool E) (T : Type 0) (R : Bool → Type 0) → IfOk r (λ ok. ok ≡ false) → OnOk r T → (T → R false) → IfOk r R
taken_not (Ok x) T R is t f = subst R (sym is) (f t)
taken_not (Err e) T R is t f = tt

pub when_true : {E : Type 0} (r : Result Bool E) (R : Bool → Type 0) (P : Type 0) → IfOk r R → (R true → P) → IfOk r (λ ok. IsTrue ok → P)
when_true (Ok x) R P t f = λ is. f (subst R is t)
when_true (Err e) R P t f = tt

pub when_false : {E : Type 0} (r : Result Bool E) (R : Bool → Type 0) (P : Type 0) → IfOk r R → (R false → P) → IfOk r (λ ok. ok ≡ false → P)
when_false (Ok x) R P t f = λ is. f (subst R is t)
when_false (Err e) R P t f = tt

false_is_not_true : {P : Type 0} → false ≡ true → P
false_is_not_true e = cc

-- what isn't decoded is no octets
pub no_octets : {A E : Type 0} (r : Result A E) → IsErr r → (w : A) → ¬ (r ≡ Ok w)
no_octets (Ok v) failed w e = false_is_not_true failed
no_octets (Err y) failed w e = cc

pub no_octets_after : {A E : Type 0} (r : Result A E) (y : E) → r ≡ Err y → (w : A) → ¬ (r ≡ Ok w)
no_octets_after (Ok v) y failed w e = cc
no_octets_after (Err x) y failed w e = cc

-- digits are octets that are refused, or no digits
pub of_digits : {A : Type 0} (r : Result A FormError) (P S : A → Type 0) (Q : FormError → Type 0) (T R : Type 0) → MatchResult r P (λ e. (e ≢ OutOfMemory) × T)
    → IfOk r S → IfErr r (λ e. (e ≡ OutOfMemory) ⊎ Q e) → ((v : A) → S v → P v → R) → ((e : FormError) → Q e → T → R) → R
of_digits (Ok v) P S Q T R p s e f g = f v s p
of_digits (Err y) P S Q T R p s (inl none) f g = absurd (p.0 none)
of_digits (Err y) P S Q T R p s (inr why) f g = g y why p.1

behind : (a b : List ℕ) → length b ≤ length (a ++ b)
behind a b = let e = length-append a b in omega (arith, e)

-- a block has an octet at least
shorter : {j label lines rest : List ℕ} → BeginsWithBlock j label lines rest → length rest < length j
shorter {j = j} {label = label} {lines = lines} {rest = rest} b =
    let last = codes "-----" ++ rest in
    let end = codes "-----END " ++ (label ++ last) in
    let some : length (codes "-----") ≡ 5 = refl in
    omega (
      arith,
      some,
      length-append (codes "-----") rest,
      behind label last,
      behind (codes "-----END ") (label ++ last),
      behind lines end,
      ap length b.end.split.whole,
      behind (codes "-----") b.opened,
      behind label (codes "-----" ++ b.opened),
      ap length b.begin.2.whole,
      ap length b.begin.1.2,
      length-drop (b.begin.1.0 + 11) j,
    )

-- there are no more blocks than octets
pub few_blocks : {i j : List ℕ} {n : ℕ} → IsAfterBlocks i n j → n + length j ≤ length i
few_blocks after_none = omega arith
few_blocks (after_more label lines rest after begins) = omega (arith, few_blocks after, shorter begins)

-- before the first block the text is whole
pub before_first : {i j : List ℕ} {n : ℕ} → IsAfterBlocks i n j → n ≡ 0 → j ≡ i
before_first after_none e = refl
before_first (after_more label lines rest after begins) e = absurd (omega (arith, e))

-- one more block was there
pub after_next : {i j : List ℕ} {n : ℕ} (label lines rest left : List ℕ) → IsAfterBlocks i n j → BeginsWithBlock j label lines rest → left ≡ rest → IsAfterBlocks i (n + 1) left
after_next {i = i} {n = n} label lines rest left after begins e =
    let one : suc n ≡ n + 1 = omega arith in
    subst (λ m. IsAfterBlocks i m left) one (subst (λ r. IsAfterBlocks i (suc n) r) (sym e) (after_more label lines rest after begins))
