-- What follows the first timestamp of a list.
use Rattle.std.proofs.Common.{◌≡◌, ℕ, ◌<◌, List, ◌∷◌, ◌++◌, length, drop, sym, ap, ◌∙◌, arith, length-append}
use Rattle.std.specs.List.{IsSplitAt}
use Rattle.std.proofs.lemmas.List.{drop_at}
use Rattle.der_base.specs.declared.rules.Rules.TheVariants.{Der}
use Rattle.der_extensions.specs.WebExtensions.{Vector}

-- octets that begin with two others are the same
one_rest : (high low : ℕ) (w : List ℕ) (h l : ℕ) (x : List ℕ) → high ∷ low ∷ w ≡ h ∷ l ∷ x → w ≡ x
one_rest high low w h l x e = cc

-- behind the number of its octets there are a timestamp and what follows it
pub after_count : {i : List ℕ} (high low : ℕ) (following : List ℕ) → i ≡ high ∷ low ∷ following
    → (w rest : List ℕ) → Vector Der i w rest → following ≡ w ++ rest
unfolding Vector
after_count high low following e w rest z = one_rest high low following z.0 z.1 (w ++ rest) (sym e ∙ z.2)

pub two_octets : (i : List ℕ) → length i < 2 → (w rest : List ℕ) → ¬ Vector Der i w rest
unfolding Vector
two_octets i s w rest z = omega (arith, s, ap length z.2)

-- a timestamp of so many octets is behind that number
module _ {i following : List ℕ} (high low count : ℕ) (e : i ≡ high ∷ low ∷ following) (w rest : List ℕ) (z : Vector Der i w rest)
    (q : length w ≡ count) where
  pub after_timestamp : {a b : List ℕ} → IsSplitAt following count a b → b ≡ rest
  after_timestamp s = s.2 ∙ ap (drop count) (after_count high low following e w rest z) ∙ drop_at w rest count q

  pub not_short : ¬ (length following < count)
  not_short s = omega (arith, s, q, ap length (after_count high low following e w rest z), length-append w rest)
