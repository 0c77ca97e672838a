-- Values of lists, and numbers that aren't negative.
use Rattle.std.proofs.Common.{◌≡◌, ◌≢◌, ◌∷◌, ◌<◌, [], List, ℕ, None, Option, Some, arith, length, pos, refl, subst}
use Rattle.std.specs.Option.{option_map}
use Rattle.extension_text.specs.Names.Pieces.{Each, IsTextOf, no_more, one_more}
use Rattle.extension_text.specs.Extensions.{natural}

-- texts of what stands for values are texts of the values
pub of_values : {X V : Type 0} {Next : List ℕ → V → List ℕ → Type 0} {view : X → V} {IsText : V → List ℕ → Type 0} {i text : List ℕ} → Each Next (IsTextOf view (λ x. IsText (view x))) i text → Each Next IsText i text
of_values (no_more none) = no_more none
of_values {IsText = IsText} (one_more v rest text others n x more) = one_more v rest text others n (subst (λ u. IsText u text) x.1 x.2) (of_values more)

pub not_nil : (w : List ℕ) → 0 < length w → w ≢ []
not_nil [] some e = omega (arith, some)
not_nil (a ∷ w) some e = cc

-- numbers that aren't negative
pub natural_is : (n : Option ℕ) → natural (option_map pos n) ≡ n
natural_is (Some n) = refl
natural_is None = refl
