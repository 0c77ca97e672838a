-- Octets of a text that belong to earlier items.
use Rattle.std.proofs.Common.{◌≡◌, ℕ, zero, suc, ◌+◌, List, [], ◌∷◌, ◌++◌, drop, length, refl, ap, ◌∙◌}
use Rattle.std.specs.Prelude.{Ok, Err}
use Rattle.der_text.specs.declared.error.Problem.{Problem}
use Rattle.der_text.specs.declared.item.Item.{Item}
use Rattle.der_text.specs.Encoded.{◌>>=◌, fault}
use Rattle.der_text.specs.Lexemes.{items_after, lexeme, or_fault}
use Rattle.der_text.proofs.Sequences.{joined}

pub skipped : (text : List ℕ) (n : ℕ) → items_after text n ≡ items_after (drop n text) 0
skipped [] zero = refl
skipped [] (suc n) = refl
skipped (c ∷ cs) zero = refl
skipped (c ∷ cs) (suc n) = skipped cs n

-- what a text has of which the first items are known
pub one_lexeme : (c : ℕ) (cs : List ℕ) (is : List Item) (used : ℕ) → lexeme c cs ≡ Ok (is, used)
    → items_after (c ∷ cs) 0 ≡ joined is (items_after (drop used cs) 0)
one_lexeme c cs is used e =
    ap (λ r. or_fault (length cs + 1) r >>= λ x. items_after cs x.1 >>= λ js. Ok (x.0 ++ js)) e ∙ ap (joined is) (skipped cs used)

pub no_lexeme : (c : ℕ) (cs : List ℕ) (p : Problem) → lexeme c cs ≡ Err p → items_after (c ∷ cs) 0 ≡ Err (fault p (length cs + 1))
no_lexeme c cs p e = ap (λ r. or_fault (length cs + 1) r >>= λ x. items_after cs x.1 >>= λ js. Ok (x.0 ++ js)) e
