use Rattle.std.proofs.Common.{◌≡◌, ◌∙◌, List, None, Option, Some, ap, codes, option_map, refl, ℕ}
use Rattle.std.specs.Prelude.{unwrap_or}
use Rattle.std.specs.Borrow.{Bor}
use Rattle.der_cli.proofs.inputs.file_of.Goals as goal

-- the text behind a reference, or behind the other
behind : (o : Option (Bor (List ℕ))) (other : Bor (List ℕ)) → (unwrap_or o other).now ≡ unwrap_or (option_map (λ s. s.now) o) other.now
behind None other = refl
behind (Some x) other = refl

pub returns : goal.returns
returns c = ap (λ s. s.now) c.unwrap_or.ensures ∙ behind c.word_of.result _ ∙ ap (λ o. unwrap_or o (codes "-")) c.word_of.ensures
