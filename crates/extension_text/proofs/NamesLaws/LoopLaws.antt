-- Texts of the values of a list, in loops.
use Rattle.std.proofs.Common.{◌≡◌, ◌++◌, [], List, ℕ, append-nil, append_assoc, subst, sym}
use Rattle.extension_text.specs.Names.Pieces.{Each, no_more, one_more}

-- with any texts of the values that are left, what was sent makes texts of all of them
abbrev pub Goes : {V : Type 0} (Next : List ℕ → V → List ℕ → Type 0) (IsText : V → List ℕ → Type 0) → List ℕ → List ℕ → List ℕ → Type 0
Goes Next IsText all sent left = (others : List ℕ) → Each Next IsText left others → Each Next IsText all (sent ++ others)

module _ {V : Type 0} {Next : List ℕ → V → List ℕ → Type 0} {IsText : V → List ℕ → Type 0} where
  pub goes_start : {all left : List ℕ} → left ≡ all → Goes Next IsText all [] left
  goes_start same others e = subst (λ i. Each Next IsText i others) same e

  pub goes_on : {all left rest : List ℕ} (sent text : List ℕ) (v : V) → Next left v rest → IsText v text → Goes Next IsText all sent left → Goes Next IsText all (sent ++ text) rest
  goes_on {all} {left} {rest} sent text v n t goes others e = subst (Each Next IsText all) (sym (append_assoc sent text others)) (goes (text ++ others) (one_more v rest text others n t e))

  pub goes_end : {all sent left : List ℕ} → ((v : V) (rest : List ℕ) → ¬ Next left v rest) → Goes Next IsText all sent left → Each Next IsText all sent
  goes_end {all} {sent} none goes = subst (Each Next IsText all) (append-nil sent) (goes [] (no_more none))
