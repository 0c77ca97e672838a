-- What an input shows by BER: an object or a cut, each in one way; and where an element is cut short.
use Rattle.std.proofs.Common.{◌≡◌, ℕ, zero, suc, ◌≤◌, List, ◌++◌, refl, sym, ◌∙◌, arith}
use Rattle.der_base.specs.Any.{AnyLacks}
use Rattle.der_base.specs.Spelling.{BerSpells, framing_budget}
use Rattle.der_base.specs.Stable.{BerIsCut}
use Rattle.der_base.specs.Tree.{Node}
use Rattle.der_base.proofs.Framing.Cuts.{lacks_same}
use Rattle.der_values.proofs.LawsLaws.Spellings.BerFaults as faults

pub spelled_same : (d : ℕ) (i b b' rest rest' : List ℕ) (o o' : Node) → i ≡ b ++ rest → BerSpells b o d framing_budget → i ≡ b' ++ rest' → BerSpells b' o' d framing_budget → (o ≡ o') × (rest ≡ rest')
spelled_same d i b b' rest rest' o o' q s q' s' = let z = faults.spelling_same b b' rest rest' o o' d d s s' (sym q ∙ q') in (z.1, z.2)

pub spelled_not_cut : (d : ℕ) (i b rest : List ℕ) (o : Node) (n : ℕ) → i ≡ b ++ rest → BerSpells b o d framing_budget → BerIsCut d i n → ⊥
spelled_not_cut d i b rest o n q s k = faults.spelled_not_cut i b rest o d s q k.0

pub cut_same : (d : ℕ) (i : List ℕ) (n n' : ℕ) → BerIsCut d i n → BerIsCut d i n' → n ≡ n'
cut_same d i n n' h h' = lacks_same h.1 h'.1 refl

-- an element that is cut short, at a depth of at least 1
pub any_cut : (d : ℕ) (i : List ℕ) (n : ℕ) → 1 ≤ d → AnyLacks i n → BerIsCut d i n
any_cut zero i n h l = absurd (omega arith)
any_cut (suc d) i n h l = (l.0, l.1, λ e r. faults.cut_shows_nothing d i n e l r)
