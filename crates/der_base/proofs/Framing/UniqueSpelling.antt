-- The laws of framing, as the theorems above it cite them.
use Rattle.std.proofs.Common.{◌≡◌, ℕ, ◌≤◌, Bool, List, [], ◌++◌, sym, subst, ◌∙◌, append-nil}
use Rattle.der_base.specs.declared.header.Class.{Class}
use Rattle.der_base.specs.Tree.{Node, node}
use Rattle.der_base.specs.Spelling.{BeginsWithElement, BerSpells, framing_budget}
use Rattle.der_base.proofs.Framing.Elements.{IsElement, element_same, begins_element, element_begins}
use Rattle.der_base.proofs.Framing.BudgetIndependence.{IsElementOf, hinge}
use Rattle.der_base.proofs.Spellings.Contents.{spelling_same}
use Rattle.der_base.proofs.Times.OneReading.{times_same}

-- a list begins with one element only, whatever the budgets
pub begins_same : (i : List ℕ) (k k' : ℕ) (c c' : Class) (p p' : Bool) (t t' : ℕ) (w w' rest rest' : List ℕ) → BeginsWithElement i k c p t w rest → BeginsWithElement i k' c' p' t' w' rest'
    → (c ≡ c') × (p ≡ p') × (t ≡ t') × (w ≡ w') × (rest ≡ rest')
begins_same i k k' c c' p p' t t' w w' rest rest' h h' =
    let g = begins_element i k c p t w rest h in
    let g' = begins_element i k' c' p' t' w' rest' h' in
    let q = element_same g.0 g'.0 k k' c c' p p' t t' w w' rest rest' g.2 g'.2 (sym g.1 ∙ g'.1) in
    (q.class, q.constructed, q.number, q.content, q.rest)

-- spellings at the front of one list are one, of one tree
pub unique_spelling : (b b' : List ℕ) (o o' : Node) (d d' : ℕ) (x y : List ℕ) → BerSpells b o d framing_budget → BerSpells b' o' d' framing_budget → b ++ x ≡ b' ++ y → (b ≡ b') × (o ≡ o')
unique_spelling = spelling_same times_same

-- the hinge in the words of the definitions
abbrev pub IsOneElement : List ℕ → Node → ℕ → Type 0
IsOneElement b (node c p t x) k = (w : List ℕ) × BeginsWithElement b k c p t w []

one_element : (b : List ℕ) (o : Node) (k : ℕ) → IsElementOf b o k → IsOneElement b o k
one_element b (node c p t x) k (w, h) = (w, subst (λ l. BeginsWithElement l k c p t w []) (append-nil b) (element_begins b [] k c p t w h))

element_of : (b : List ℕ) (o : Node) (k : ℕ) → IsOneElement b o k → IsElementOf b o k
element_of b (node c p t x) k (w, h) = let g = begins_element b k c p t w [] h in (w, subst (λ l. IsElement l k c p t w) (sym (g.1 ∙ append-nil g.0)) g.2)

pub narrow : (b : List ℕ) (o : Node) (d k : ℕ) → BerSpells b o d k → k ≤ framing_budget → BerSpells b o d framing_budget × IsOneElement b o k
narrow b o d k h le = let q = hinge b o d k le h in (q.0, one_element b o k q.1)
