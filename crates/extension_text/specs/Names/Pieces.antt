-- Texts of which more than one may be right, as one with a name from a table: which ones are.
use Rattle.std.specs.Prelude.{◌≡◌, ℕ, List, [], ◌∷◌, ◌++◌}

-- this text
abbrev pub Exactly : List ℕ → List ℕ → Type 0
Exactly t text = text ≡ t

-- a text that is right by P, and one after it that is right by Q
pub record Then (P Q : List ℕ → Type 0) (text : List ℕ) : Type 0 where
  pub first : List ℕ
  pub second : List ℕ
  pub is_first : P first
  pub is_second : Q second
  pub whole : text ≡ first ++ second

infixr 20 ◌⨾◌
abbrev pub ◌⨾◌ : (List ℕ → Type 0) → (List ℕ → Type 0) → List ℕ → Type 0
◌⨾◌ P Q = Then P Q

-- values that octets begin with, one after another, and the octets after them
abbrev pub AreNext : {V : Type 0} → (List ℕ → V → List ℕ → Type 0) → List V → List ℕ → List ℕ → Type 0
AreNext Next [] i end = i ≡ end
AreNext Next (v ∷ vs) i end = (rest : List ℕ) × Next i v rest × AreNext Next vs rest end

-- A text for each of the values that octets begin with, in their order. Next says with which value octets begin, and
-- what follows it.
pub data Each {V : Type 0} (Next : List ℕ → V → List ℕ → Type 0) (IsText : V → List ℕ → Type 0)
    : List ℕ → List ℕ → Type 0 where
  no_more : {i : List ℕ} → ((v : V) (rest : List ℕ) → ¬ Next i v rest) → Each Next IsText i []
  one_more : {i : List ℕ} (v : V) (rest text others : List ℕ) → Next i v rest → IsText v text
      → Each Next IsText rest others → Each Next IsText i (text ++ others)

-- a text of something that stands for the value
abbrev pub IsTextOf : {X V : Type 0} → (X → V) → (X → List ℕ → Type 0) → V → List ℕ → Type 0
IsTextOf {X} view IsText v text = (x : X) × (view x ≡ v) × IsText x text

-- a text of each of some, one after another
abbrev pub InOrder : {X : Type 0} → (X → List ℕ → Type 0) → List X → List ℕ → Type 0
InOrder IsText [] = Exactly []
InOrder IsText (x ∷ xs) = IsText x ⨾ InOrder IsText xs
