-- Distinguished names (X.501 9.2) in DER: a SEQUENCE OF sets of attributes, each a SEQUENCE of an object identifier and
-- a string. Of the elements around the strings and identifiers the numbers are compared, and neither their class nor
-- their constructed bit.
use Rattle.std.specs.Prelude.{◌≡◌, ℕ, ◌≤◌, Bool, false, IsTrue, List, [], ◌∷◌, ◌++◌, length, Result, IfOk, MatchResult}
use Rattle.std.specs.Borrow.{Bor}
use Rattle.std.specs.List.{concat}
use Rattle.der_parser.specs.declared.error.Err.{Err as Refused}
use Rattle.der_parser.specs.declared.error.Err.TheVariants.{OutOfMemory}
use Rattle.der_parser.specs.declared.error.Error.{Error as BerError}
use Rattle.der_parser.specs.declared.ber.Class.{Class}
use Rattle.der_parser.specs.declared.ber.Class.TheVariants.{Universal}
use Rattle.der_parser.specs.Headers.{BeginsWithDerHeader}
use Rattle.der_parser.specs.SetOfOrder.{IsAscending}
use Rattle.der_parser.specs.Spelling.{DerSpells, max_object_size}
use Rattle.der_parser.specs.Text.{is_one_of}
use Rattle.der_parser.specs.Tree.{Node, node, string}

-- an identifier: whether it is relative, and its content octets
abbrev pub Identifier : Type 0
Identifier = Bool × List ℕ

-- the identifier, and the tree of the string
abbrev pub Attribute : Type 0
Attribute = Identifier × Node

-- the attributes of each set, in their order
abbrev pub RelativeNames : Type 0
RelativeNames = List (List Attribute)

-- b is a header of DER with the number t, and its content octets w
abbrev pub IsElementOf : ℕ → List ℕ → List ℕ → Type 0
IsElementOf t b w = (c : Class) × (p : Bool) × BeginsWithDerHeader b c p t (length w) w

-- b is the OBJECT IDENTIFIER, primitive and of any class
abbrev pub SpellsIdentifier : List ℕ → Identifier → Type 0
SpellsIdentifier b x = (x.0 ≡ false) × (c : Class) × BeginsWithDerHeader b c false 6 (length x.1) x.1
    × (length x.1 ≤ max_object_size)

-- b is the DER spelling of a UTF8String, a PrintableString or an IA5String
abbrev pub SpellsString : List ℕ → Node → Type 0
SpellsString b o = (k : ℕ) × (s : List ℕ) × IsTrue (is_one_of (12 ∷ 19 ∷ 22 ∷ []) k)
    × (o ≡ node Universal false k (string k s)) × DerSpells b o 1

-- the octets ss are the values vs, one after another
abbrev pub SpellEach : {V : Type 0} → (List ℕ → V → Type 0) → List (List ℕ) → List V → Type 0
SpellEach P [] [] = Unit {0}
SpellEach P (s ∷ ss) (v ∷ vs) = P s v × SpellEach P ss vs
SpellEach P _ _ = ⊥

-- the content of an attribute is its type, and then its value
pub record SpellsParts (w : List ℕ) (a : Attribute) : Type 0 where
  pub identifier : List ℕ
  pub string : List ℕ
  pub octets : w ≡ identifier ++ string
  pub type : SpellsIdentifier identifier a.0
  pub value : SpellsString string a.1

-- b is an element of the number t, and its content octets are the value
abbrev pub Encloses : {V : Type 0} → ℕ → (List ℕ → V → Type 0) → List ℕ → V → Type 0
Encloses t IsContent b v = (w : List ℕ) × IsElementOf t b w × IsContent w v

-- the octets w join those of the values
abbrev pub Joins : {V : Type 0} → (List ℕ → V → Type 0) → List ℕ → List V → Type 0
Joins P w vs = (ss : List (List ℕ)) × (w ≡ concat ss) × SpellEach P ss vs

-- and those of the values do not descend (X.690 11.6)
abbrev pub JoinsInOrder : {V : Type 0} → (List ℕ → V → Type 0) → List ℕ → List V → Type 0
JoinsInOrder P w vs = (ss : List (List ℕ)) × (w ≡ concat ss) × SpellEach P ss vs × IsAscending ss

abbrev pub SpellsAttribute : List ℕ → Attribute → Type 0
SpellsAttribute b a = Encloses 16 SpellsParts b a

abbrev pub SpellsSet : List ℕ → List Attribute → Type 0
SpellsSet b attributes = Encloses 17 (JoinsInOrder SpellsAttribute) b attributes

abbrev pub SpellsName : List ℕ → RelativeNames → Type 0
SpellsName b n = Encloses 16 (Joins SpellsSet) b n

-- i begins with the octets of a value, and rest follows
abbrev pub BeginsWith : {V : Type 0} → (List ℕ → V → Type 0) → List ℕ → V → List ℕ → Type 0
BeginsWith Spells i v rest = (b : List ℕ) × (i ≡ b ++ rest) × Spells b v

-- A reader of values: it answers those that i begins with, and answers one wherever i begins with it, but for memory.
-- Which refusal it answers else is left open.
pub record AnswersSpelled {T V : Type 0} (Spells : List ℕ → V → Type 0) (view : T → V) (i : List ℕ)
    (result : Result (Bor (List ℕ) × T) (Refused BerError)) : Type 0 where
  pub found : IfOk result (λ x. BeginsWith Spells i (view x.1) x.0.now)
  pub only : (v : V) (rest : List ℕ) → BeginsWith Spells i v rest
      → MatchResult result (λ x. (view x.1 ≡ v) × (x.0.now ≡ rest)) (λ e. e ≡ OutOfMemory)

-- a reader of names
abbrev pub AnswersName : {T : Type 0} → (T → RelativeNames) → List ℕ
    → Result (Bor (List ℕ) × T) (Refused BerError) → Type 0
AnswersName name_of i result = AnswersSpelled SpellsName name_of i result
