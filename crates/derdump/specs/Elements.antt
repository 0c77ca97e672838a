-- Inputs that are elements, one after another.
use Rattle.std.specs.Prelude.{ℕ, List, [], ◌∷◌}
use Rattle.der_parser.specs.BerReading.{FramingNeedsMemory, NeedsMemory as BerNeedsMemory}
use Rattle.der_parser.specs.DerReading.{NeedsMemory as DerNeedsMemory}
use Rattle.der_parser.specs.Exactly.{AnswersExactly}
use Rattle.der_parser.specs.Fault.{ShowsFault, DerShowsFault}
use Rattle.der_parser.specs.Readings.{Answer, value_of}
use Rattle.der_parser.specs.Refusal.{Refusal}
use Rattle.der_parser.specs.Spelling.{BeginsWithBer, BeginsWithDer}
use Rattle.der_parser.specs.Stable.{BerIsCut, DerIsCut}
use Rattle.der_parser.specs.Tree.{Node}
use Rattle.der_parser.specs.View.{tree}
use Rattle.der_parser.specs.declared.Rules.{Rules}
use Rattle.der_parser.specs.declared.Rules.TheVariants.{Ber, Der}

-- i begins with the spelling of the object by the rules, to depth 50, and rest follows
abbrev pub BeginsWith : Rules → List ℕ → Node → List ℕ → Type 0
BeginsWith Ber i o rest = BeginsWithBer 50 i o rest
BeginsWith Der i o rest = BeginsWithDer 50 i o rest

-- i begins with the spellings of the objects, one after another, and rest follows
pub data Elements (rules : Rules) : List ℕ → List Node → List ℕ → Type 0 where
  none : {i : List ℕ} → Elements rules i [] i
  one_more : {i after rest : List ℕ} {o : Node} {os : List Node}
      → BeginsWith rules i o after → Elements rules after os rest → Elements rules i (o ∷ os) rest

-- the whole input is elements
abbrev pub AreElements : Rules → List ℕ → Type 0
AreElements rules i = (os : List Node) × Elements rules i os []

-- a front of i shows the refusal
abbrev pub Refuses : Rules → List ℕ → Refusal → Type 0
Refuses Ber i e = ShowsFault 50 i e
Refuses Der i e = DerShowsFault 50 i e

-- i is a proper front of an element, and lacks n octets
abbrev pub IsCutShort : Rules → List ℕ → ℕ → Type 0
IsCutShort Ber i n = BerIsCut 50 i n
IsCutShort Der i n = DerIsCut 50 i n

-- reading the element with which i begins may take memory
abbrev pub NeedsMemory : Rules → List ℕ → Type 0
NeedsMemory Ber i = BerNeedsMemory 50 i
NeedsMemory Der i = DerNeedsMemory 50 i

-- and of one that is cut short
abbrev pub CutNeedsMemory : Rules → List ℕ → Type 0
CutNeedsMemory Ber i = FramingNeedsMemory 50 i
CutNeedsMemory Der i = ⊥

-- the reader of an element answers exactly what i shows
abbrev pub AnswersElement : Rules → List ℕ → Answer → Type 0
AnswersElement rules i result = AnswersExactly result value_of
    (λ x. BeginsWith rules i (tree x.1) x.0.now) (λ v. BeginsWith rules i v.0 v.1)
    (Refuses rules i) (IsCutShort rules i) (NeedsMemory rules i) (CutNeedsMemory rules i)
