-- Inputs of which an element is refused.
use Rattle.std.specs.Prelude.{◌≡◌, ℕ, ◌+◌, List, length, Err, ⊤}
use Rattle.der_parser.specs.Answer.{MatchAnswer}
use Rattle.der_parser.specs.Tree.{Node}
use Rattle.der_parser.specs.declared.cursor.ReadError.{ReadError}
use Rattle.der_parser.specs.declared.error.Error.{Error as BerError}
use Rattle.der_parser.specs.declared.Rules.{Rules}
use Rattle.derdump.specs.Elements.{AreElements, BeginsWith, Elements, Refuses, IsCutShort}

-- why the element at the front of i was not read and written: i shows this refusal, or lacks so many octets, or there
-- was no memory
abbrev pub Explains : Rules → List ℕ → ReadError BerError → Type 0
Explains rules i r = MatchAnswer {T = ⊤} (Err r.reason)
    (λ _. ⊥) (Refuses rules i) (IsCutShort rules i) ⊤

-- there was no memory for it
abbrev pub WantsMemory : ReadError BerError → Type 0
WantsMemory r = MatchAnswer {T = ⊤} (Err r.reason) (λ _. ⊥) (λ _. ⊥) (λ _. ⊥) ⊤

-- Up to the offset i is the spellings of the objects. There an element is refused, and only where there was no memory
-- may one begin there.
pub record IsRefused (rules : Rules) (i : List ℕ) (objects : List Node) (r : ReadError BerError) : Type 0 where
  pub rest : List ℕ
  pub front : Elements rules i objects rest
  pub place : r.offset + length rest ≡ length i
  pub explains : Explains rules rest r
  pub begins : (o : Node) (after : List ℕ) → BeginsWith rules rest o after → WantsMemory r
  pub whole : AreElements rules i → WantsMemory r
