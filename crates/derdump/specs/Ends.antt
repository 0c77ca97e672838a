-- How the program ends.
use Rattle.std.specs.Prelude.{◌≡◌, ℕ, ◌≤◌, true, false, List, [], length, Option, None, Some, Result, Ok, Err, IfSome}
use Rattle.std.specs.Io.KnownBytes.{IsAtEnd}
use Rattle.der_parser.specs.Tree.{Node}
use Rattle.derdump.specs.declared.fault.Fault.{Fault}
use Rattle.derdump.specs.declared.fault.Fault.TheVariants.{Usage, Input, Element, Write, OutOfMemory}
use Rattle.der_parser.specs.declared.cursor.ReadError.{ReadError}
use Rattle.der_parser.specs.declared.error.Error.{Error as BerError}
use Rattle.derdump.specs.declared.command.Command.{Command}
use Rattle.der_parser.specs.declared.Rules.{Rules}
use Rattle.derdump.specs.declared.sink.Sink.{Sink}
use Rattle.derdump.specs.declared.source.Source.{Source}
use Rattle.derdump.specs.declared.source.Standing.TheVariants.{Ended}
use Rattle.derdump.specs.Elements.{Elements}
use Rattle.derdump.specs.Outputs.{TookOutputs}
use Rattle.derdump.specs.Refused.{IsRefused}
use Rattle.derdump.specs.Sinks.{has_failed, is_flushed, octets_of}
use Rattle.derdump.specs.Sources.{IsInputFault, limit, octets_left, octets_taken, standing_of}
use Rattle.derdump.specs.Words.{rules_of}

-- no write of it failed, and what it took is flushed
abbrev pub IsHandedOn : {W : Type 0} → Sink W → Type 0
IsHandedOn out = (has_failed out ≡ false) × (is_flushed out ≡ true)

-- i is elements up to its end, or up to one that is refused
abbrev pub EndsAt : Rules → List ℕ → List Node → Option (ReadError BerError) → Type 0
EndsAt rules i os None = Elements rules i os []
EndsAt rules i os (Some r) = IsRefused rules i os r

-- the output of each element of i was written, up to its end or up to one that is refused
abbrev pub Printed : Command → List ℕ → Option (List ℕ) → Option (List ℕ) → Option (ReadError BerError) → Type 0
Printed command i old new r = (os : List Node) × EndsAt (rules_of command) i os r × TookOutputs command old new os

-- How printing ends: all is printed and handed on; or an element is refused, and what stands before it is printed and
-- handed on; or a write failed; or there was no memory.
abbrev pub PrintEnds : {W : Type 0} → (W → Option (List ℕ)) → Command → List ℕ → Sink W → Sink W
    → Result (Unit {0}) Fault → Type 0
PrintEnds contents command i out out' (Ok _) = IsHandedOn out'
    × Printed command i (octets_of contents out) (octets_of contents out') None
PrintEnds contents command i out out' (Err (Element r)) = IsHandedOn out'
    × Printed command i (octets_of contents out) (octets_of contents out') (Some r)
PrintEnds contents command i out out' (Err Write) = has_failed out' ≡ true
PrintEnds contents command i out out' (Err OutOfMemory) = has_failed out' ≡ false
PrintEnds contents command i out out' (Err (Input f)) = ⊥
PrintEnds contents command i out out' (Err Usage) = ⊥

-- the reader was read to its end, and gave no more octets than the limit
pub record WasRead {R : Type 0} (remaining : R → Option (List ℕ)) (old new : Source R) : Type 0 where
  pub ended : standing_of new ≡ Ended
  pub end : IsAtEnd (octets_left remaining new)
  pub taken : octets_taken new ≤ limit
  pub small : IfSome (octets_left remaining old) (λ xs. length xs ≤ limit)

-- the whole input was read, it is elements, the output of each was written, and handed on with no fault
pub record EndsWell {R W : Type 0} (remaining : R → Option (List ℕ)) (contents : W → Option (List ℕ))
    (command : Command) (reader reader' : Source R) (out out' : Sink W) : Type 0 where
  pub read : WasRead remaining reader reader'
  pub printed : IfSome (octets_left remaining reader)
      (λ xs. Printed command xs (octets_of contents out) (octets_of contents out') None)
  pub handed_on : IsHandedOn out'

-- each fault has its cause
abbrev pub IsCause : {R W : Type 0} → (R → Option (List ℕ)) → (W → Option (List ℕ)) → Command
    → Source R → Source R → Sink W → Sink W → Fault → Type 0
IsCause remaining contents command reader reader' out out' Usage = ⊥
IsCause remaining contents command reader reader' out out' (Input f) =
    IsInputFault reader' f × (out' ≡ out)
IsCause remaining contents command reader reader' out out' (Element r) =
    WasRead remaining reader reader' × IsHandedOn out'
    × IfSome (octets_left remaining reader)
    (λ xs. Printed command xs (octets_of contents out) (octets_of contents out') (Some r))
IsCause remaining contents command reader reader' out out' Write =
    WasRead remaining reader reader' × (has_failed out' ≡ true)
IsCause remaining contents command reader reader' out out' OutOfMemory =
    WasRead remaining reader reader' × (has_failed out' ≡ false)
