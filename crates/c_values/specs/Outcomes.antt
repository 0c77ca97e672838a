-- What a reader of elements returns to C.
use Rattle.std.specs.Prelude.{◌≡◌, ℕ, ◌-◌, nat_le, if◌then◌else◌, List, [], length, Result, Ok, Err, IfErr}
use Rattle.std.specs.Prelude.{MatchResult}
use Rattle.der_base.specs.declared.any.Any.{Any}
use Rattle.der_base.specs.declared.error.Err.{Err as Refused}
use Rattle.der_base.specs.declared.error.Err.TheVariants.{Incomplete, Error, Failure, OutOfMemory}
use Rattle.der_base.specs.declared.error.Error.{Error as BerError}
use Rattle.der_base.specs.declared.error.Needed.TheVariants.{Unknown, Size}
use Rattle.der_base.specs.declared.header.Header.{Header}
use Rattle.der_base.specs.declared.rules.Rules.{Rules}
use Rattle.der_base.specs.Any.{AnyAnswer, AnswersAny, AnswersDerAny}
use Rattle.der_base.specs.Headers.{ReadsDerHeader, ReadsHeader}
use Rattle.der_base.specs.Refusal.{refusal}
use Rattle.der_canon.specs.declared.error.NotCanonical.{NotCanonical}
use Rattle.der_canon.specs.Errors.{IsErrorOf}
use Rattle.der_canon.specs.Written.{KeepsDer, WritesDer}
use Rattle.der_elements.specs.Check.Listing.{ListsElement}
use Rattle.der_elements.specs.Check.Readers.{BeginsWithElement}
use Rattle.der_elements.specs.declared.cause.Cause.{Cause}
use Rattle.der_elements.specs.declared.cause.Cause.TheVariants.{Cut}
use Rattle.der_elements.specs.declared.error.ElementError.{ElementError}
use Rattle.der_elements.specs.FirstFault.{IsFirstFaultOf}
use Rattle.c_values.specs.declared.element.DmElement.{DmElement}
use Rattle.c_values.specs.declared.outcome.DmOutcome.{DmOutcome}
use Rattle.c_values.specs.Elements.{first_slot, slot_of}
use Rattle.c_values.specs.ErrorNumbers.{cause_number, refusal_number}

-- so many elements are in so many octets
abbrev pub read_outcome : ℕ → ℕ → DmOutcome
read_outcome count size = record { elements = count; length = size; place = 0; missing = 0; status = 0; error = 0 }

-- an error of this number, and where
abbrev pub error_outcome : ℕ → ℕ → DmOutcome
error_outcome number at = record { elements = 0; length = 0; place = at; missing = 0; status = 1; error = number }

-- so many octets are missing
abbrev pub incomplete_outcome : ℕ → DmOutcome
incomplete_outcome n = record { elements = 0; length = 0; place = 0; missing = n; status = 2; error = 0 }

-- an Error or an Incomplete; no reader returns another here
abbrev pub refused_outcome : Refused BerError → ℕ → DmOutcome
refused_outcome (Error e) at = error_outcome (refusal_number (refusal e)) at
refused_outcome (Incomplete (Size n)) at = incomplete_outcome n
refused_outcome (Incomplete Unknown) at = error_outcome 0 at
refused_outcome (Failure e) at = error_outcome 0 at
refused_outcome OutOfMemory at = error_outcome 0 at

-- of a fault: of its cause, and the offset of the element that shows it
abbrev pub fault_outcome : Cause → ℕ → DmOutcome
fault_outcome (Cut n) at = incomplete_outcome n
fault_outcome cause at = error_outcome (cause_number cause) at

-- Elements are read to this depth at most. It counts an element and those around it.
abbrev pub greatest_depth : ℕ
greatest_depth = 101

-- By the rules and to this depth, i begins with an element: the outcome counts it and those inside it, and the buffer
-- keeps them in preorder, as far as there is room. Or i begins with none, and the outcome is that of its first fault.
pub data Lists (r : Rules) (d : ℕ) (i : List ℕ) (old new : List DmElement) (o : DmOutcome) : Type 0 where
  read : (rest : List ℕ) (n : ℕ) → ListsElement r slot_of d i rest n old new
      → o ≡ read_outcome n (length i - length rest) → Lists r d i old new o
  refused : (f : ElementError) → ((rest : List ℕ) → ¬ BeginsWithElement r d i rest) → IsFirstFaultOf r d i f
      → o ≡ fault_outcome f.cause f.offset → Lists r d i old new o

-- the same where there is no room
abbrev pub Checks : Rules → ℕ → List ℕ → DmOutcome → Type 0
Checks r d i o = (new : List DmElement) × Lists r d i [] new o

-- The outcome is that of the first element, of which only the header is read, and by BER the framing.
abbrev pub outcome_of_first : ℕ → AnyAnswer → DmOutcome
outcome_of_first n (Ok x) = read_outcome 1 (n - length x.0.now)
outcome_of_first n (Err e) = refused_outcome e 0

-- the slot keeps the element in front of i, which has this header, and its content octets follow that
abbrev pub KeepsFirst : (List ℕ → Header → List ℕ → Type 0) → List ℕ → Any → DmElement → Type 0
KeepsFirst Reads i a e = (behind : List ℕ) × Reads i a.header behind
    × (e ≡ first_slot a.header (length i - length behind) (length a.bytes.now))

-- And the element is written, where its header is read.
abbrev pub FindsDer : List ℕ → DmElement → DmElement → DmOutcome → Type 0
FindsDer i old new o = (found : AnyAnswer) × AnswersDerAny i found × (o ≡ outcome_of_first (length i) found)
    × MatchResult found (λ x. KeepsFirst ReadsDerHeader i x.1 new) (λ e. new ≡ old)

abbrev pub FindsBer : List ℕ → DmElement → DmElement → DmOutcome → Type 0
FindsBer i old new o = (found : AnyAnswer) × AnswersAny i found × (o ≡ outcome_of_first (length i) found)
    × MatchResult found (λ x. KeepsFirst ReadsHeader i x.1 new) (λ e. new ≡ old)

-- so many octets are needed, more than the buffer has
abbrev pub no_room_outcome : ℕ → DmOutcome
no_room_outcome size = record { elements = 0; length = size; place = 0; missing = 0; status = 3; error = 0 }

-- the outcome of elements that were written to a buffer with room for so many octets
abbrev pub outcome_of_written : ℕ → Result ℕ NotCanonical → DmOutcome
outcome_of_written room (Ok n) = if nat_le n room then read_outcome 0 n else no_room_outcome n
outcome_of_written room (Err e) = fault_outcome e.cause e.offset

-- If there is room for what is written, it is the input as DER writes it. What is DER already is written as it is, as
-- far as there is room. An error is the first fault of the input, where it has one.
abbrev pub Writes : List ℕ → List ℕ → List ℕ → DmOutcome → Type 0
Writes i old new o = (found : Result ℕ NotCanonical) × (o ≡ outcome_of_written (length old) found)
    × WritesDer i new found × KeepsDer i old new found × IfErr found (IsErrorOf i)
