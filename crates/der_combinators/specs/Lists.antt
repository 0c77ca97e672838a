-- SEQUENCE and SET: their tag numbers, their objects, and the calls of a parser of their items.
use Rattle.std.specs.Prelude.{ℕ, List, Result}
use Rattle.std.specs.Borrow.{Bor}
use Rattle.std.specs.Global.{Vec}
use Rattle.der_base.specs.declared.error.Err.{Err as Refused}
use Rattle.der_base.specs.declared.error.Error.{Error as BerError}
use Rattle.der_base.specs.declared.error.ErrorKind.{ErrorKind}
use Rattle.der_base.specs.declared.header.Header.{Header}
use Rattle.der_base.specs.declared.rules.Rules.{Rules}
use Rattle.der_base.specs.declared.rules.Rules.TheVariants.{Ber, Der}
use Rattle.der_base.specs.Containers.{Answered}
use Rattle.der_base.specs.ListSteps.{ListSteps, items_of}
use Rattle.der_base.specs.SetOfOrder.{OrderedSteps}
use Rattle.der_object.specs.declared.object.BerObject.{BerObject}
use Rattle.der_object.specs.declared.object.BerObjectContent.TheVariants.{Sequence as SequenceContent}
use Rattle.der_object.specs.declared.object.BerObjectContent.TheVariants.{Set as SetContent}
use Rattle.der_object.specs.Objects.{IsMadeOf}
use Rattle.der_combinators.specs.declared.list_type.ListType.{ListType}
use Rattle.der_combinators.specs.declared.list_type.ListType.TheVariants.{Sequence, Set}

abbrev pub list_number : ListType → ℕ
list_number Sequence = 16
list_number Set = 17

-- o is the list of the items
abbrev pub IsListOf : ListType → Vec BerObject → BerObject → Type 0
IsListOf Sequence items o = IsMadeOf (SequenceContent items) o
IsListOf Set items o = IsMadeOf (SetContent items) o

-- the calls of the parser of the items: by DER what they take in a SET OF ascends (X.690 11.6)
abbrev pub ItemSteps : {F O E : Type 0} → Rules → ListType → (Bor (List ℕ) → ErrorKind → E → Type 0)
    → (BerError → E → Type 0) → (F → Bor (List ℕ) → Answered O E → F → Type 0)
    → List ℕ → F → Result (List O) (Refused E) → F → Type 0
ItemSteps Ber list from_error_kind_gives from_gives step w f answer g =
    ListSteps step from_error_kind_gives w f answer g
ItemSteps Der Sequence from_error_kind_gives from_gives step w f answer g =
    ListSteps step from_error_kind_gives w f answer g
ItemSteps Der Set from_error_kind_gives from_gives step w f answer g =
    OrderedSteps from_error_kind_gives from_gives step w f answer g

-- a container calls a parser of items in the place of a parser of content and header
abbrev pub OnItems : {F O E : Type 0} → Rules → ListType → (Bor (List ℕ) → ErrorKind → E → Type 0)
    → (BerError → E → Type 0) → (F → Bor (List ℕ) → Answered O E → F → Type 0)
    → F → Bor (List ℕ) → Header → Answered (Vec O) E → F → Type 0
OnItems rules list from_error_kind_gives from_gives step f content h r g =
    ItemSteps rules list from_error_kind_gives from_gives step content.now f (items_of r) g
