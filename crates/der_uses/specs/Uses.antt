-- What the examples return.
use Rattle.std.specs.Prelude.{◌≡◌, ◌≢◌, ◌⊎◌, ℕ, ◌<◌, ◌≤◌, ◌^◌, suc, ℤ, pos, Bool, true, false, Option, None, Some}
use Rattle.std.specs.Prelude.{List, [], ◌++◌, length, Result, IfOk, MatchOption, MatchResult}
use Rattle.std.specs.Prelude.{option_map, slice_get}
use Rattle.std.specs.Borrow.{Bor}
use Rattle.std.specs.declared.alloc.AllocError.{AllocError}
use Rattle.der_parser.specs.declared.error.Err.{Err as Refused}
use Rattle.der_parser.specs.declared.error.Err.TheVariants.{Error, OutOfMemory}
use Rattle.der_parser.specs.declared.error.Error.{Error as BerError}
use Rattle.der_parser.specs.declared.error.GenError.{GenError}
use Rattle.der_parser.specs.declared.error.GenError.TheVariants.{Io, TooLarge, OutOfMemory as NoMemory}
use Rattle.der_parser.specs.declared.Rules.TheVariants.{Der}
use Rattle.der_parser.specs.declared.ber.Class.{Class}
use Rattle.der_parser.specs.declared.ber.Class.TheVariants.{Universal}
use Rattle.der_parser.specs.declared.nodes.Element.{Element}
use Rattle.der_parser.specs.CheckedElements.{AreElements, IsElement}
use Rattle.der_parser.specs.ElementListing.{listed, listed_one}
use Rattle.der_parser.specs.Vectors.{BeginsWithNone, BeginsWithSome, HasElements}
use Rattle.der_parser.specs.BerReading.{FramingNeedsMemory, NeedsMemory}
use Rattle.der_parser.specs.Elements.{Element as AnyValue, SpellsAny, element_of}
use Rattle.der_parser.specs.Encoding.{encoding}
use Rattle.der_parser.specs.Formats.{As, Content, Each, Field, Format, Ignored, Number, Octets, OptionalTagged}
use Rattle.der_parser.specs.Formats.{Required}
use Rattle.der_parser.specs.Formats.{BitString, ObjectIdentifier, Only, Sequence, ◌⨾◌}
use Rattle.der_parser.specs.Headers.{BeginsWithDerHeader}
use Rattle.der_parser.specs.Kinds.{borrowed_octets}
use Rattle.der_parser.specs.Numbers.{BeginsWithDerNumber, NumberRefuses, NumberType, signed, unsigned}
use Rattle.der_parser.specs.Octets.{integer_value}
use Rattle.der_parser.specs.Refusal.{refusal}
use Rattle.der_parser.specs.Spelling.{BeginsWithBer, BeginsWithDer}
use Rattle.der_parser.specs.Stable.{BerIsCut}
use Rattle.der_parser.specs.Tree.{Node, node, integer, sequence, string, Nodes, no_nodes, nodes, nodes_of}
use Rattle.der_parser.specs.TypedReading.{SpellsTyped}
use Rattle.der_parser.specs.Views.{preorder, trees}
use Rattle.der_uses.specs.declared.handed.Ticket.{Ticket}
use Rattle.der_uses.specs.declared.shown.Found.{Found}
use Rattle.der_uses.specs.declared.shown.Found.TheVariants.{List as Listed, Number as Numbered, Other}

-- the depth of the calls that are given none
abbrev pub depth : ℕ
depth = 50

-- Objects.

abbrev pub node_count : Nodes → ℕ
node_count no_nodes = 0
node_count (nodes o l) = suc (node_count l)

abbrev pub IsFound : Node → Found → Type 0
IsFound (node c p t (sequence l)) x = x ≡ Listed (node_count l)
IsFound (node c p t (integer w)) x = x ≡ Numbered (integer_value w)
IsFound (node c p t y) x = x ≡ Other (record { 0 = t })

-- an INTEGER whose number doesn't fit
abbrev pub HasNoNumber : Node → Refused BerError → Type 0
HasNoNumber (node c p t (integer w)) (Error e) = NumberRefuses (signed 64) (integer w) (refusal e)
HasNoNumber o e = ⊥

-- what is returned of the object at the start of an input
pub record FindsObject (i : List ℕ) (result : Result Found (Refused BerError)) : Type 0 where
  pub found : IfOk result (λ x. (o : Node) × (rest : List ℕ) × BeginsWithDer depth i o rest × IsFound o x)
  pub only : (o : Node) (rest : List ℕ) → BeginsWithDer depth i o rest
      → MatchResult result (IsFound o) (λ e. (e ≡ OutOfMemory) ⊎ HasNoNumber o e)

-- what the input lacks; None where it lacks nothing, or there is no memory for its framing
abbrev pub TellsMissing : List ℕ → Option ℕ → Type 0
TellsMissing i (Some n) = BerIsCut depth i n
TellsMissing i None = (n : ℕ) → BerIsCut depth i n → FramingNeedsMemory depth i

-- the octets that DER writes of the object that BER reads; none where it reads none
pub record IsRewritten (i w : List ℕ) : Type 0 where
  pub found : (w ≡ []) ⊎ ((o : Node) × (rest : List ℕ) × BeginsWithBer depth i o rest × (w ≡ encoding o))
  pub only : (o : Node) (rest : List ℕ) → BeginsWithBer depth i o rest → (w ≡ encoding o) ⊎ NeedsMemory depth i

-- BER reads no object, or there is no memory; or what DER writes of it is 2^64 octets or more
abbrev pub IsNotRewritten : List ℕ → GenError → Type 0
IsNotRewritten i TooLarge = (o : Node) × (rest : List ℕ) × BeginsWithBer depth i o rest × (2 ^ 64 ≤ length (encoding o))
IsNotRewritten i NoMemory = (o : Node) × (rest : List ℕ) × BeginsWithBer depth i o rest
IsNotRewritten i (Io k) = ⊥

-- a SEQUENCE of an INTEGER and a UTF8String
abbrev pub request_tree : List ℕ → List ℕ → Node
request_tree number text = node Universal true 16 (sequence (nodes (node Universal false 2 (integer number))
    (nodes (node Universal false 12 (string 12 text)) no_nodes)))

-- Elements.

-- the elements that octets are, with those inside them; None where they are none, or more than so many
abbrev pub HoldsElements : List ℕ → ℕ → Option (Bor (List Element)) → Type 0
HoldsElements i n x = MatchOption x ((are : AreElements Der depth i) → n < length (listed are 0))
    (λ es. (are : AreElements Der depth i) × (es.now ≡ listed are 0))

-- how many items the first of some elements has
abbrev pub items_among : List ℕ → List Element → Option ℕ
items_among i es = option_map (λ v. length (trees v.input v.inside)) (slice_get (preorder i es) 0)

-- how many items the element at the start of an input has; None where there is no element
abbrev pub CountsItems : List ℕ → Result (Option ℕ) AllocError → Type 0
CountsItems i result = MatchResult result
    (λ x. MatchOption x (BeginsWithNone Der depth i)
    (λ n. (rest : List ℕ) × (es : List Element) × HasElements Der depth i rest es × (Some n ≡ items_among i es)))
    (λ _. BeginsWithSome Der depth i)

-- two elements, one inside the other, are the whole input
abbrev pub IsPair : List ℕ → Type 0
IsPair i = (is : IsElement Der depth i) × (length (listed_one is 0) ≡ 2)

-- Fields.

-- an input begins with an element of this number, of any class, whose content is the value, and what follows it
abbrev pub BeginsWithElementOf : {V : Type 0} → ℕ → (List ℕ → V → Type 0) → List ℕ → V × List ℕ → Type 0
BeginsWithElementOf n C i v = (c : Class) × (p : Bool) × (w : List ℕ)
    × BeginsWithDerHeader i c p n (length w) (w ++ v.1) × C w v.0

-- an input begins with the explicit tag of this number, of any class but Universal, whose content begins with a value,
-- and what follows the tag
abbrev pub BeginsWithTagged : {V : Type 0} → ℕ → Field V → List ℕ → V × List ℕ → Type 0
BeginsWithTagged n F i v = (c : Class) × (w left : List ℕ) × (c ≢ Universal)
    × BeginsWithDerHeader i c true n (length w) (w ++ v.1) × F Der w v.0 left

-- an input begins with a value
abbrev pub Begins : {V : Type 0} → Field V → List ℕ → V → Type 0
Begins F i v = (rest : List ℕ) × F Der i v rest

-- the fields of a certificate up to its serial number, which is the value
abbrev pub NumberFields : Content ℤ
NumberFields = As (λ v. v.1.0) (OptionalTagged 0 Octets ⨾ (Required (Number (unsigned 64)) ⨾ Ignored))

abbrev pub CertificateNumber : Format (ℤ × Unit {0})
CertificateNumber = Sequence (Required (Sequence NumberFields) ⨾ Ignored)

-- an INTEGER of any class whose number fits, as `parse_der_u64` and the like read it
abbrev pub NumberOf : NumberType → Field ℤ
NumberOf k r i v rest = BeginsWithDerNumber k i v rest

-- an element of the universal type of this number and of any class, as `parse_der_integer` and the like read it
abbrev pub LeafOf : ℕ → Field Node
LeafOf t r i v rest = SpellsTyped Der t i (v, rest)

-- the octets are objects of this type, one after another, and the object is the SEQUENCE of them
abbrev pub IsSequenceOf : ℕ → List ℕ → Node → Type 0
IsSequenceOf t w o = (os : List Node) × (o ≡ node Universal true 16 (sequence (nodes_of os))) × Each (LeafOf t) Der w os

-- an element as `Any::from_der` reads it
abbrev pub AnyOfDer : Field AnyValue
AnyOfDer r i v rest = SpellsAny Der i v rest

abbrev pub TicketFields : Content (List ℕ × ((ℕ × List ℕ) × (ℤ × AnyValue)))
TicketFields = Required ObjectIdentifier ⨾ (Required BitString ⨾ (NumberOf (unsigned 64) ⨾ Only AnyOfDer))

abbrev pub ticket_of : Ticket → List ℕ × ((ℕ × List ℕ) × (ℤ × AnyValue))
ticket_of t = (borrowed_octets t.identifier, ((t.flags.unused, t.flags.octets.now), (pos t.number, element_of t.last)))
