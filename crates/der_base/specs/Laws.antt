-- Laws of the definitions.
use Rattle.std.specs.Prelude.{◌≡◌, ◌≢◌, ℕ, ◌-◌, ◌%◌, ◌^◌, ◌<◌, ◌≤◌, ◌⊎◌, ◌↔◌, Bool, true, false, IsTrue, pos}
use Rattle.std.specs.Prelude.{◌<ℤ◌, List, [], ◌∷◌, ◌++◌, length, slice_index, All}
use Rattle.std.specs.List.Sorted.{IsPermutation}
use Rattle.der_base.specs.declared.error.Err.{Err as Refused}
use Rattle.der_base.specs.declared.header.Class.{Class}
use Rattle.der_base.specs.declared.header.Class.TheVariants.{Universal}
use Rattle.der_base.specs.declared.header.Header.{Header}
use Rattle.der_base.specs.declared.header.Length.{Length}
use Rattle.der_base.specs.declared.rules.Rules.{Rules}
use Rattle.der_base.specs.Containers.{BeginsWithElementBy}
use Rattle.der_base.specs.Encoding.{encoding, content_octets}
use Rattle.der_base.specs.Fault.{BerHeaderRefuses, DerHeaderRefuses, ShowsFault, DerShowsFault}
use Rattle.der_base.specs.Header.{IsHeader, class_of, is_constructed, number_of, length_of, raw_tag_of}
use Rattle.der_base.specs.Headers.{BeginsWithHeader, BeginsWithDerHeader, BerHeaderLacks, DerHeaderLacks}
use Rattle.der_base.specs.Leaf.{is_list, is_mapped, IsLeafContent, IsDerLeaf, IsMinimalInteger, HasZeroUnusedBits}
use Rattle.der_base.specs.LeafRefusal.{BerLeafRefuses, DerLeafRefuses, NoneHolds}
use Rattle.der_base.specs.Numbers.{NumberType, least, greatest, number_of_content, number_tests, NumberRefuses}
use Rattle.der_base.specs.Octets.{number, octets, groups, groups_value, integer_value}
use Rattle.der_base.specs.Octets.{shortest_integer, shortest_length, SpellsAnyLength}
use Rattle.der_base.specs.Pretty.{Style, pretty}
use Rattle.der_base.specs.Refusal.{Refusal}
use Rattle.der_base.specs.SetOfOrder.{Descends, IsAscending}
use Rattle.der_base.specs.Spelling.{Form, BerSpells, DerSpells, framing_budget}
use Rattle.der_base.specs.Stable.{BerIsCut, DerIsCut, BeginsNoHeader, BeginsNoDerHeader, FrontsAreCut}
use Rattle.der_base.specs.Tree.{Node, Content}

abbrev pub AreOctets : List ℕ → Type 0
AreOctets w = All (λ b. b < 256) w

-- by BER, octets of a type have one content
abbrev pub HaveOneContent : Type 0
HaveOneContent = (p : Bool) (t : ℕ) (w : List ℕ) (x y : Content) → IsLeafContent p t w x → IsLeafContent p t w y → x ≡ y

-- by DER, they are written for one
abbrev pub AreWrittenForOne : Type 0
AreWrittenForOne = (t : ℕ) (x y : Content) → IsDerLeaf t x → IsDerLeaf t y → content_octets x ≡ content_octets y → x ≡ y

-- where BER or DER refuses octets, it is with one refusal
abbrev pub HaveOneBerRefusal : Type 0
HaveOneBerRefusal = (p : Bool) (t : ℕ) (w : List ℕ) (e e' : Refusal)
    → BerLeafRefuses p t w e → BerLeafRefuses p t w e' → e ≡ e'

abbrev pub HaveOneDerRefusal : Type 0
HaveOneDerRefusal = (p : Bool) (t : ℕ) (w : List ℕ) (e e' : Refusal)
    → DerLeafRefuses p t w e → DerLeafRefuses p t w e' → e ≡ e'

-- octets with a content are not refused by BER
abbrev pub ContentsPassBer : Type 0
ContentsPassBer = (p : Bool) (t : ℕ) (w : List ℕ) (x : Content) (e : Refusal)
    → IsLeafContent p t w x → ¬ BerLeafRefuses p t w e

-- what is written for a content is not refused by DER
abbrev pub WrittenPassDer : Type 0
WrittenPassDer = (t : ℕ) (x : Content) (e : Refusal) → IsDerLeaf t x → ¬ DerLeafRefuses false t (content_octets x) e

-- octets of a type that has contents of its own, but for lists, have a content or are refused, by BER
abbrev pub ReadOrRefusedByBer : Type 0
ReadOrRefusedByBer = (p : Bool) (t : ℕ) (w : List ℕ) → IsTrue (is_mapped t) → is_list t ≡ false
    → ((x : Content) × IsLeafContent p t w x) ⊎ ((e : Refusal) × BerLeafRefuses p t w e)

-- by DER, they are primitive and written for a content, or are refused
abbrev pub WrittenOrRefusedByDer : Type 0
WrittenOrRefusedByDer = (p : Bool) (t : ℕ) (w : List ℕ) → AreOctets w → IsTrue (is_mapped t) → is_list t ≡ false
    → ((x : Content) × (p ≡ false) × IsDerLeaf t x × (w ≡ content_octets x)) ⊎ ((e : Refusal) × DerLeafRefuses p t w e)

-- octets with a content by BER that DER does not refuse are those that are written for it
abbrev pub AcceptedAreWritten : Type 0
AcceptedAreWritten = (t : ℕ) (w : List ℕ) (x : Content)
    → AreOctets w → IsLeafContent false t w x → ((e : Refusal) → ¬ DerLeafRefuses false t w e)
    → IsDerLeaf t x × (w ≡ content_octets x)

-- The list f, of some lists, is the shortest, and the only one of its length.
pub record IsShortest (among : List ℕ → Type 0) (f : List ℕ) : Type 0 where
  pub is_one : among f
  pub fewest : (w : List ℕ) → among w → length f ≤ length w
  pub only : (w : List ℕ) → among w → length w ≡ length f → w ≡ f

-- the octets of a number
abbrev pub OctetsAreShortest : Type 0
OctetsAreShortest = (n : ℕ) → IsShortest (λ w. AreOctets w × (number w ≡ n)) (octets n)

-- the length octets of a number that up to 126 octets can spell (8.1.3.5, 10.1)
abbrev pub LengthsAreShortest : Type 0
LengthsAreShortest = (n : ℕ) → n < 256 ^ 126 → IsShortest (λ s. AreOctets s × SpellsAnyLength s n) (shortest_length n)

-- the content octets of an integer that is not negative (8.3.2)
abbrev pub IntegersAreShortest : Type 0
IntegersAreShortest = (n : ℕ)
    → IsShortest (λ w. AreOctets w × (w ≢ []) × (integer_value w ≡ pos n)) (shortest_integer n)

-- an INTEGER is minimal where its octets are the fewest of its value (8.3.2)
abbrev pub MinimalIsShortest : Type 0
MinimalIsShortest = (w : List ℕ) → AreOctets w
    → IsMinimalInteger w ↔ IsShortest (λ v. AreOctets v × (v ≢ []) × (integer_value v ≡ integer_value w)) w

-- groups of seven bits, each but the last with the high bit (8.1.2.4.2)
abbrev pub AreGroups : List ℕ → Type 0
AreGroups [] = ⊥
AreGroups (b ∷ []) = b < 128
AreGroups (b ∷ c ∷ bs) = (128 ≤ b) × (b < 256) × AreGroups (c ∷ bs)

-- the groups of a tag number
abbrev pub GroupsAreShortest : Type 0
GroupsAreShortest = (n : ℕ) → IsShortest (λ bs. AreGroups bs × (groups_value 0 bs ≡ n)) (groups n)

-- the last u bits of the last octet are 0, at most seven, and none where there is no octet (11.2)
abbrev pub HasZeroLastBits : ℕ → List ℕ → Type 0
HasZeroLastBits u w = (u ≤ 7) × (w ≡ [] → u ≡ 0) × (slice_index w (length w - 1) % 2 ^ u ≡ 0)

-- those are the unused bits of a BIT STRING
abbrev pub UnusedBitsAreLast : Type 0
UnusedBitsAreLast = (u : ℕ) (w : List ℕ) → HasZeroUnusedBits u w ↔ HasZeroLastBits u w

-- what DER spells, BER spells alike
abbrev pub DerIsWithinBer : Type 0
DerIsWithinBer = (b : List ℕ) (o : Node) (d : ℕ) → DerSpells b o d → BerSpells b o d framing_budget

-- spellings by BER in front of one list of octets are one, of one tree
abbrev pub SpellingsAreOne : Type 0
SpellingsAreOne = (b b' x y : List ℕ) (o o' : Node) (d d' : ℕ)
    → BerSpells b o d framing_budget → BerSpells b' o' d' framing_budget
    → b ++ x ≡ b' ++ y → (b ≡ b') × (o ≡ o') × (x ≡ y)

-- one refusal shows at most
abbrev pub FaultsAreOne : (ℕ → List ℕ → Refusal → Type 0) → Type 0
FaultsAreOne faults = (d : ℕ) (i : List ℕ) (e e' : Refusal) → faults d i e → faults d i e' → e ≡ e'

-- and none beside a spelling
abbrev pub SpellingsShowNoFault : Type 0
SpellingsShowNoFault = (d : ℕ) (i b rest : List ℕ) (o : Node) (e : Refusal)
    → i ≡ b ++ rest → BerSpells b o d framing_budget → ¬ ShowsFault d i e

abbrev pub DerSpellingsShowNoFault : Type 0
DerSpellingsShowNoFault = (d : ℕ) (i b rest : List ℕ) (o : Node) (e : Refusal)
    → i ≡ b ++ rest → DerSpells b o d → ¬ DerShowsFault d i e

-- octets appended to an input leave the refusal that it shows
abbrev pub AppendedLeaveFaults : (ℕ → List ℕ → Refusal → Type 0) → Type 0
AppendedLeaveFaults faults = (d : ℕ) (i z : List ℕ) (e : Refusal) → faults d i e → faults d (i ++ z) e

-- and where it begins with a spelling, they only lengthen the rest: to whatever depth, what it then begins with is one
-- of the same tree
abbrev pub AppendedLengthenRests : (ℕ → List ℕ → Node → List ℕ → Type 0) → Type 0
AppendedLengthenRests begins = (d : ℕ) (i z rest : List ℕ) (o : Node) → begins d i o rest
    → begins d (i ++ z) o (rest ++ z)
    × ((d' : ℕ) (rest' : List ℕ) (o' : Node) → begins d' (i ++ z) o' rest' → (o' ≡ o) × (rest' ≡ rest ++ z))

-- after a header that is refused no octets make one
abbrev pub BerRefusedBeginsNone : Type 0
BerRefusedBeginsNone = (i : List ℕ) (e : Refusal) → BerHeaderRefuses i e → BeginsNoHeader i

abbrev pub DerRefusedBeginsNone : Type 0
DerRefusedBeginsNone = (i : List ℕ) (e : Refusal) → DerHeaderRefuses i e → BeginsNoDerHeader i

-- octets appended to an input that begins with a header lengthen the rest
abbrev pub AppendedLengthenBerHeaders : Type 0
AppendedLengthenBerHeaders = (i z : List ℕ) (c : Class) (p : Bool) (t : ℕ) (l : Length) (rest : List ℕ)
    → BeginsWithHeader i c p t l rest → BeginsWithHeader (i ++ z) c p t l (rest ++ z)

abbrev pub AppendedLengthenDerHeaders : Type 0
AppendedLengthenDerHeaders = (i z : List ℕ) (c : Class) (p : Bool) (t n : ℕ) (rest : List ℕ)
    → BeginsWithDerHeader i c p t n rest → BeginsWithDerHeader (i ++ z) c p t n (rest ++ z)

-- each proper front of a header is cut short: it lacks some number of octets, and shows no refusal
abbrev pub BerHeaderFrontsAreCut : Type 0
BerHeaderFrontsAreCut = (b : List ℕ) (c : Class) (p : Bool) (t : ℕ) (l : Length) → BeginsWithHeader b c p t l []
    → (u v : List ℕ) → v ≢ [] → b ≡ u ++ v → (n : ℕ) × BerHeaderLacks u n

abbrev pub DerHeaderFrontsAreCut : Type 0
DerHeaderFrontsAreCut = (b : List ℕ) (c : Class) (p : Bool) (t n : ℕ) → BeginsWithDerHeader b c p t n []
    → (u v : List ℕ) → v ≢ [] → b ≡ u ++ v → (k : ℕ) × DerHeaderLacks u k

-- each proper front of a spelling is cut short: it lacks some number of octets, and shows no refusal
abbrev pub BerFrontsAreCut : Type 0
BerFrontsAreCut = (d : ℕ) (b : List ℕ) (o : Node) → BerSpells b o d framing_budget → FrontsAreCut BerIsCut d b

abbrev pub DerFrontsAreCut : Type 0
DerFrontsAreCut = (d : ℕ) (b : List ℕ) (o : Node) → DerSpells b o d → FrontsAreCut DerIsCut d b

-- what is written for a tree that BER spells, up to 2^64-1 octets, spells it too, to the same depth: it is a
-- normal form
abbrev pub EncodingIsNormalForm : Type 0
EncodingIsNormalForm = (b : List ℕ) (o : Node) (d k : ℕ)
    → BerSpells b o d k → length (encoding o) < 2 ^ 64 → BerSpells (encoding o) o d framing_budget

-- a content has a number of a type or is refused
abbrev pub NumberOrRefused : Type 0
NumberOrRefused = (k : NumberType) (x : Content) → NoneHolds (number_tests k x) ⊎ ((e : Refusal) × NumberRefuses k x e)

-- never both
abbrev pub NumbersPass : Type 0
NumbersPass = (k : NumberType) (x : Content) (e : Refusal) → NoneHolds (number_tests k x) → ¬ NumberRefuses k x e

-- and by one refusal
abbrev pub HaveOneNumberRefusal : Type 0
HaveOneNumberRefusal = (k : NumberType) (x : Content) (e e' : Refusal)
    → NumberRefuses k x e → NumberRefuses k x e' → e ≡ e'

-- a number that a content has fits the type
abbrev pub NumbersFit : Type 0
NumbersFit = (k : NumberType) (x : Content) → NoneHolds (number_tests k x)
    → ¬ (number_of_content x <ℤ least k) × ¬ (greatest k <ℤ number_of_content x)

-- an input opens in one way
abbrev pub OpensInOneWay : (List ℕ → Header → List ℕ → List ℕ → Type 0) → Type 0
OpensInOneWay opens = (i w w' after after' : List ℕ) (h h' : Header) → opens i h w after → opens i h' w' after'
    → IsHeader h (class_of h') (is_constructed h') (number_of h') (length_of h') (raw_tag_of h')
    × (w ≡ w') × (after ≡ after')

-- an input that opens is not refused
abbrev pub OpenedPass : {E : Type 0} → (List ℕ → Header → List ℕ → List ℕ → Type 0)
    → (List ℕ → Refused E → Type 0) → Type 0
OpenedPass opens refuses = (i : List ℕ) (h : Header) (w after : List ℕ) → opens i h w after
    → (r : Refused _) → ¬ refuses i r

-- an input that begins with an element is not refused, by a combinator of any element or of the element's tag number
abbrev pub ElementsPass : {E : Type 0} → Rules → (ℕ → List ℕ → Refused E → Type 0) → Type 0
ElementsPass rules refuses = (i : List ℕ) (c : Class) (p : Bool) (t : ℕ) (w rest : List ℕ)
    → BeginsWithElementBy rules i c p t w rest → (r : Refused _) → ¬ refuses t i r

-- nor by a combinator of an explicit tag, where the element is one
abbrev pub ExplicitElementsPass : {E : Type 0} → Rules → (ℕ → List ℕ → Refused E → Type 0) → Type 0
ExplicitElementsPass rules refuses = (i : List ℕ) (c : Class) (t : ℕ) (w rest : List ℕ)
    → BeginsWithElementBy rules i c true t w rest → c ≢ Universal → (r : Refused _) → ¬ refuses t i r

-- octets that are a DER encoding
abbrev pub IsDerEncoding : List ℕ → Type 0
IsDerEncoding b = (o : Node) × (d : ℕ) × DerSpells b o d

-- two of them of which neither is the greater are the same: a tie of two would make one a front of the other (11.6)
abbrev pub EncodingsDoNotTie : Type 0
EncodingsDoNotTie = (a b : List ℕ) → IsDerEncoding a → IsDerEncoding b → ¬ Descends a b → ¬ Descends b a → a ≡ b

-- so the values of a SET OF, counted with repeats, have one order that does not descend, and one content
abbrev pub SetOfHasOneOrder : Type 0
SetOfHasOneOrder = (ss ts : List (List ℕ))
    → All IsDerEncoding ss → IsPermutation ss ts → IsAscending ss → IsAscending ts → ss ≡ ts

-- where headers are not printed, no length shows
abbrev pub LengthsShowInHeaders : Type 0
LengthsShowInHeaders = (s : Style) (n : ℕ) (o : Node) (f g : Form)
    → s.headers ≡ false → pretty s n o f ≡ pretty s n o g
