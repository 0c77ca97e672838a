-- Formats: which octets are a value of a type of ASN.1 (X.680) by BER or DER, in words that read beside the ASN.1, and
-- what a reader of one promises. They are relations between octets and a value.
use Rattle.std.specs.Prelude.{◌≡◌, ◌≢◌, ℕ, ◌⊎◌, Bool, true, false, ℤ, Option, Some, None, List, [], ◌∷◌}
use Rattle.std.specs.Borrow.{Bor}
use Rattle.std.specs.Prelude.{Result, IfOk, IfErr, MatchResult}
use Rattle.der_base.specs.declared.error.Err.{Err as Refused}
use Rattle.der_base.specs.declared.error.Err.TheVariants.{Incomplete, OutOfMemory}
use Rattle.der_base.specs.declared.error.Error.{Error as BerError}
use Rattle.der_base.specs.declared.error.Needed.{Needed}
use Rattle.der_base.specs.declared.error.Needed.TheVariants.{Size}
use Rattle.der_base.specs.declared.header.Class.{Class}
use Rattle.der_base.specs.declared.header.Class.TheVariants.{Universal, ContextSpecific}
use Rattle.der_base.specs.declared.rules.Rules.{Rules}
use Rattle.der_base.specs.declared.rules.Rules.TheVariants.{Der}
use Rattle.der_base.specs.declared.time.ASN1DateTime.{ASN1DateTime}
use Rattle.der_base.specs.Answer.{AnswersErrorOr, AnswersIncompleteOr}
use Rattle.der_base.specs.LeafRefusal.{NoneHolds}
use Rattle.der_base.specs.Numbers.{NumberType}
use Rattle.der_base.specs.Refusal.{Refusal as Name}
use Rattle.der_values.specs.Kinds.{Kind, booleans, integers, numbers, enumerated_numbers, bit_strings, octet_strings}
use Rattle.der_values.specs.Kinds.{nulls, identifiers, texts, times}
use Rattle.der_cursor.specs.declared.cursor.Cursor.{Cursor}
use Rattle.der_cursor.specs.declared.named.FieldError.{FieldError}
use Rattle.der_cursor.specs.declared.error.ReadError.{ReadError}
use Rattle.der_cursor.specs.Cursors.{octets_left, rules_of, advanced, reason_of}
use Rattle.der_cursor.specs.Named.{reason_in}
use Rattle.der_cursor.specs.Elements.{SpellsElement, SpellsAny, ElementLacks, ElementRefuses, BeginsWithTag, IsNext}
pub use Rattle.der_cursor.specs.Elements.{Element, element_of}

-- the octets are the whole content of a value
abbrev pub Content : Type 0 → Type 1
Content V = Rules → List ℕ → V → Type 0

-- the octets begin with a value, and what follows it
abbrev pub Field : Type 0 → Type 1
Field V = Rules → List ℕ → V → List ℕ → Type 0

-- a type: the class and number of its tag, whether it is constructed, and its content octets
pub record Format (V : Type 0) : Type 1 where
  pub class : Class
  pub number : ℕ
  pub constructed : Bool
  pub content : Content V

-- Fields.

-- an element of the type
unfoldable pub Required : {V : Type 0} → Format V → Field V
Required T r i v rest = (w : List ℕ) × T.content r w v × SpellsElement r T.class T.constructed T.number i (w, rest)

-- one, or none where its class and number aren't next
unfoldable pub Optional : {V : Type 0} → Format V → Field (Option V)
Optional T r i (Some v) rest = Required T r i v rest
Optional T r i None rest = (¬ IsNext T.class T.number i) × (i ≡ rest)

-- one, or the default where its class and number aren't next; by DER the default isn't encoded (X.690 11.5)
unfoldable pub Default : {V : Type 0} → Format V → V → Field V
Default T d r i v rest = ((¬ IsNext T.class T.number i) × (v ≡ d) × (i ≡ rest))
    ⊎ (Required T r i v rest × (r ≡ Der → v ≢ d))

-- a content under an explicit tag, or none where its identifier octets aren't next
unfoldable pub OptionalTagged : {V : Type 0} → ℕ → Content V → Field (Option V)
OptionalTagged n C r i (Some v) rest = (w : List ℕ) × C r w v × SpellsElement r ContextSpecific true n i (w, rest)
OptionalTagged n C r i None rest = (¬ BeginsWithTag n i) × (i ≡ rest)

-- the same, or the default; by DER the default isn't encoded (11.5)
unfoldable pub DefaultTagged : {V : Type 0} → ℕ → Content V → V → Field V
DefaultTagged n C d r i v rest = ((¬ BeginsWithTag n i) × (v ≡ d) × (i ≡ rest))
    ⊎ ((w : List ℕ) × C r w v × SpellsElement r ContextSpecific true n i (w, rest) × (r ≡ Der → v ≢ d))

-- a field, or none where nothing is left
unfoldable pub IfLeft : {V : Type 0} → Field V → Field (Option V)
IfLeft F r i (Some v) rest = (i ≢ []) × F r i v rest
IfLeft F r i None rest = (i ≡ []) × (i ≡ rest)

-- any element, with its header
unfoldable pub AnyElement : Field Element
AnyElement r i v rest = SpellsAny r i v rest

-- one of these types, and which
unfoldable pub Choice : {K V : Type 0} → (K → Format V) → Field (K × V)
Choice F r i v rest = Required (F v.0) r i v.1 rest

-- a field whose value isn't kept
unfoldable pub Passed : {V : Type 0} → Field V → Field (Unit {0})
Passed {V} F r i u rest = (v : V) × F r i v rest

infixr 20 ◌⨟◌
-- a field and the next one
unfoldable pub ◌⨟◌ : {V W : Type 0} → Field V → Field W → Field (V × W)
◌⨟◌ F G r i v rest = (between : List ℕ) × F r i v.0 between × G r between v.1 rest

-- Contents.

-- one field, and nothing is left
unfoldable pub Only : {V : Type 0} → Field V → Content V
Only F r w v = F r w v []

infixr 20 ◌⨾◌
-- a field, and what follows it
unfoldable pub ◌⨾◌ : {V W : Type 0} → Field V → Content W → Content (V × W)
◌⨾◌ F C r w v = (rest : List ℕ) × F r w v.0 rest × C r rest v.1

-- nothing is left
unfoldable pub End : Content (Unit {0})
End r w v = w ≡ []

-- fields of one kind, and nothing is left
unfoldable pub Each : {V : Type 0} → Field V → Content (List V)
Each F r w [] = w ≡ []
Each F r w (v ∷ vs) = (rest : List ℕ) × F r w v rest × Each F r rest vs

-- any elements, which aren't kept
unfoldable pub Others : Content (Unit {0})
Others r w u = (v : List (Unit {0})) × Each (Passed AnyElement) r w v

-- a content whose value stands for another
unfoldable pub As : {V W : Type 0} → (V → W) → Content V → Content W
As {V} f C r w y = (x : V) × C r w x × (y ≡ f x)

-- whatever follows, which isn't asked
unfoldable pub Ignored : Content (Unit {0})
Ignored r w v = Unit {0}

-- the octets themselves, whatever they are
unfoldable pub Octets : Content (List ℕ)
Octets r w v = v ≡ w

-- the values of the kind
unfoldable pub Value : {V : Type 0} → (Rules → Kind V) → Content V
Value k r w v = NoneHolds ((k r).tests w) × (k r).means w v

-- Types.

-- a constructed element of this class and number
abbrev pub Constructed : {V : Type 0} → Class → ℕ → Content V → Format V
Constructed c n C = record { class = c; number = n; constructed = true; content = C }

abbrev pub Sequence : {V : Type 0} → Content V → Format V
Sequence C = Constructed Universal 16 C

abbrev pub Set : {V : Type 0} → Content V → Format V
Set C = Constructed Universal 17 C

-- a tag around a field (X.690 8.14.2)
abbrev pub Explicit : {V : Type 0} → ℕ → Field V → Format V
Explicit n F = Constructed ContextSpecific n (Only F)

-- a tag in place of that of a type (8.14.3)
abbrev pub Tagged : {V : Type 0} → Class → ℕ → Format V → Format V
Tagged c n T = record T { class = c; number = n }

abbrev pub Implicit : {V : Type 0} → ℕ → Format V → Format V
Implicit n T = Tagged ContextSpecific n T

-- a primitive element of this universal type
abbrev pub Primitive : {V : Type 0} → ℕ → Content V → Format V
Primitive t C = record { class = Universal; number = t; constructed = false; content = C }

abbrev pub Boolean : Format Bool
Boolean = Primitive 1 (Value booleans)

-- the octets of the number
abbrev pub Integer : Format (List ℕ)
Integer = Primitive 2 (Value integers)

-- the number itself, in a type of the code
abbrev pub Number : NumberType → Format ℤ
Number k = Primitive 2 (Value (λ r. numbers r k))

abbrev pub BitString : Format (ℕ × List ℕ)
BitString = Primitive 3 (Value bit_strings)

abbrev pub OctetString : Format (List ℕ)
OctetString = Primitive 4 (Value (λ r. octet_strings))

-- one whose octets are a content
abbrev pub OctetStringOf : {V : Type 0} → Content V → Format V
OctetStringOf C = Primitive 4 C

abbrev pub Null : Format (Unit {0})
Null = Primitive 5 (Value nulls)

abbrev pub ObjectIdentifier : Format (List ℕ)
ObjectIdentifier = Primitive 6 (Value (λ r. identifiers))

abbrev pub Enumerated : Format ℕ
Enumerated = Primitive 10 (Value enumerated_numbers)

abbrev pub Text : ℕ → Format (List ℕ)
Text t = Primitive t (Value (λ r. texts t))

abbrev pub UtcTime : Format ASN1DateTime
UtcTime = Primitive 23 (Value (λ r. times r 23))

abbrev pub GeneralizedTime : Format ASN1DateTime
GeneralizedTime = Primitive 24 (Value (λ r. times r 24))

-- a choice of the two (RFC 5280 4.1)
unfoldable pub Time : Field ASN1DateTime
Time r i v rest = Required UtcTime r i v rest ⊎ Required GeneralizedTime r i v rest

-- one of these, or none where neither's class and number are next
unfoldable pub OptionalTime : Field (Option ASN1DateTime)
OptionalTime r i (Some v) rest = Time r i v rest
OptionalTime r i None rest = ((¬ IsNext Universal 23 i) × (¬ IsNext Universal 24 i)) × (i ≡ rest)

-- values of which P holds
abbrev pub Limited : {V : Type 0} → (V → Type 0) → Format V → Format V
Limited P T = record T { content = λ r w v. T.content r w v × P v }

-- a type whose value stands for another
abbrev pub Mapped : {V W : Type 0} → (V → W) → Format V → Format W
Mapped f T = record { class = T.class; number = T.number; constructed = T.constructed; content = As f T.content }

-- Readers. `view` takes what is returned to the value that it stands for, and `May` says what of an error is left open.

-- no error is left open
abbrev pub Never : {E : Type 0} → E → Type 0
Never e = ⊥

-- there may be no memory
abbrev pub NoMemory : {E : Type 0} → ReadError E → Type 0
NoMemory e = e.reason ≡ OutOfMemory

abbrev pub NoMemoryIn : FieldError → Type 0
NoMemoryIn e = NoMemory e.refusal

-- A reader of values: what it returns is so, and what is so is returned. Which refusal it returns else is left open.
pub record ReadsWhole {T V E : Type 0} (IsSo : V → Type 0) (view : T → V) (May : E → Type 0) (result : Result T E)
    : Type 0 where
  pub found : IfOk result (λ x. IsSo (view x))
  pub only : (v : V) → IsSo v → MatchResult result (λ x. view x ≡ v) May

-- the same of the field that is next: the cursor goes on after what was read
pub record ReadsNext {T V E : Type 0} (F : Field V) (view : T → V) (May : E → Type 0) (old : Cursor)
    (result : Result T E) (new : Cursor) : Type 0 where
  pub found : IfOk result
      (λ x. F (rules_of old) (octets_left old) (view x) (octets_left new) × (new ≡ advanced old new.left))
  pub only : (v : V) (rest : List ℕ) → F (rules_of old) (octets_left old) v rest
      → MatchResult result (λ x. (view x ≡ v) × (octets_left new ≡ rest)) May

-- on a cursor where no implicit tag was said
abbrev pub ReadsField : {T V E : Type 0} → Field V → (T → V) → (E → Type 0) → Cursor → Result T E → Cursor → Type 0
ReadsField F view May old result new = old.implicit ≡ None → ReadsNext F view May old result new

-- a reader of all that is left on a cursor
abbrev pub ReadsContent : {T V E : Type 0} → Content V → (T → V) → (E → Type 0) → Cursor → Result T E → Type 0
ReadsContent C view May c result = c.implicit ≡ None → ReadsWhole (C (rules_of c) (octets_left c)) view May result

-- Incomplete is reported of an input that ends within an element, and how many octets it lacks.
abbrev pub IsCutAt : Rules → List ℕ → Refused BerError → Type 0
IsCutAt r i e = (m : Needed) → e ≡ Incomplete m → (n : ℕ) × (m ≡ Size n) × ElementLacks r i n

-- What the element that an input begins with shows to be wrong is its refusal, and it is Incomplete exactly where the
-- input ends within that element. Which refusal its content has else is left open.
pub record ShowsElement {T V : Type 0} (r : Rules) (F : Format V) (i : List ℕ) (result : Result T (Refused BerError))
    : Type 0 where
  pub refuses : (e : Name) → ElementRefuses r F.class F.constructed F.number i e → AnswersErrorOr ⊥ result e
  pub lacks : (n : ℕ) → ElementLacks r i n → AnswersIncompleteOr ⊥ result n
  pub cut : IfErr result (IsCutAt r i)

-- A reader of an input whose content C is an element of the type F. `reason` is the result with the reason of a refusal
-- alone.
pub record ReadsElement {T V W E : Type 0} (reason : Result T E → Result T (Refused BerError)) (r : Rules)
    (F : Format W) (C : Content V) (view : T → V) (May : E → Type 0) (i : List ℕ) (result : Result T E) : Type 0 where
  pub value : ReadsWhole (C r i) view May result
  pub shows : ShowsElement r F i (reason result)

-- a reader of an input that is a value of the type
abbrev pub ReadsInput : {T V : Type 0} → Rules → Format V → (T → V) → (ReadError BerError → Type 0) → List ℕ
    → Result T (ReadError BerError) → Type 0
ReadsInput r F view May i result = ReadsElement reason_of r F (Only (Required F)) view May i result

-- the same, whose refusals have the names of fields
abbrev pub ReadsNamedInput : {T V : Type 0} → Rules → Format V → (T → V) → (FieldError → Type 0) → List ℕ
    → Result T FieldError → Type 0
ReadsNamedInput r F view May i result = ReadsElement reason_in r F (Only (Required F)) view May i result

-- a reader of the element that an input begins with, which returns what follows it
pub record ReadsFront {T V : Type 0} (r : Rules) (F : Format V) (view : T → V) (May : FieldError → Type 0)
    (i : List ℕ) (result : Result (Bor (List ℕ) × T) FieldError) : Type 0 where
  pub value : ReadsWhole (λ (v : V × List ℕ). Required F r i v.0 v.1) (λ x. (view x.1, x.0.now)) May result
  pub shows : ShowsElement r F i (reason_in result)

-- a cursor is opened over the octets that a content keeps, and reads them by the same rules
pub record Opens (C : Content (List ℕ)) (c : Cursor) (result : Result Cursor (ReadError BerError)) : Type 0 where
  pub octets : ReadsContent C octets_left Never c result
  pub by : IfOk result (λ d. (rules_of d ≡ rules_of c) × (d.implicit ≡ None))

-- which of these types the next element is, if it is of one of them
pub record TellsNext {K V : Type 0} (F : K → Format V) (c : Cursor) (result : Result K (ReadError BerError))
    : Type 0 where
  pub only : (k : K) (w : List ℕ × List ℕ) → SpellsElement (rules_of c) (F k).class (F k).constructed (F k).number
      (octets_left c) w → MatchResult result (λ x. x ≡ k) Never
