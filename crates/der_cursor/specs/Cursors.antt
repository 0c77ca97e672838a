-- Cursors: the octets of a content that aren't read yet, and their place in the input.
use Rattle.std.specs.Borrow.{Bor}
use Rattle.std.specs.Prelude.{◌≡◌, ◌≢◌, ℕ, ◌+◌, ◌-◌, ◌/◌, Bool, true, false, nat_eq, Option, Some, None}
use Rattle.std.specs.Prelude.{List, [], ◌++◌, length}
use Rattle.std.specs.Prelude.{Result, Ok, Err, IfOk, IfErr, ◌⊎◌, slice_get, codes, decimal}
use Rattle.std.specs.Option.{option_map, IfSome, IsSomeAnd}
use Rattle.der_base.specs.declared.any.Any.{Any}
use Rattle.der_base.specs.declared.error.Err.{Err as Refused}
use Rattle.der_base.specs.declared.error.Err.TheVariants.{Incomplete, Error, Failure, OutOfMemory}
use Rattle.der_base.specs.declared.error.Error.{Error as BerError}
use Rattle.der_base.specs.declared.error.Error.TheVariants.{BerValueError, NomError, UnexpectedClass}
use Rattle.der_base.specs.declared.error.Error.TheVariants.{Incomplete as CutShort}
use Rattle.der_base.specs.declared.error.ErrorKind.{ErrorKind}
use Rattle.der_base.specs.declared.error.ErrorKind.TheVariants.{Eof, Many0}
use Rattle.der_base.specs.declared.error.Needed.{Needed}
use Rattle.der_base.specs.declared.error.Needed.TheVariants.{Size}
use Rattle.der_base.specs.declared.header.Class.{Class}
use Rattle.der_base.specs.declared.header.Class.TheVariants.{ContextSpecific, Universal}
use Rattle.der_base.specs.declared.header.Tag.{Tag}
use Rattle.der_base.specs.Answer.{MatchAnswer}
use Rattle.der_base.specs.Any.{LeadingElement, leading_content}
use Rattle.der_base.specs.Containers.{Answered}
use Rattle.der_base.specs.Errors.{needs_text}
use Rattle.der_base.specs.declared.rules.Rules.{Rules}
use Rattle.der_base.specs.declared.rules.Rules.TheVariants.{Der}
use Rattle.der_base.specs.declared.time.ASN1DateTime.{ASN1DateTime}
use Rattle.der_base.specs.Exactly.{AnswersExactly}
use Rattle.der_base.specs.Header.{class_of, is_constructed, number_of}
use Rattle.der_base.specs.LeafRefusal.{IsFirstRefusal, NoneHolds}
use Rattle.der_base.specs.Octets.{class_number}
use Rattle.der_base.specs.Refusal.{Refusal as Name, incomplete}
use Rattle.der_cursor.specs.declared.cursor.Cursor.{Cursor}
use Rattle.der_cursor.specs.declared.cursor.Found.{Found}
use Rattle.der_cursor.specs.declared.error.ReadError.{ReadError}
use Rattle.der_values.specs.Kinds.{Kind, times}
use Rattle.der_cursor.specs.Elements.{SpellsElement, ElementRefuses, ElementLacks, NoElement, BeginsWithTag, IsNext}
use Rattle.der_cursor.specs.Elements.{MarkerFollows, SpellsLeading, leading, HasHeader, element_of}

-- the octets that aren't read yet
abbrev pub octets_left : Cursor → List ℕ
octets_left c = c.left.now

-- where they end in the input
abbrev pub end_of : Cursor → ℕ
end_of c = c.end

-- the place of the next of them: the number of octets of the input before it
abbrev pub place_of : Cursor → ℕ
place_of c = end_of c - length (octets_left c)

-- whether they are the content of an element, and not the input itself
abbrev pub is_inside : Cursor → Bool
is_inside c = c.inside

-- by which rules they are read
abbrev pub rules_of : Cursor → Rules
rules_of c = c.rules

-- a cursor at the start of an input, for a next element that has no implicit tag
abbrev pub StartsAt : Rules → List ℕ → Cursor → Type 0
StartsAt r i c = (octets_left c ≡ i) × (end_of c ≡ length i) × (is_inside c ≡ false) × (rules_of c ≡ r)
    × (c.implicit ≡ None)

-- the cursor after an element, with these octets left
abbrev pub advanced : Cursor → Bor (List ℕ) → Cursor
advanced c rest = record c { left = rest; implicit = None }

-- the class and the number that the next element has to have: its type's, or those of an implicit tag (X.690 8.14.3)
abbrev pub class_wanted : Option (Class × Tag) → Class
class_wanted None = Universal
class_wanted (Some k) = k.0

abbrev pub number_wanted : Option (Class × Tag) → ℕ → ℕ
number_wanted None t = t
number_wanted (Some k) t = k.1.0

-- the same cursor, before an element under this implicit tag
abbrev pub IsTagged : Class → ℕ → Cursor → Cursor → Type 0
IsTagged c n old new = new ≡ record old { implicit = Some (c, record { 0 = n }) }

abbrev pub list_end : Bool → ℕ → Option ℕ
list_end true n = Some n
list_end false n = None

-- the end of the list that the cursor reads, where that is the content of an element
abbrev pub list_end_of : Cursor → Option ℕ
list_end_of c = list_end (is_inside c) (end_of c)

-- the refusal of the next element
abbrev pub refusal_at : {E : Type 0} → Cursor → Refused E → ReadError E
refusal_at c reason = record { offset = place_of c; list_end = list_end_of c; reason = reason }

-- the octets that are left are in the input i, and the place is the number of those before them
pub record StandsIn (i : List ℕ) (c : Cursor) : Type 0 where
  pub front : List ℕ
  pub behind : List ℕ
  pub octets : i ≡ front ++ octets_left c ++ behind
  pub place : end_of c ≡ length front + length (octets_left c)

-- What a parser returns on the octets left: its value, and then they are what it left, or its refusal at the place
-- where it was called, and then the cursor stays. `gives` says what it may return.
abbrev pub Reads : {O E : Type 0} → (Bor (List ℕ) → Answered O E → Type 0) → Cursor → Result O (ReadError E) → Cursor
    → Type 0
Reads gives old (Ok v) new = (rest : Bor (List ℕ)) × gives old.left (Ok (rest, v)) × (new ≡ advanced old rest)
Reads gives old (Err e) new = gives old.left (Err e.reason) × (e ≡ refusal_at old e.reason) × (new ≡ old)

-- The value is the last one of a content, or Eof is reported at the place of what is left. `made` says which errors are
-- made of Eof.
abbrev pub IsLast : {O E : Type 0} → (Bor (List ℕ) → ErrorKind → E → Type 0) → O → Cursor → Result O (ReadError E)
    → Type 0
IsLast made v c (Ok x) = (octets_left c ≡ []) × (x ≡ v)
IsLast {O} {E} made v c (Err e) = (octets_left c ≢ [])
    × (x : E) × made c.left Eof x × (e ≡ refusal_at c (Error x))

-- the cursor goes on after what was read, or a refusal has its place and the cursor stays
abbrev pub GoesOn : {T : Type 0} → Cursor → Result T (ReadError BerError) → Cursor → Type 0
GoesOn old (Ok v) new = new ≡ advanced old new.left
GoesOn old (Err e) new = (e ≡ refusal_at old e.reason) × (new ≡ old)

-- what a parser returns on the octets left, if its value is the last one; else its refusal, or that of what is left
abbrev pub ReadsLast : {O E : Type 0} → (Bor (List ℕ) → Answered O E → Type 0) → (Bor (List ℕ) → ErrorKind → E → Type 0)
    → Cursor → Result O (ReadError E) → Type 0
ReadsLast {O} {E} gives made c result = ((e : ReadError E) × (result ≡ Err e) × Reads gives c result c)
    ⊎ ((v : O) × (d : Cursor) × Reads gives c (Ok v) d × IsLast made v d result)

-- the cursor over a content with the one after its element, or the reason for a refusal
abbrev pub opened : Result Cursor (ReadError BerError) → Cursor → Result (Cursor × Cursor) (Refused BerError)
opened (Ok inner) new = Ok (inner, new)
opened (Err e) new = Err e.reason

-- the content octets, and what follows the element
abbrev pub contents : Cursor × Cursor → List ℕ × List ℕ
contents x = (octets_left x.0, octets_left x.1)

-- the value, or the reason alone
abbrev pub reason_of : {T E : Type 0} → Result T (ReadError E) → Result T (Refused E)
reason_of (Ok x) = Ok x
reason_of (Err e) = Err e.reason

-- The next element is refused at its place, and the cursor stays. It is Incomplete only in no list: inside a list no
-- further octets mend an element that is cut short.
module _ (old : Cursor) where
  abbrev pub RefusesAt : (Name → Type 0) → Name → Type 0
  RefusesAt refuses e = refuses e
      ⊎ ((is_inside old ≡ true) × (n : ℕ) × ElementLacks (rules_of old) (octets_left old) n × (e ≡ incomplete (Size n)))

  abbrev pub LacksAt : ℕ → Type 0
  LacksAt n = (is_inside old ≡ false) × ElementLacks (rules_of old) (octets_left old) n

  -- what was found next, and what follows it
  abbrev pub Finds : Class → Bool → ℕ → Result Found (ReadError BerError) → Type 0
  Finds c p t result = MatchAnswer (reason_of result)
      (λ x. SpellsElement (rules_of old) c p t (octets_left old) (x.content.now, x.rest.now)
      × MarkerFollows (rules_of old) (octets_left old) x.marker)
      (RefusesAt (ElementRefuses (rules_of old) c p t (octets_left old))) LacksAt ⊥
      × IfErr result (λ e. e ≡ refusal_at old e.reason)

-- The content ends before the end marker, or where the element ends. A refusal has the place of the element, and then
-- the cursor stays.
abbrev pub KeepsPlace : Cursor → Result Cursor (ReadError BerError) → Cursor → Type 0
KeepsPlace old (Ok inner) new = (new ≡ advanced old new.left)
    × ((m : ℕ) × MarkerFollows (rules_of old) (octets_left old) m × (end_of inner ≡ place_of new - m))
    × (is_inside inner ≡ true) × (rules_of inner ≡ rules_of old) × (inner.implicit ≡ None)
KeepsPlace old (Err e) new = (e ≡ refusal_at old e.reason) × (new ≡ old)

-- Opens exactly the element of this class, constructed bit and number, where the octets left begin with it.
pub record OpensAt (class : Class) (constructed : Bool) (number : ℕ) (old : Cursor)
    (result : Result Cursor (ReadError BerError)) (new : Cursor) : Type 0 where
  pub element : let i = octets_left old in let r = rules_of old in AnswersExactly (opened result new) contents
      (λ x. SpellsElement r class constructed number i (contents x)) (SpellsElement r class constructed number i)
      (RefusesAt old (ElementRefuses r class constructed number i)) (LacksAt old) ⊥ ⊥
  pub places : KeepsPlace old result new

-- the next element, under an implicit tag where that was said, is opened as one of the universal type t
abbrev pub OpensType : Bool → ℕ → Cursor → Result Cursor (ReadError BerError) → Cursor → Type 0
OpensType p t old = OpensAt (class_wanted old.implicit) p (number_wanted old.implicit t) old

-- the content octets of a primitive one, and what follows it
abbrev pub FindsPrimitive : ℕ → Cursor → Result (Bor (List ℕ) × Bor (List ℕ)) (ReadError BerError) → Type 0
FindsPrimitive t old result = let r = rules_of old in let c = class_wanted old.implicit in
    let n = number_wanted old.implicit t in let i = octets_left old in MatchAnswer (reason_of result)
    (λ x. SpellsElement r c false n i (leading_content x)) (RefusesAt old (ElementRefuses r c false n i))
    (LacksAt old) ⊥
    × IfErr result (λ e. e ≡ refusal_at old e.reason)

-- the value of content octets is taken with what follows, or its refusal is that of the element
abbrev pub Takes : {T : Type 0} → Cursor → Bor (List ℕ) → Result T BerError → Result T (ReadError BerError) → Cursor
    → Type 0
Takes old rest (Ok x) result new = (result ≡ Ok x) × (new ≡ advanced old rest)
Takes old rest (Err e) result new = (result ≡ Err (refusal_at old (Error e))) × (new ≡ old)

-- the value with the cursor after its element, or the reason for a refusal
abbrev pub taken : {T : Type 0} → Result T (ReadError BerError) → Cursor → Result (T × Cursor) (Refused BerError)
taken (Ok x) new = Ok (x, new)
taken (Err e) new = Err e.reason

-- The next element is primitive, and its content octets are read as the kind says: what is read is its value, and what
-- is left follows it. A refusal is that of the first test that fails: of the header, the class, the number, the form,
-- and then of the content octets.
module _ {T V : Type 0} (value : T → V) (k : Kind V) (t : ℕ) where
  abbrev pub SpellsValue : Cursor → V × List ℕ → Type 0
  SpellsValue old v = (w : List ℕ) × NoneHolds (k.tests w) × k.means w v.0 × SpellsElement (rules_of old)
      (class_wanted old.implicit) false (number_wanted old.implicit t) (octets_left old) (w, v.1)

  abbrev pub ValueRefuses : Cursor → Name → Type 0
  ValueRefuses old e = let r = rules_of old in let c = class_wanted old.implicit in
      let n = number_wanted old.implicit t in let i = octets_left old in
      ElementRefuses r c false n i e
      ⊎ ((v : List ℕ × List ℕ) × SpellsElement r c false n i v × IsFirstRefusal (k.tests v.0) e)

  abbrev pub value_left : T × Cursor → V × List ℕ
  value_left x = (value x.0, octets_left x.1)

  pub record ReadsValue (old : Cursor) (result : Result T (ReadError BerError)) (new : Cursor) : Type 0 where
    pub value_read : AnswersExactly (taken result new) value_left (λ x. SpellsValue old (value_left x))
        (SpellsValue old) (RefusesAt old (ValueRefuses old)) (LacksAt old) ⊥ ⊥
    pub place : GoesOn old result new

-- The next element is one of a type, or under the implicit tag that was said (8.1.2).
abbrev pub IsNextType : ℕ → Cursor → Type 0
IsNextType t old = IsNext (class_wanted old.implicit) (number_wanted old.implicit t) (octets_left old)

-- an optional value: it is read exactly where its identifier octets are next; else there is none, and nothing is read
abbrev pub ReadsOptional : {T V : Type 0} → (T → V) → Kind V → ℕ → Cursor → Result (Option T) (ReadError BerError)
    → Cursor → Type 0
ReadsOptional value k t old (Ok None) new = (¬ IsNextType t old) × (new ≡ advanced old old.left)
ReadsOptional value k t old (Ok (Some x)) new = IsNextType t old × ReadsValue value k t old (Ok x) new
ReadsOptional value k t old (Err e) new = IsNextType t old × ReadsValue value k t old (Err e) new

-- a value with a default, which stands for one that is absent; by DER one that is encoded is another (11.5)
abbrev pub ReadsOr : {T V : Type 0} → (T → V) → Kind V → ℕ → T → Cursor → Result T (ReadError BerError) → Cursor → Type 0
ReadsOr value k t d old (Ok x) new = ((¬ IsNextType t old) × (x ≡ d) × (new ≡ advanced old old.left))
    ⊎ (IsNextType t old × ReadsValue value k t old (Ok x) new × (rules_of old ≡ Der → x ≢ d))
ReadsOr value k t d old (Err e) new = IsNextType t old × (ReadsValue value k t old (Err e) new
    ⊎ ((rules_of old ≡ Der) × (after : Cursor) × ReadsValue value k t old (Ok d) after
    × (e ≡ refusal_at old (Error BerValueError)) × (new ≡ old)))

-- the time of a choice of UTCTime and GeneralizedTime, as RFC 5280 has it (4.1)
abbrev pub ReadsTime : Cursor → Result ASN1DateTime (ReadError BerError) → Cursor → Type 0
ReadsTime old result new = (IsNextType 24 old × ReadsValue (λ v. v) (times (rules_of old) 24) 24 old result new)
    ⊎ ((¬ IsNextType 24 old) × ReadsValue (λ v. v) (times (rules_of old) 23) 23 old result new)

-- the element that was read with the cursor after it
abbrev pub element_left : Any × Cursor → LeadingElement
element_left x = leading (class_of x.0.header) (is_constructed x.0.header) (number_of x.0.header)
    (x.0.bytes.now, octets_left x.1)

-- any element at all is read, and its header is the one that is there
pub record ReadsAnyAt (old : Cursor) (result : Result Any (ReadError BerError)) (new : Cursor) : Type 0 where
  pub any_read : let r = rules_of old in let i = octets_left old in AnswersExactly (taken result new) element_left
      (λ x. SpellsLeading r i (element_left x)) (SpellsLeading r i) (RefusesAt old (NoElement r i)) (LacksAt old) ⊥ ⊥
  pub header : IfOk result (λ a. HasHeader (rules_of old) (octets_left old) (element_of a))
  pub place : GoesOn old result new

-- Opens an explicit tag of this number exactly where its identifier octets are next. Else there is none, and nothing is
-- read.
abbrev pub OpensTagged : ℕ → Cursor → Result (Option Cursor) (ReadError BerError) → Cursor → Type 0
OpensTagged n old (Ok None) new = (¬ BeginsWithTag n (octets_left old)) × (new ≡ advanced old old.left)
OpensTagged n old (Ok (Some inner)) new = BeginsWithTag n (octets_left old)
    × OpensAt ContextSpecific true n old (Ok inner) new
OpensTagged n old (Err e) new = BeginsWithTag n (octets_left old) × OpensAt ContextSpecific true n old (Err e) new

-- the next element, if there is any, is of the class Universal by its first identifier octet (8.1.2.2), or its class is
-- reported at its place
abbrev pub AssertsUniversal : Cursor → Result (Unit {0}) (ReadError BerError) → Type 0
AssertsUniversal c (Ok u) = IfSome (slice_get (octets_left c) 0) (λ b. b / 64 ≡ class_number Universal)
AssertsUniversal c (Err e) = IsSomeAnd (slice_get (octets_left c) 0) (λ b. (k : Class) × (b / 64 ≡ class_number k)
    × (k ≢ Universal) × (e ≡ refusal_at c (Error (UnexpectedClass (Some Universal) k))))

-- nothing is left, or Eof is reported at the place of what is
abbrev pub EndsAt : Cursor → Result (Unit {0}) (ReadError BerError) → Type 0
EndsAt c (Ok u) = octets_left c ≡ []
EndsAt c (Err e) = (octets_left c ≢ []) × (e ≡ refusal_at c (Error (NomError Eof)))

-- an element that its list cuts short
abbrev pub overrun_text : Needed → List ℕ
overrun_text needed = codes "an element runs past the end of its list" ++ needs_text needed

-- an element of a list that lacks octets; it is at the end of the list, or not
abbrev pub cut_item_text : Bool → Needed → List ℕ
cut_item_text true needed = codes "an element is missing at the end of its list"
cut_item_text false needed = overrun_text needed

-- an element at this place that lacks octets: more of them help exactly where it is in no list
abbrev pub cut_text : Option ℕ → ℕ → Needed → List ℕ
cut_text None place needed = codes "the input is cut short" ++ needs_text needed
cut_text (Some n) place needed = cut_item_text (nat_eq n place) needed

-- an error that holds one of the library's, and its own text; the element is at the end of its list, or not
abbrev pub error_text : Bool → Option BerError → Option (List ℕ) → Option (List ℕ)
error_text at_end (Some (CutShort needed)) own = Some (cut_item_text at_end needed)
error_text at_end (Some (NomError Eof)) own = Some (codes "octets left over or missing")
error_text at_end (Some (NomError Many0)) own = Some (codes "the reader of one item of a list read no octets")
error_text at_end _ own = own

-- the refused element is where its list ends
abbrev pub is_at_end : Option ℕ → ℕ → Bool
is_at_end None place = false
is_at_end (Some n) place = nat_eq n place

-- the reason in words, where it has a text
abbrev pub reason_text : {E : Type 0} → (E → Option (List ℕ)) → (E → Option BerError) → ReadError E → Refused E
    → Option (List ℕ)
reason_text shown held e (Incomplete needed) = Some (cut_text e.list_end e.offset needed)
reason_text shown held e (Error x) = error_text (is_at_end e.list_end e.offset) (held x) (shown x)
reason_text shown held e (Failure x) = error_text (is_at_end e.list_end e.offset) (held x) (shown x)
reason_text shown held e OutOfMemory = Some (codes "out of memory")

-- the text of a refusal, where its reason has one
abbrev pub refusal_text : {E : Type 0} → (E → Option (List ℕ)) → (E → Option BerError) → ReadError E → Option (List ℕ)
refusal_text shown held e =
    option_map (λ reason. codes "at " ++ decimal e.offset ++ codes ": " ++ reason) (reason_text shown held e e.reason)
