-- What a writer has written.
use Rattle.std.specs.Borrow.{MutBor}
use Rattle.std.specs.Prelude.{◌≡◌, ◌≢◌, ℕ, ◌+◌, ◌-◌, ◌%◌, ◌^◌, ◌<◌, ◌≤◌, ◌==◌, nat_le, if◌then◌else◌}
use Rattle.std.specs.Prelude.{Bool, false, Option, Some, None, min, take, drop}
use Rattle.std.specs.Prelude.{List, [], ◌∷◌, ◌++◌, length, Result, Ok, Err, IsOk, MatchResult}
use Rattle.der_base.specs.declared.error.Error.{Error as BerError}
use Rattle.der_base.specs.declared.error.OidParseError.{OidParseError}
use Rattle.der_base.specs.declared.header.Class.{Class}
use Rattle.der_base.specs.declared.header.Class.TheVariants.{Universal, Application, ContextSpecific, Private}
use Rattle.der_base.specs.Encoding.{element}
use Rattle.der_base.specs.Octets.{class_number, identifier, shortest_length}
use Rattle.der_base.specs.Refusal.{refusal, invalid_charset}
use Rattle.der_base.specs.Text.{IsTextOf, IsUtf16}
use Rattle.der_values.specs.declared.identifier.ObjectIdentifier.{ObjectIdentifier}
use Rattle.der_writer.specs.Octets.{identifier_octets, identifier_type}
use Rattle.der_writer.specs.declared.writer.NextTag.{NextTag}
use Rattle.der_writer.specs.declared.writer.Writer.{Writer}
use Rattle.der_writer.specs.declared.writer.Mark.{Mark}
use Rattle.der_writer.specs.declared.writer.WriteError.{WriteError}
use Rattle.der_writer.specs.declared.writer.WriteError.TheVariants.{NoRoom, NotClosed}

-- The state of a writer.

-- a count that stops at the greatest number of the code
abbrev pub IsCount : ℕ → ℕ → Type 0
IsCount n l = n ≡ min l (2 ^ 64 - 1)

-- the octets w are counted, and if the buffer has room, it begins with them
pub record Holds (w : List ℕ) (count : ℕ) (out : List ℕ) : Type 0 where
  pub counted : IsCount count (length w)
  pub held : length w ≤ length out → take (length w) out ≡ w

-- the octets w are written
abbrev pub HasWritten : List ℕ → Writer → Type 0
HasWritten w s = Holds w s.count s.out.now

-- no implicit tag is left over
abbrev pub IsPlain : Writer → Type 0
IsPlain s = s.implicit.class ≡ 0

-- no element is open
abbrev pub IsClosed : Writer → Type 0
IsClosed s = s.innermost ≡ 0

-- the element of the mark is the innermost one that is open
abbrev pub IsInnermost : Mark → Writer → Type 0
IsInnermost m s = s.innermost ≡ m.start

-- a writer over this buffer, with n octets, and with the innermost open element whose length stands at k
pub record Resumes (out : MutBor (List ℕ)) (n k : ℕ) (s : Writer) : Type 0 where
  pub over : s.out.ghost_name ≡ out.ghost_name
  pub octets : s.out.now ≡ out.now
  pub count : s.count ≡ n
  pub innermost : s.innermost ≡ k
  pub plain : IsPlain s

-- a writer at the start of the buffer
abbrev pub StartsAt : MutBor (List ℕ) → Writer → Type 0
StartsAt out s = Resumes out 0 0 s

-- it is the same buffer, where octets that aren't counted stay
pub record Keeps (old : MutBor (List ℕ)) (before : ℕ) (new : MutBor (List ℕ)) (count : ℕ) : Type 0 where
  pub same : new.ghost_name ≡ old.ghost_name
  pub size : length new.now ≡ length old.now
  pub behind : drop count new.now ≡ drop count old.now
  pub grows : before ≤ count

abbrev pub KeepsBuffer : Writer → Writer → Type 0
KeepsBuffer old new = Keeps old.out old.count new.out new.count

-- What calls do.

-- these octets are written after those before
pub record Puts (e : List ℕ) (old new : Writer) : Type 0 where
  pub keeps : KeepsBuffer old new
  pub plain : IsPlain new
  pub level : new.innermost ≡ old.innermost
  pub written : (w : List ℕ) → HasWritten w old → HasWritten (w ++ e) new

-- the class with this number, counted from 1; any number above 4 is that of the last
abbrev pub class_from : ℕ → Class
class_from n = if nat_le n 1 then Universal else if n == 2 then Application else if n == 3 then ContextSpecific
    else Private

-- the class and the number of the next element: its type's, or those of an implicit tag (X.690 8.14.3)
abbrev pub class_put : NextTag → Class
class_put i = class_from i.class

abbrev pub number_put : NextTag → ℕ → ℕ
number_put i t = if i.class == 0 then t else i.number

-- a primitive element of universal type t, or of the implicit tag that it has
unfoldable pub leaf : NextTag → ℕ → List ℕ → List ℕ
leaf i t x = element (class_put i) false (number_put i t) x

-- it is put with these content octets
abbrev pub PutsLeaf : ℕ → List ℕ → Writer → Writer → Type 0
PutsLeaf t x old new = Puts (leaf old.implicit t x) old new

-- octets of a value, and none where there is no value
abbrev pub if_some : {V : Type 0} → (V → List ℕ) → Option V → List ℕ
if_some octets None = []
if_some octets (Some v) = octets v

-- it is put with the content octets of the value, if there is one (X.680 25.8)
abbrev pub PutsOptional : {V : Type 0} → ℕ → (V → List ℕ) → Option V → Writer → Writer → Type 0
PutsOptional t content v old new = Puts (if_some (λ x. leaf old.implicit t (content x)) v) old new

-- the same of an identifier, as the type that it has
abbrev pub PutsOptionalIdentifier : Option ObjectIdentifier → Writer → Writer → Type 0
PutsOptionalIdentifier v old new =
    Puts (if_some (λ x. leaf old.implicit (identifier_type x) (identifier_octets x)) v) old new

-- it is put with the content octets of the value, unless that is the default (11.5)
pub record PutsUnless {V : Type 0} (default : V) (t : ℕ) (content : V → List ℕ) (v : V) (old new : Writer)
    : Type 0 where
  pub same : v ≡ default → Puts [] old new
  pub other : v ≢ default → PutsLeaf t (content v) old new

-- it is put, with octets in the character set of the string type; or they aren't, and nothing is put
abbrev pub PutsText : ℕ → List ℕ → Writer → Result (Unit {0}) BerError → Writer → Type 0
PutsText t x old result new = MatchResult result
    (λ v. IsTextOf t x × PutsLeaf t x old new)
    (λ e. (¬ IsTextOf t x) × (refusal e ≡ invalid_charset) × (new ≡ old))

-- pairs of octets that are UTF-16, as those of a BMPString (8.23.9)
abbrev pub IsBmp : List ℕ → Type 0
IsBmp x = (length x % 2 ≡ 0) × IsUtf16 x

-- it is put, with such octets; or they are others, and nothing is put
abbrev pub PutsBmp : List ℕ → Writer → Result (Unit {0}) BerError → Writer → Type 0
PutsBmp x old result new = MatchResult result
    (λ v. IsBmp x × PutsLeaf 30 x old new)
    (λ e. (¬ IsBmp x) × (refusal e ≡ invalid_charset) × (new ≡ old))

-- a text of its character set is put, if there is one
abbrev pub PutsOptionalText : ℕ → Option (List ℕ) → Writer → Result (Unit {0}) BerError → Writer → Type 0
PutsOptionalText t None old result new = IsOk result × Puts [] old new
PutsOptionalText t (Some x) old result new = PutsText t x old result new

-- and one with a default, unless it is the default (11.5)
pub record PutsTextUnless (default : List ℕ) (t : ℕ) (x : List ℕ) (old : Writer) (result : Result (Unit {0}) BerError)
    (new : Writer) : Type 0 where
  pub same : x ≡ default → IsOk result × Puts [] old new
  pub other : x ≢ default → PutsText t x old result new

-- the content octets of arcs are put, or it is refused why there are none, and nothing is put
abbrev pub PutsArcs : Result (List ℕ) OidParseError → Writer → Result (Unit {0}) OidParseError → Writer → Type 0
PutsArcs (Ok w) old (Ok u) new = PutsLeaf 6 w old new
PutsArcs (Err refusal) old (Err e) new = (e ≡ refusal) × (new ≡ old)
PutsArcs _ old _ new = ⊥

-- the same writer, before an element under this implicit tag
pub record IsTagged (c : Class) (n : ℕ) (old new : Writer) : Type 0 where
  pub tagged : new ≡ record old { implicit = record { class = class_number c + 1; number = n } }

-- the room for a length of one octet
abbrev pub reserved : List ℕ
reserved = 0 ∷ []

-- the octets in front of the length of the mark's element are these
abbrev pub IsAfter : List ℕ → Mark → Type 0
IsAfter w m = IsCount m.start (length w)

-- an element of this class, constructed bit and number is open
pub record Opens (k : Class) (p : Bool) (t : ℕ) (m : Mark) (old new : Writer) : Type 0 where
  pub keeps : KeepsBuffer old new
  pub plain : IsPlain new
  pub some : 1 ≤ m.start
  pub outer : m.outer ≡ old.innermost
  pub innermost : IsInnermost m new
  pub written : (w : List ℕ) → HasWritten w old
      → IsAfter (w ++ identifier k p t) m × HasWritten (w ++ identifier k p t ++ reserved) new

-- a BIT STRING is open, and its first content octet, by which no bits are unused, is put (8.6.2.2)
abbrev pub OpensBits : Mark → Writer → Writer → Type 0
OpensBits m old new = (between : Writer) × Opens Universal false 3 m old between × Puts (0 ∷ []) between new

-- all from an offset on is the content of one element
pub record EndsContent (start : ℕ) (old new : Writer) : Type 0 where
  pub keeps : KeepsBuffer old new
  pub tag : new.implicit ≡ old.implicit
  pub level : new.innermost ≡ old.innermost
  pub written : (before content : List ℕ) → IsCount start (length before)
      → HasWritten (before ++ reserved ++ content) old
      → HasWritten (before ++ (shortest_length (length content) ++ content)) new

-- The mark's element is closed, with all since as its content, if it is the innermost. Otherwise the innermost stays
-- open.
pub record Closes (m : Mark) (old new : Writer) : Type 0 where
  pub keeps : KeepsBuffer old new
  pub plain : IsPlain new
  pub closed : IsInnermost m old → new.innermost ≡ m.outer
  pub stays : ¬ IsInnermost m old → new.innermost ≡ old.innermost
  pub written : (before content : List ℕ) → IsInnermost m old → IsAfter before m
      → HasWritten (before ++ reserved ++ content) old
      → HasWritten (before ++ (shortest_length (length content) ++ content)) new

-- how many octets are counted, if no element is open and the buffer has them
abbrev pub Returns : Writer → Result ℕ WriteError → Type 0
Returns s (Ok n) = IsClosed s × (n ≡ s.count) × (s.count ≤ length s.out.now)
Returns s (Err (NoRoom n)) = IsClosed s × (n ≡ s.count) × (length s.out.now < s.count)
Returns s (Err NotClosed) = ¬ IsClosed s

-- it is returned, and the buffer stays
pub record Finishes (old : Writer) (new : List ℕ) (result : Result ℕ WriteError) : Type 0 where
  pub small : length old.out.now < 2 ^ 63
  pub kept : new ≡ old.out.now
  pub returned : Returns old result

-- if the buffer has room up to this end, the octets stand between the begin and the end, and all behind the end stays
pub record FillsTo (end : ℕ) (old new : List ℕ) (begin : ℕ) (w : List ℕ) : Type 0 where
  pub small : length old < 2 ^ 63
  pub size : length new ≡ length old
  pub filled : end ≤ length old → take end new ≡ take begin old ++ w
  pub behind : drop end new ≡ drop end old

-- What a function that makes a writer promises: the buffer begins with the octets, and what follows them is as it was;
-- or it has fewer octets, and they are counted.
abbrev pub Wrote : List ℕ → List ℕ → List ℕ → Result ℕ WriteError → Type 0
Wrote w old new (Ok n) = (n ≡ length w) × (new ≡ w ++ drop n old)
Wrote w old new (Err (NoRoom n)) = (length old < length w) × IsCount n (length w)
Wrote w old new (Err NotClosed) = ⊥
