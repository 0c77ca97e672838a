-- Combinators that keep a caller's parser: what they return, in terms of its results. `Opens` says which element the
-- input begins with by the rules, `Refuses` what is returned where it begins with none, `step` what the parser promises
-- of a call.
use Rattle.std.specs.Prelude.{◌≡◌, ◌≢◌, ℕ, ◌<◌, ◌⊎◌, Bool, true, false, Some, None, List, ◌++◌, length}
use Rattle.std.specs.Prelude.{Result, Ok, Err}
use Rattle.std.specs.Borrow.{Bor}
use Rattle.der_base.specs.declared.error.Err.{Err as Refused}
use Rattle.der_base.specs.declared.error.Err.TheVariants.{Incomplete, Error, OutOfMemory}
use Rattle.der_base.specs.declared.error.Error.{Error as BerError}
use Rattle.der_base.specs.declared.error.ErrorKind.{ErrorKind}
use Rattle.der_base.specs.declared.error.ErrorKind.TheVariants.{Eof}
use Rattle.der_base.specs.declared.error.Needed.TheVariants.{Size}
use Rattle.der_base.specs.declared.header.Class.{Class}
use Rattle.der_base.specs.declared.header.Class.TheVariants.{Universal}
use Rattle.der_base.specs.declared.header.Header.{Header}
use Rattle.der_base.specs.declared.header.Length.TheVariants.{Definite}
use Rattle.der_base.specs.declared.rules.Rules.{Rules}
use Rattle.der_base.specs.declared.rules.Rules.TheVariants.{Ber, Der}
use Rattle.der_base.specs.Any.{AnyRefuses, AnyLacks}
use Rattle.der_base.specs.Fault.{DerHeaderRefuses}
use Rattle.der_base.specs.Header.{class_of, is_constructed, number_of, length_of, raw_tag_of, IsHeader}
use Rattle.der_base.specs.Headers.{BeginsWithHeader, ReadsHeader, BeginsWithDerHeader, ReadsDerHeader, DerHeaderLacks}
use Rattle.der_base.specs.Refusal.{Refusal, refusal, unexpected_tag, unexpected_class, construct_expected}
use Rattle.der_base.specs.Spelling.{BeginsWithElement, framing_budget}

-- what a parser returns
abbrev pub Answered : Type 0 → Type 0 → Type 0
Answered O E = Result (Bor (List ℕ) × O) (Refused E)

-- By BER, i begins with the element of this header and content, and after follows it.
pub record OpensBer (i : List ℕ) (h : Header) (w after : List ℕ) : Type 0 where
  pub element : BeginsWithElement i framing_budget (class_of h) (is_constructed h) (number_of h) w after
  pub behind : List ℕ
  pub header : ReadsHeader i h behind

-- By DER: a header as DER writes it, whose length is that of the content.
abbrev pub OpensDer : List ℕ → Header → List ℕ → List ℕ → Type 0
OpensDer i h w after = ReadsDerHeader i h (w ++ after) × (length_of h ≡ Definite (length w))

abbrev pub Opens : Rules → List ℕ → Header → List ℕ → List ℕ → Type 0
Opens Ber i h w after = OpensBer i h w after
Opens Der i h w after = OpensDer i h w after

-- i begins with an element of this class, form, tag number and content, and after follows it
abbrev pub BeginsWithElementBy : Rules → List ℕ → Class → Bool → ℕ → List ℕ → List ℕ → Type 0
BeginsWithElementBy Ber i c p t w after = BeginsWithElement i framing_budget c p t w after
BeginsWithElementBy Der i c p t w after = BeginsWithDerHeader i c p t (length w) (w ++ after)

-- the header of i, or what frames the content after it, breaks a rule
abbrev pub OpeningRefuses : Rules → List ℕ → Refusal → Type 0
OpeningRefuses Ber i e = AnyRefuses i e
OpeningRefuses Der i e = DerHeaderRefuses i e

-- a definite length in front of i is more than the octets after it
abbrev pub HasShortContent : Rules → List ℕ → List ℕ → Type 0
HasShortContent Ber i behind = (c : Class) × (p : Bool) × (t n : ℕ) × BeginsWithHeader i c p t (Definite n) behind
    × (length behind < n)
HasShortContent Der i behind = (c : Class) × (p : Bool) × (t n : ℕ) × BeginsWithDerHeader i c p t n behind
    × (length behind < n)

-- i ends within its header, or by BER within the content of an indefinite length, lacks n octets, and shows no refusal
abbrev pub OpeningLacks : Rules → List ℕ → ℕ → Type 0
OpeningLacks Ber i n = AnyLacks i n × ((behind : List ℕ) → ¬ HasShortContent Ber i behind)
OpeningLacks Der i n = DerHeaderLacks i n

-- Where no element with its whole content begins i: a fault of header or framing, the end of the input in them, or a
-- definite content that is short, which is Eof at the octets after the header.
module _ {E : Type 0} (rules : Rules) (from_error_kind_gives : Bor (List ℕ) → ErrorKind → E → Type 0)
    (from_gives : BerError → E → Type 0) where
  pub data Refuses (i : List ℕ) : Refused E → Type 0 where
    faulty : {e : BerError} {x : E} → OpeningRefuses rules i (refusal e) → from_gives e x → Refuses i (Error x)
    cut : {n : ℕ} → OpeningLacks rules i n → Refuses i (Incomplete (Size n))
    too_short : {behind : Bor (List ℕ)} {x : E} → HasShortContent rules i behind.now
        → from_error_kind_gives behind Eof x → Refuses i (Error x)

-- One call of the parser takes it from f to g. It has exactly the content and the header of an element that is opened,
-- and its result is the result, an Ok with what follows the element.
module _ {F O E : Type 0} (opens : Header → List ℕ → List ℕ → Type 0)
    (step : F → Bor (List ℕ) → Header → Answered O E → F → Type 0) where
  pub data OneCall (f : F) : Answered O E → F → Type 0 where
    stopped : {g : F} {h : Header} {w after : List ℕ} {content : Bor (List ℕ)} {e : Refused E} → opens h w after
        → step f content h (Err e) g → content.now ≡ w → OneCall f (Err e) g
    accepted : {g : F} {h : Header} {w : List ℕ} {content left after : Bor (List ℕ)} {v : O} → opens h w after.now
        → step f content h (Ok (left, v)) g → content.now ≡ w → OneCall f (Ok (after, v)) g

-- the result is a refusal, and no call leaves the parser as it is
module _ {F O E : Type 0} (refuses : Refused E → Type 0) where
  pub data NoCall (f : F) : Answered O E → F → Type 0 where
    refused : {e : Refused E} → refuses e → NoCall f (Err e) f

-- a container's result: a refusal without a call, or that of one call
abbrev pub ContainerRun : {F O E : Type 0} → (Header → List ℕ → List ℕ → Type 0) → (Refused E → Type 0)
    → (F → Bor (List ℕ) → Header → Answered O E → F → Type 0) → F → Answered O E → F → Type 0
ContainerRun opens refuses step f r g = NoCall refuses f r g ⊎ OneCall opens step f r g

-- Of the elements that are opened, those of the tag number n.
abbrev pub OpensNumber : Rules → ℕ → List ℕ → Header → List ℕ → List ℕ → Type 0
OpensNumber rules n i h w after = Opens rules i h w after × (number_of h ≡ n)

-- Explicit tags (X.690 8.14.2): those of the tag number n that are constructed and not of class Universal.
abbrev pub OpensExplicit : Rules → ℕ → List ℕ → Header → List ℕ → List ℕ → Type 0
OpensExplicit rules n i h w after = Opens rules i h w after × (class_of h ≢ Universal) × (number_of h ≡ n)
    × (is_constructed h ≡ true)

module _ {E : Type 0} (rules : Rules) (from_error_kind_gives : Bor (List ℕ) → ErrorKind → E → Type 0)
    (from_gives : BerError → E → Type 0) where
  -- after the refusals of the container, another number
  pub data RefusesNumber (n : ℕ) (i : List ℕ) : Refused E → Type 0 where
    unopened : {r : Refused E} → Refuses rules from_error_kind_gives from_gives i r → RefusesNumber n i r
    other_number : (h : Header) (w after : List ℕ) {e : BerError} {x : E} → Opens rules i h w after → number_of h ≢ n
        → refusal e ≡ unexpected_tag (Some n) (number_of h) → from_gives e x → RefusesNumber n i (Error x)

  -- after them, the first of the three tests that fails
  pub data RefusesExplicit (n : ℕ) (i : List ℕ) : Refused E → Type 0 where
    unopened : {r : Refused E} → Refuses rules from_error_kind_gives from_gives i r → RefusesExplicit n i r
    universal : (h : Header) (w after : List ℕ) {e : BerError} {x : E} → Opens rules i h w after
        → class_of h ≡ Universal → refusal e ≡ unexpected_class None Universal → from_gives e x
        → RefusesExplicit n i (Error x)
    other_number : (h : Header) (w after : List ℕ) {e : BerError} {x : E} → Opens rules i h w after
        → class_of h ≢ Universal → number_of h ≢ n → refusal e ≡ unexpected_tag (Some n) (number_of h)
        → from_gives e x → RefusesExplicit n i (Error x)
    primitive : (h : Header) (w after : List ℕ) {e : BerError} {x : E} → Opens rules i h w after
        → class_of h ≢ Universal → number_of h ≡ n → is_constructed h ≡ false → refusal e ≡ construct_expected
        → from_gives e x → RefusesExplicit n i (Error x)

-- A container, one of a tag number, and one of an explicit tag. What the container calls is `step`: the kept parser's
-- own promise, or one of the forms below.
module _ {F O E : Type 0} (rules : Rules) (from_error_kind_gives : Bor (List ℕ) → ErrorKind → E → Type 0)
    (from_gives : BerError → E → Type 0) (i : List ℕ)
    (step : F → Bor (List ℕ) → Header → Answered O E → F → Type 0) where
  abbrev pub ElementRun : F → Answered O E → F → Type 0
  ElementRun = ContainerRun (Opens rules i) (Refuses rules from_error_kind_gives from_gives i) step

module _ {F O E : Type 0} (rules : Rules) (n : ℕ) (from_error_kind_gives : Bor (List ℕ) → ErrorKind → E → Type 0)
    (from_gives : BerError → E → Type 0) (i : List ℕ)
    (step : F → Bor (List ℕ) → Header → Answered O E → F → Type 0) where
  abbrev pub NumberRun : F → Answered O E → F → Type 0
  NumberRun = ContainerRun (OpensNumber rules n i) (RefusesNumber rules from_error_kind_gives from_gives n i) step

  abbrev pub ExplicitRun : F → Answered O E → F → Type 0
  ExplicitRun = ContainerRun (OpensExplicit rules n i) (RefusesExplicit rules from_error_kind_gives from_gives n i) step

-- What a container calls in the place of a parser of content and header.

-- a parser of the content alone
abbrev pub OnContent : {F O E : Type 0} → (F → Bor (List ℕ) → Answered O E → F → Type 0) → F → Bor (List ℕ) → Header
    → Answered O E → F → Type 0
OnContent step f content h r g = step f content r g

-- an implicit tag (X.690 8.14.3) hands on its header with the definite length of the content, and the depth 50
abbrev pub OnImplicit : {F O E : Type 0} → (F → Bor (List ℕ) → Header → ℕ → Answered O E → F → Type 0) → F
    → Bor (List ℕ) → Header → Answered O E → F → Type 0
OnImplicit step f content h r g = (h' : Header)
    × IsHeader h' (class_of h) (is_constructed h) (number_of h) (Definite (length content.now)) (raw_tag_of h)
    × step f content h' 50 r g

-- a parser whose value is made into another, as `makes` says of the header and the two
module _ {F V O E : Type 0} (makes : Header → V → O → Type 0)
    (step : F → Bor (List ℕ) → Header → Answered V E → F → Type 0) where
  pub data Made (f : F) (content : Bor (List ℕ)) (h : Header) : Answered O E → F → Type 0 where
    not_made : {g : F} {e : Refused E} → step f content h (Err e) g → Made f content h (Err e) g
    made : {g : F} {left : Bor (List ℕ)} {v : V} {o : O} → step f content h (Ok (left, v)) g → makes h v o
        → Made f content h (Ok (left, o)) g

  -- the same of a value that takes memory, of which there may be none
  pub data MadeInMemory (f : F) (content : Bor (List ℕ)) (h : Header) : Answered O E → F → Type 0 where
    enough : {g : F} {r : Answered O E} → Made f content h r g → MadeInMemory f content h r g
    no_room : {g : F} {left : Bor (List ℕ)} {v : V} → step f content h (Ok (left, v)) g
        → MadeInMemory f content h (Err OutOfMemory) g

-- a parser that is kept beside rules and a tag, which stay
abbrev pub Keeps : {T F A : Type 0} → (T → F → A → F → Type 0) → T × F → A → T × F → Type 0
Keeps run old r new = (new.0 ≡ old.0) × run old.0 old.1 r new.1

-- a parser that is let go after its run
abbrev pub LetsGo : {F A : Type 0} → (F → A → F → Type 0) → F → A → Type 0
LetsGo {F} run f r = (g : F) × run f r g
