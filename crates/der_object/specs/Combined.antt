-- The objects that combinators make: lists, tagged objects, and optional objects.
use Rattle.std.specs.Prelude.{◌≡◌, ◌≢◌, ℕ, List, Ok, Err, Some, None}
use Rattle.std.specs.Borrow.{Bor}
use Rattle.std.specs.Global.{Box, Vec}
use Rattle.der_base.specs.declared.error.Err.{Err as Refused}
use Rattle.der_base.specs.declared.error.Err.TheVariants.{OutOfMemory}
use Rattle.der_base.specs.declared.header.Header.{Header}
use Rattle.der_base.specs.declared.header.Tag.{Tag}
use Rattle.der_base.specs.Containers.{Answered, Made}
use Rattle.der_base.specs.Header.{class_of, number_of}
use Rattle.der_base.specs.Tree.{present, tagged}
use Rattle.der_object.specs.declared.object.BerObject.{BerObject}
use Rattle.der_object.specs.declared.object.BerObjectContent.{BerObjectContent}
use Rattle.der_object.specs.declared.object.BerObjectContent.TheVariants.{Sequence, Optional, Tagged}
use Rattle.der_object.specs.Objects.{IsMadeOf}
use Rattle.der_object.specs.View.{node_of, tree}

-- o is the SEQUENCE of the items, whatever header they followed
abbrev pub IsSequenceOf : Header → Vec BerObject → BerObject → Type 0
IsSequenceOf h items o = IsMadeOf (Sequence items) o

-- x is the object o inside an explicit tag (X.690 8.14.2), under the tag's header h
pub record IsTagged (h : Header) (o x : BerObject) : Type 0 where
  pub header : x.header ≡ h
  pub tag : Tag
  pub number : tag.0 ≡ number_of h
  pub boxed : Box BerObject
  pub content : x.content ≡ Tagged (class_of h) tag boxed
  pub inner : boxed.value ≡ o
  pub tree : tree x ≡ node_of h (tagged (class_of h) (number_of h) (tree o))

-- x has the header and the content
abbrev pub HasParts : Header → BerObjectContent → BerObject → Type 0
HasParts h content x = (x.header ≡ h) × (x.content ≡ content)

-- a parser of a content that takes a reference to its header makes an object of the header and the content
abbrev pub MakesObject : {F E : Type 0}
    → (F → Bor (List ℕ) → Bor Header → ℕ → Answered BerObjectContent E → F → Type 0)
    → F → Bor (List ℕ) → Header → ℕ → Answered BerObject E → F → Type 0
MakesObject step f content h depth r g =
    Made HasParts (λ f content h r g. (q : Bor Header) × (q.now ≡ h) × step f content q depth r g) f content h r g

-- x is the optional object o, which is present, under its own header
pub record IsPresent (o x : BerObject) : Type 0 where
  pub header : x.header ≡ o.header
  pub boxed : Box BerObject
  pub content : x.content ≡ Optional (Some boxed)
  pub inner : boxed.value ≡ o
  pub tree : tree x ≡ node_of o.header (present (tree o))

-- x is an optional object that is absent
abbrev pub IsAbsent : BerObject → Type 0
IsAbsent x = IsMadeOf (Optional None) x

-- The answer for an optional object on the input i, by the answer of the object's own parser. Any error of that but
-- OutOfMemory means that the object is absent, and the input stays as it is.
module _ {E : Type 0} (i : List ℕ) where
  pub data MayBeAbsent : Answered BerObject E → Answered BerObject E → Type 0 where
    there : {rest : Bor (List ℕ)} {o x : BerObject} → IsPresent o x → MayBeAbsent (Ok (rest, o)) (Ok (rest, x))
    -- the object is there, but there is no memory for its box
    no_room : {rest : Bor (List ℕ)} {o : BerObject} → MayBeAbsent (Ok (rest, o)) (Err OutOfMemory)
    not_there : {e : Refused E} {rest : Bor (List ℕ)} {x : BerObject} → e ≢ OutOfMemory → rest.now ≡ i → IsAbsent x
        → MayBeAbsent (Err e) (Ok (rest, x))
    out_of_memory : MayBeAbsent (Err OutOfMemory) (Err OutOfMemory)

-- one call on i of the parser of an optional object, where `step` is what the object's own parser promises
abbrev pub OptionalRun : {F E : Type 0} → (F → Bor (List ℕ) → Answered BerObject E → F → Type 0) → List ℕ
    → F → Answered BerObject E → F → Type 0
OptionalRun {F} {E} step i f r g =
    (p : Bor (List ℕ)) × (a : Answered BerObject E) × (p.now ≡ i) × step f p a g × MayBeAbsent i a r
