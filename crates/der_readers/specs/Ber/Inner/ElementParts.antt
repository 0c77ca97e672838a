-- What the private readers of an element's parts answer: of the items of a list, and of the content behind a header.
use Rattle.std.specs.Prelude.{◌≡◌, ◌≢◌, ℕ, ◌≤◌, ◌⊎◌, true, IsTrue, List, [], ◌++◌, All}
use Rattle.der_base.specs.declared.header.Class.TheVariants.{Universal}
use Rattle.der_base.specs.declared.header.Header.{Header}
use Rattle.der_base.specs.declared.header.Length.TheVariants.{Indefinite}
use Rattle.der_base.specs.Content.{BeginsWithContent, ContentRefuses as FramingRefuses}
use Rattle.der_base.specs.Cut.{Lacks}
use Rattle.der_base.specs.Fault.{ItemRefuses, ShowsFault}
use Rattle.der_base.specs.Header.{class_of, is_constructed, number_of, length_of}
use Rattle.der_base.specs.Inner.Framed.{HasContent}
use Rattle.der_base.specs.Leaf.{is_list}
use Rattle.der_base.specs.Refusal.{Refusal}
use Rattle.der_base.specs.Spelling.{Forms, Joins, framing_budget}
use Rattle.der_base.specs.Tree.{Nodes}
use Rattle.der_object.specs.declared.object.BerObject.{BerObject}
use Rattle.der_object.specs.declared.object.BerObjectContent.{BerObjectContent}
use Rattle.der_object.specs.HeaderFacts.{forms_of, inner_forms, EachInside, KeepsHeader}
use Rattle.der_object.specs.HeaderFacts.{HasRawTagAndHeader, EachHasRawTagAndHeader}
use Rattle.der_object.specs.View.{trees, content_tree}
use Rattle.der_readers.specs.Ber.BerReading.{ContentRefuses}

-- w joins items to depth d, and shows the refusal where the next one should begin
abbrev pub ItemsRefuse : List ℕ → ℕ → Refusal → Type 0
ItemsRefuse w d e = (l : Nodes) × (fs : Forms) × (u r : List ℕ) × (w ≡ u ++ r) × Joins u l fs d framing_budget
    × ItemRefuses (ShowsFault d) Lacks r e

-- the octets w join the objects, to depth d
pub record AreItems (w : List ℕ) (os : List BerObject) (d : ℕ) : Type 0 where
  pub joins : Joins w (trees os) (forms_of os) d framing_budget
  pub headers : All EachHasRawTagAndHeader os

-- the octets w are the content of an object with this header, to depth d
pub record IsContentOf (w : List ℕ) (h : Header) (x : BerObjectContent) (d : ℕ) : Type 0 where
  pub content : HasContent w (class_of h) (is_constructed h) (number_of h) (content_tree x) (inner_forms x) d
  pub kept : KeepsHeader h x
  pub headers : EachInside HasRawTagAndHeader x

-- behind a header stands its content, with indefinite lengths nested below the budget k, and it is that of the object,
-- to depth d
pub record ReadsBehind (h : Header) (k d : ℕ) (behind : List ℕ) (o : BerObject) (rest : List ℕ) : Type 0 where
  pub octets : List ℕ
  pub framed : BeginsWithContent behind (length_of h) k octets rest
  pub header : o.header ≡ h
  pub content : IsContentOf octets h o.content d

-- the framing behind the header is refused, or the content
abbrev pub BehindRefuses : Header → ℕ → ℕ → List ℕ → Refusal → Type 0
BehindRefuses h k d behind e = FramingRefuses behind (length_of h) k e
    ⊎ ((w rest : List ℕ) × BeginsWithContent behind (length_of h) k w rest
    × ContentRefuses (class_of h) (is_constructed h) (number_of h) w d e)

-- what stands behind the header is a list that has items, or its length is indefinite
abbrev pub BehindNeedsMemory : Header → ℕ → ℕ → List ℕ → Type 0
BehindNeedsMemory h k d behind =
    ((2 ≤ d) × (class_of h ≡ Universal) × (is_constructed h ≡ true) × IsTrue (is_list (number_of h))
    × (w rest : List ℕ) × (w ≢ []) × BeginsWithContent behind (length_of h) k w rest)
    ⊎ (length_of h ≡ Indefinite)
