-- The items of a list, and what a content is behind the header of its object.
use Rattle.std.specs.Prelude.{◌≡◌, ℕ, List, ◌++◌, All}
use Rattle.der_base.specs.declared.header.Header.{Header}
use Rattle.der_base.specs.Cut.{DerLacks}
use Rattle.der_base.specs.Fault.{DerJoins, ItemRefuses, DerShowsFault}
use Rattle.der_base.specs.Header.{class_of, is_constructed, number_of}
use Rattle.der_base.specs.Refusal.{Refusal}
use Rattle.der_base.specs.Tree.{Nodes}
use Rattle.der_object.specs.declared.object.BerObject.{BerObject}
use Rattle.der_object.specs.declared.object.BerObjectContent.{BerObjectContent}
use Rattle.der_object.specs.HeaderFacts.{EachInside, KeepsHeader, HasDerHeader, EachHasDerHeader}
use Rattle.der_object.specs.View.{content_tree, trees}
use Rattle.der_values.specs.Contents.{IsDerContentOf}

-- the octets w join the objects, to depth d
pub record AreItems (w : List ℕ) (os : List BerObject) (d : ℕ) : Type 0 where
  pub joins : DerJoins w (trees os) d
  pub headers : All EachHasDerHeader os

-- w joins items to depth d, and shows the refusal where the next one should begin
abbrev pub ItemsRefuse : List ℕ → ℕ → Refusal → Type 0
ItemsRefuse w d e = (l : Nodes) × (u r : List ℕ) × (w ≡ u ++ r) × DerJoins u l d
    × ItemRefuses (DerShowsFault d) DerLacks r e

-- the octets w are the content of an object with this header, to depth d
pub record IsContentOf (w : List ℕ) (h : Header) (x : BerObjectContent) (d : ℕ) : Type 0 where
  pub content : IsDerContentOf w (class_of h) (is_constructed h) (number_of h) (content_tree x) d
  pub kept : KeepsHeader h x
  pub headers : EachInside HasDerHeader x
