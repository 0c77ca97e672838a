-- Copies of objects.
use Rattle.std.specs.Prelude.{◌≡◌, ◌≢◌, ◌⊎◌, None, List, [], ◌∷◌, ◌++◌}
use Rattle.der_base.specs.declared.header.Header.{Header}
use Rattle.der_object.specs.declared.object.BerObject.{BerObject}
use Rattle.der_object.specs.declared.object.BerObjectContent.{BerObjectContent, Row_of-BerObject, end_of-BerObject}
use Rattle.der_object.specs.declared.object.BerObjectContent.{more_of-BerObject, None', Some'}
use Rattle.der_object.specs.declared.object.BerObjectContent.{Held-BerObjectContent-Optional-0}
use Rattle.der_object.specs.declared.object.BerObjectContent.TheVariants.{Sequence', Set', Optional', Tagged', Unknown}
use Rattle.der_object.specs.Items.{items_of, inner_object, OwnsIdentifier}
use Rattle.der_object.specs.View.{tree, content_tree, trees}

abbrev mutual
  -- The headers of the items and of objects inside tagged and optional ones, at any depth, in the order in which they
  -- stand, and those that unknown contents keep.
  pub inner_headers : BerObjectContent → List Header
  inner_headers (Sequence' shape row) = row_headers row
  inner_headers (Set' shape row) = row_headers row
  inner_headers (Optional' held) = held_headers held
  inner_headers (Tagged' c t b h x) = h ∷ inner_headers x
  inner_headers (Unknown a) = a.header ∷ []
  inner_headers _ = []

  pub held_headers : Held-BerObjectContent-Optional-0 → List Header
  held_headers None' = []
  held_headers (Some' b h x) = h ∷ inner_headers x

  pub row_headers : {m : _} → Row_of-BerObject m → List Header
  row_headers end_of-BerObject = []
  row_headers (more_of-BerObject h x rest) = (h ∷ inner_headers x) ++ row_headers rest

-- the header of an object, and those inside
abbrev pub headers_of : BerObject → List Header
headers_of o = o.header ∷ inner_headers o.content

abbrev pub all_headers : List BerObject → List Header
all_headers [] = []
all_headers (o ∷ os) = headers_of o ++ all_headers os

-- an equal object whose headers are the same, with their lengths and raw tags
pub record IsCopyOf (o copy : BerObject) : Type 0 where
  pub tree : tree copy ≡ tree o
  pub headers : headers_of copy ≡ headers_of o

pub record IsContentCopyOf (x copy : BerObjectContent) : Type 0 where
  pub content : content_tree copy ≡ content_tree x
  pub headers : inner_headers copy ≡ inner_headers x

-- copies of objects, one by one
pub record AreCopiesOf (os copies : List BerObject) : Type 0 where
  pub list : trees copies ≡ trees os
  pub headers : all_headers copies ≡ all_headers os

-- a copy of the content allocates: a list has items, an object is inside, or an identifier owns its octets
abbrev pub CopyTakesMemory : BerObjectContent → Type 0
CopyTakesMemory x = (items_of x ≢ []) ⊎ (inner_object x ≢ None) ⊎ OwnsIdentifier x
