-- What the headers of an object have beside its tree: their raw tags and lengths.
use Rattle.std.specs.Prelude.{◌≡◌, Some, List, [], ◌∷◌, length}
use Rattle.der_base.specs.declared.header.Header.{Header}
use Rattle.der_base.specs.declared.header.Length.TheVariants.{Definite}
use Rattle.der_base.specs.Encoding.{content_octets}
use Rattle.der_base.specs.Header.{class_of, is_constructed, number_of, length_of, raw_tag_of}
use Rattle.der_base.specs.Octets.{identifier}
use Rattle.der_base.specs.Spelling.{Form, form, Forms, no_forms, forms}
use Rattle.der_object.specs.declared.object.BerObject.{BerObject}
use Rattle.der_object.specs.declared.object.BerObjectContent.{BerObjectContent, Row_of-BerObject, end_of-BerObject}
use Rattle.der_object.specs.declared.object.BerObjectContent.{more_of-BerObject, None', Some'}
use Rattle.der_object.specs.declared.object.BerObjectContent.{Held-BerObjectContent-Optional-0}
use Rattle.der_object.specs.declared.object.BerObjectContent.TheVariants.{Sequence', Set', Optional', Tagged', Unknown}
use Rattle.der_object.specs.View.{content_tree}

abbrev mutual
  -- the lengths in the headers of the items, or of the object inside a tagged or optional content
  pub inner_forms : BerObjectContent → Forms
  inner_forms (Sequence' shape row) = row_forms row
  inner_forms (Set' shape row) = row_forms row
  inner_forms (Optional' held) = held_forms held
  inner_forms (Tagged' c t b h x) = forms (form (length_of h) (inner_forms x)) no_forms
  inner_forms _ = no_forms

  pub held_forms : Held-BerObjectContent-Optional-0 → Forms
  held_forms None' = no_forms
  held_forms (Some' b h x) = forms (form (length_of h) (inner_forms x)) no_forms

  pub row_forms : {m : _} → Row_of-BerObject m → Forms
  row_forms end_of-BerObject = no_forms
  row_forms (more_of-BerObject h x rest) = forms (form (length_of h) (inner_forms x)) (row_forms rest)

-- the length in the header of an object, and those inside
abbrev pub form_of : BerObject → Form
form_of o = form (length_of o.header) (inner_forms o.content)

abbrev pub forms_of : List BerObject → Forms
forms_of [] = no_forms
forms_of (o ∷ os) = forms (form_of o) (forms_of os)

abbrev mutual
  -- The fact holds for the header and content of each item, and of an object inside a tagged or optional one, at any
  -- depth.
  pub EachInside : (Header → BerObjectContent → Type 0) → BerObjectContent → Type 0
  EachInside P (Sequence' shape row) = EachInRow P row
  EachInside P (Set' shape row) = EachInRow P row
  EachInside P (Optional' held) = EachHeld P held
  EachInside P (Tagged' c t b h x) = P h x × EachInside P x
  EachInside P _ = Unit {0}

  pub EachHeld : (Header → BerObjectContent → Type 0) → Held-BerObjectContent-Optional-0 → Type 0
  EachHeld P None' = Unit {0}
  EachHeld P (Some' b h x) = P h x × EachInside P x

  pub EachInRow : {m : _} → (Header → BerObjectContent → Type 0) → Row_of-BerObject m → Type 0
  EachInRow P end_of-BerObject = Unit {0}
  EachInRow P (more_of-BerObject h x rest) = P h x × EachInside P x × EachInRow P rest

-- the fact holds for the object's own header and content, and inside
abbrev pub EachHeader : (Header → BerObjectContent → Type 0) → BerObject → Type 0
EachHeader P o = P o.header o.content × EachInside P o.content

-- the raw tag is there, and is the header's identifier octets
abbrev pub HasRawTag : Header → Type 0
HasRawTag h = raw_tag_of h ≡ Some (identifier (class_of h) (is_constructed h) (number_of h))

-- an unknown content keeps the header of its object
abbrev pub KeepsHeader : Header → BerObjectContent → Type 0
KeepsHeader h (Unknown a) = a.header ≡ h
KeepsHeader h _ = Unit {0}

-- the raw tag is there, and the content keeps the header
pub record HasRawTagAndHeader (h : Header) (x : BerObjectContent) : Type 0 where
  pub raw_tag : HasRawTag h
  pub kept : KeepsHeader h x

-- the raw tag is there, the content keeps the header, and the length is definite and that of the content octets
pub record HasDerHeader (h : Header) (x : BerObjectContent) : Type 0 where
  pub raw_tag : HasRawTag h
  pub length : length_of h ≡ Definite (length (content_octets (content_tree x)))
  pub kept : KeepsHeader h x

-- an object whose headers all have their raw tags, also those that unknown contents keep
abbrev pub EachHasRawTagAndHeader : BerObject → Type 0
EachHasRawTagAndHeader o = EachHeader HasRawTagAndHeader o

-- an object whose headers all have their raw tags, and their lengths as in DER
abbrev pub EachHasDerHeader : BerObject → Type 0
EachHasDerHeader o = EachHeader HasDerHeader o
