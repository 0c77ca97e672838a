-- Worked rows of items and copies, proved or refuted.
use Rattle.std.proofs.Common.{◌≡◌, ◌≢◌, ℕ, List, [], ◌∷◌, refl, sym, ap, ◌∙◌, arith, Option, Some, None, inl, inr}
use Rattle.std.proofs.lemmas.Option.{none-some}
use Rattle.std.specs.declared.vec.Vec.{Vec}
use Rattle.std.specs.declared.alloc.Global.{Global}
use Rattle.std.specs.Global.{Box}
use Rattle.der_base.specs.declared.header.Class.{Class}
use Rattle.der_base.specs.declared.header.Header.{Header}
use Rattle.der_base.specs.declared.header.Tag.{Tag}
use Rattle.der_base.specs.declared.header.Length.{Length}
use Rattle.der_base.specs.declared.header.Length.TheVariants.{Indefinite}
use Rattle.der_base.specs.Header.{length_of, raw_tag_of}
use Rattle.der_object.specs.declared.object.BerObject.{BerObject}
use Rattle.der_object.specs.declared.object.BerObjectContent.TheVariants.{Null, Sequence, Optional, Tagged}
use Rattle.der_object.specs.Clones.{IsCopyOf, CopyTakesMemory}
use Rattle.der_object.specs.Items.{items_of, inner_object, moved_items, HasItem}
use Rattle.der_object.proofs.ItemLists.{of_sequence}

of_null : items_of Null ≡ []
of_null = refl

-- a sequence is moved into its items, an empty one into nothing, and another object into itself
moved_sequence : (h : Header) (v : Vec BerObject Global) → moved_items (record { header = h; content = Sequence v }) ≡ v.items
moved_sequence h v = of_sequence v

moved_null : (h : Header) → moved_items (record { header = h; content = Null }) ≡ record { header = h; content = Null } ∷ []
moved_null h = refl

no_item : (h : Header) (i : ℕ) → ¬ HasItem (record { header = h; content = Null }) i
no_item h i l = omega (arith, l)

itself : (o : BerObject) → IsCopyOf o o
itself o = record { tree = refl; headers = refl }

abbrev first_length : List Header → Length
first_length [] = Indefinite
first_length (h ∷ hs) = length_of h

abbrev first_raw_tag : List Header → Option (List ℕ)
first_raw_tag [] = None
first_raw_tag (h ∷ hs) = raw_tag_of h

-- an equal object is no copy with another length, or with another raw tag
other_length : (o c : BerObject) → length_of c.header ≢ length_of o.header → ¬ IsCopyOf o c
other_length o c n h = n (ap first_length h.headers)

other_raw_tag : (o c : BerObject) → raw_tag_of c.header ≢ raw_tag_of o.header → ¬ IsCopyOf o c
other_raw_tag o c n h = n (ap first_raw_tag h.headers)

-- a copy of a NULL takes no memory, nor does one of an empty list
none_for_null : ¬ CopyTakesMemory Null
none_for_null (inl h) = h refl
none_for_null (inr (inl h)) = h refl
none_for_null (inr (inr h)) = h

none_for_empty : (v : Vec BerObject Global) → v.items ≡ [] → ¬ CopyTakesMemory (Sequence v)
none_for_empty v e (inl h) = h (of_sequence v ∙ e)
none_for_empty v e (inr (inl h)) = h refl
none_for_empty v e (inr (inr h)) = h

none_for_absent : ¬ CopyTakesMemory (Optional None)
none_for_absent (inl h) = h refl
none_for_absent (inr (inl h)) = h refl
none_for_absent (inr (inr h)) = h

-- one of a tagged object takes memory for its box, and so does one of an object that is there
some_for_tagged : (c : Class) (t : Tag) (b : Box BerObject) → CopyTakesMemory (Tagged c t b)
some_for_tagged c t b = inr (inl (λ h. none-some b.value (sym h)))

some_for_present : (b : Box BerObject) → CopyTakesMemory (Optional (Some b))
some_for_present b = inr (inl (λ h. none-some b.value (sym h)))

-- the object inside a tagged one is seen whole, with the length and the raw tag of its header; an absent one has none inside
inside_tagged : (c : Class) (t : Tag) (b : Box BerObject) → inner_object (Tagged c t b) ≡ Some b.value
inside_tagged c t b = refl

inside_absent : inner_object (Optional None) ≡ None
inside_absent = refl

-- a tagged object has no items, and is moved into itself
no_items_of_tagged : (c : Class) (t : Tag) (b : Box BerObject) → items_of (Tagged c t b) ≡ []
no_items_of_tagged c t b = refl

moved_tagged : (h : Header) (c : Class) (t : Tag) (b : Box BerObject) → moved_items (record { header = h; content = Tagged c t b }) ≡ record { header = h; content = Tagged c t b } ∷ []
moved_tagged h c t b = refl

abbrev behind : List Header → List Header
behind [] = []
behind (h ∷ hs) = hs

-- a copy keeps the header inside the tag too
inner_length : (h : Header) (c : Class) (t : Tag) (a b : Box BerObject) → length_of b.value.header ≢ length_of a.value.header
    → ¬ IsCopyOf (record { header = h; content = Tagged c t a }) (record { header = h; content = Tagged c t b })
inner_length h c t a b n q = n (ap (λ hs. first_length (behind hs)) q.headers)
