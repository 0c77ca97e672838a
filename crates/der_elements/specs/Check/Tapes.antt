-- What the functions of the reader write to a tape.
use Rattle.std.specs.Prelude.{◌≡◌, ℕ, ◌+◌, ◌-◌, Bool, true, false, List, [], ◌++◌, length, map}
use Rattle.der_base.specs.declared.header.Class.TheVariants.{Universal}
use Rattle.der_base.specs.declared.header.Header.{Header}
use Rattle.der_base.specs.declared.header.Length.{Length}
use Rattle.der_base.specs.declared.header.Length.TheVariants.{Definite, Indefinite}
use Rattle.der_base.specs.declared.rules.Rules.{Rules}
use Rattle.der_base.specs.Header.{class_of, is_constructed, number_of, length_of}
use Rattle.der_base.specs.Spelling.{end_marker}
use Rattle.der_elements.specs.declared.check.element.Element.{Element}
use Rattle.der_elements.specs.declared.check.tape.Tape.{Tape}
use Rattle.der_elements.specs.Check.Elements.{AreElements, IsElement}
use Rattle.der_elements.specs.Check.Listing.{listed, listed_one}
use Rattle.der_elements.specs.Check.Overlay.{overlay}

-- how many octets follow a content of this length in its element: two end-of-contents octets if it is indefinite
abbrev pub marker_size : Length → ℕ
marker_size (Definite n) = 0
marker_size Indefinite = 2

-- the element of a universal type with a header of two octets
abbrev pub universal_element : Bool → ℕ → ℕ → ℕ → ℕ → Element
universal_element p t size end inside = record {
  class = Universal;
  constructed = p;
  definite = true;
  number = t;
  header = end - size - 2;
  content = end - size;
  end = end;
  inside = inside;
}

abbrev pub is_definite : Length → Bool
is_definite (Definite n) = true
is_definite Indefinite = false

-- the element of a header, with its content octets between two offsets
abbrev pub element_of : Header → ℕ → ℕ → ℕ → ℕ → Element
element_of h start content end inside = record {
  class = class_of h;
  constructed = is_constructed h;
  definite = is_definite (length_of h);
  number = number_of h;
  header = start;
  content = content;
  end = end;
  inside = inside;
}

-- these elements are listed after those that were listed before
pub record Keeps {N : Type 0} (slot : Element → N) (es : List Element) (old new : Tape N) : Type 0 where
  pub count : new.count ≡ old.count + length es
  pub slots : new.slots.now ≡ overlay old.slots.now old.count (map slot es)

-- i, which ends at the offset end, is elements; they are listed with those inside them
abbrev pub KeepsElements : {N : Type 0} → Rules → (Element → N) → ℕ → List ℕ → ℕ → Tape N → Tape N → Type 0
KeepsElements r slot d i end old new = (are : AreElements r d i) × Keeps slot (listed are (end - length i)) old new

-- the input begins with an element, followed by rest; it is listed with those inside it
abbrev pub KeepsElement : {N : Type 0} → Rules → (Element → N) → ℕ → List ℕ → ℕ → Tape N → List ℕ → Tape N → Type 0
KeepsElement r slot d i end old rest new = (b : List ℕ) × (i ≡ b ++ rest) × (is : IsElement r d b)
    × Keeps slot (listed_one is (end - length i)) old new

-- the input begins with the content of a constructed element of this length; the elements of the content are listed
abbrev pub KeepsContent : {N : Type 0} → Rules → (Element → N) → ℕ → Length → List ℕ → ℕ → Tape N → List ℕ → Tape N
    → Type 0
KeepsContent r slot d (Definite n) i end old rest new = (w : List ℕ) × (length w ≡ n) × (i ≡ w ++ rest)
    × (are : AreElements r d w) × Keeps slot (listed are (end - length i)) old new
KeepsContent r slot d Indefinite i end old rest new = (w : List ℕ) × (i ≡ w ++ (end_marker ++ rest))
    × (are : AreElements r d w) × Keeps slot (listed are (end - length i)) old new

-- nothing is listed for the content of a primitive element; that of a constructed one is listed as in KeepsContent
abbrev pub KeepsInside : {N : Type 0} → Bool → Rules → (Element → N) → ℕ → Length → List ℕ → ℕ → Tape N → List ℕ
    → Tape N → Type 0
KeepsInside false r slot d l i end old rest new = Keeps slot [] old new
KeepsInside true r slot d l i end old rest new = KeepsContent r slot d l i end old rest new
