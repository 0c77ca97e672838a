-- Elements as C sees them.
use Rattle.std.specs.Borrow.{Bor}
use Rattle.std.specs.Prelude.{ℕ, ◌+◌, ◌-◌, List, length, Bool, true, false, if◌then◌else◌}
use Rattle.der_base.specs.declared.any.Any.{Any}
use Rattle.der_base.specs.declared.header.Header.{Header}
use Rattle.der_base.specs.declared.header.Length.{Length}
use Rattle.der_base.specs.declared.header.Length.TheVariants.{Definite, Indefinite}
pub use Rattle.der_base.specs.Octets.{class_number}
use Rattle.der_base.specs.Header.{class_of, is_constructed, length_of, number_of}
use Rattle.der_elements.specs.declared.check.element.Element.{Element}
use Rattle.c_values.specs.declared.element.DmElement.{DmElement}

abbrev pub bit : Bool → ℕ
bit true = 1
bit false = 0

-- an element by numbers
abbrev pub slot_of : Element → DmElement
slot_of e = record {
  header = e.header;
  content = e.content;
  end = e.end;
  inside = e.inside;
  number = e.number;
  tag_class = class_number e.class;
  constructed = bit e.constructed;
  definite = bit e.definite;
  reserved = 0;
}

abbrev pub is_definite : Length → Bool
is_definite (Definite n) = true
is_definite Indefinite = false

-- the element at the start of an input with this header, whose n content octets begin at a place
abbrev pub first_slot : Header → ℕ → ℕ → DmElement
first_slot h begin n = record {
  header = 0;
  content = begin;
  end = begin + n;
  inside = 0;
  number = number_of h;
  tag_class = class_number (class_of h);
  constructed = bit (is_constructed h);
  definite = bit (is_definite (length_of h));
  reserved = 0;
}

-- how many octets follow the content: the end marker of an indefinite length (8.1.3.6)
abbrev pub marker_size : Header → ℕ
marker_size h = if is_definite (length_of h) then 0 else 2

-- the element that is read in front of an input of n octets, by what is left after it
abbrev pub kept_slot : ℕ → Bor (List ℕ) × Any → DmElement
kept_slot n x = let w = x.1.bytes.now in
    first_slot x.1.header (n - length x.0.now - marker_size x.1.header - length w) (length w)
