-- The octets of texts that are made.
use Rattle.std.specs.Prelude.{ℕ, List, drop}
use Rattle.der_print.specs.declared.line_octets.LineOctets.{LineOctets}
use Rattle.der_print.specs.declared.row.Row.{Row}
use Rattle.der_elements.specs.declared.element.Element.{Element}
pub use Rattle.der_elements.specs.Reading.{octets_or_none}

-- those of a line
abbrev pub octets_in : LineOctets → List ℕ
octets_in l = l.octets.items

-- a text that is written from its end, which is that of its octets
abbrev pub row_text : Row → List ℕ
row_text r = drop r.start r.octets

-- the content octets of an element, or none
abbrev pub content_of : Element → List ℕ
content_of e = octets_or_none e.content
