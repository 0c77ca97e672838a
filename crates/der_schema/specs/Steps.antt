-- What the private functions of a namer return, as values of the definitions.
use Rattle.std.specs.Prelude.{Bool, false, Option, Some, None, List, []}
use Rattle.std.specs.Borrow.{Bor}
use Rattle.der_elements.specs.declared.element.Element.{Element}
use Rattle.der_elements.specs.Walked.{visited_of}
use Rattle.der_schema.specs.declared.level.Content.{Content}
use Rattle.der_schema.specs.declared.level.Level.{Level}
use Rattle.der_schema.specs.declared.matching.Called.{Called}
use Rattle.der_schema.specs.declared.matching.Found.{Found}
use Rattle.der_schema.specs.declared.matching.Known.{Known}
use Rattle.der_schema.specs.declared.matching.Name.{Name}
use Rattle.der_schema.specs.declared.matching.Step.{Step}
use Rattle.der_schema.specs.declared.schema.Component.{Component}
use Rattle.der_schema.specs.declared.schema.Selection.{Selection}
use Rattle.der_schema.specs.Encodings.{encoding_in}
use Rattle.der_schema.specs.Meaning.{Around, Encoding, Expected, Field, Label, Passed, all_types, components_of}
use Rattle.der_schema.specs.Meaning.{expected_of, field, has_items, label, marked_of, state_of, words_in}

-- what a schema sees of an element of the input
abbrev pub encoding_of : Known → Element → Encoding
encoding_of k e = encoding_in k.input.now (visited_of e)

-- what the matching of elements needs besides components, if this is selected
abbrev pub around : Selection → Known → Around
around s k = record { selected = components_of s; types = all_types k.types.now }

abbrev pub label_in : Name → Label
label_in n = record { text = n.text.now; is_item = n.is_item; secrecy = n.secrecy; words = words_in n.words }

abbrev pub label_of : Option Name → Option Label
label_of None = None
label_of (Some n) = Some (label_in n)

-- the label of an element that is called this, which is an item or not
abbrev pub label_by : Bool → Option Called → Option Label
label_by item None = None
label_by item (Some c) = Some (label item (marked_of c))

-- the elements of a content are items, if it is there
abbrev pub items_at : Option Level → Bool
items_at None = false
items_at (Some l) = has_items (expected_of l.expected)

-- a step over an element, which is an item or not
abbrev pub passed_of : List Component → Bool → Step → Passed
passed_of ts item s =
    record { name = label_by item s.called; inside = state_of ts s.inside; after = state_of ts s.after }

abbrev pub next_found : Option (Found × Bor (List Component)) → Option (Field × List Component)
next_found None = None
next_found (Some p) = Some (field (marked_of p.0.called) p.0.inside.now, p.1.now)

-- what is found, and what is expected after it
abbrev pub place_found : Option Found → Content → Option (Field × Expected)
place_found None c = None
place_found (Some f) c = Some (field (marked_of f.called) f.inside.now, expected_of c)

abbrev pub selection_in : Option (Bor Selection) → List Component
selection_in None = []
selection_in (Some w) = components_of w.now

abbrev pub component_in : Option (Bor Component) → Option Component
component_in None = None
component_in (Some w) = Some w.now
