-- The private functions that keep how elements are shown, as values of the definitions.
use Rattle.std.specs.Prelude.{ℕ, false, Option, List, [], map}
use Rattle.std.specs.Option.{option_map}
use Rattle.der_print.specs.Values.{identifier_text}
use Rattle.type_words.specs.declared.item.Item.{Item}
use Rattle.type_words.specs.declared.item.Label.{Label}
use Rattle.type_words.specs.declared.item.Label.TheVariants.{Nothing, Words, Identifier}
use Rattle.type_words.specs.declared.places.Place.{Place as Kept}
use Rattle.type_words.specs.declared.places.Passing.{Passing}
use Rattle.type_words.specs.declared.places.Places.{Places}
use Rattle.type_words.specs.Items.{Place, Said, Step}

abbrev pub label_text : Label → List ℕ
label_text Nothing = []
label_text (Words w) = w.now
label_text (Identifier w) = identifier_text false w.now

abbrev pub place_of : Kept → Place
place_of p = record { indent = p.indent; label = label_text p.label; notation = p.notation }

abbrev pub places_in : Places → List Place
places_in s = map place_of s.places.items

abbrev pub said : Item → Said
said x = record {
  indent = x.indent;
  offset = x.offset;
  label = label_text x.label;
  kind = x.kind.now;
  notation = x.notation;
  octets = x.octets.now;
}

abbrev pub said_of : Option Item → Option Said
said_of found = option_map said found

abbrev pub step_of : Passing → Step
step_of x = record { item = said_of x.item; after = place_of x.after; inside = place_of x.inside }
