-- What a name and its parts stand for.
use Rattle.std.specs.Prelude.{List, map}
use Rattle.std.specs.Global.{Vec}
use Rattle.der_parser.specs.declared.oid.Oid.{Oid}
use Rattle.der_parser.specs.Oids.{is_relative_of, octets_of}
use Rattle.der_parser.specs.View.{tree}
use Rattle.der_uses.specs.declared.names.name.Attr.{Attr}
use Rattle.der_uses.specs.declared.names.name.Name.{Name}
use Rattle.der_uses.specs.Names.Names.{Attribute, Identifier, RelativeNames}

abbrev pub identifier_of : Oid → Identifier
identifier_of x = (is_relative_of x, octets_of x)

abbrev pub attribute_of : Attr → Attribute
attribute_of a = (identifier_of a.oid, tree a.value)

abbrev pub attributes_of : Vec Attr → List Attribute
attributes_of v = map attribute_of v.items

abbrev pub name_of : Name → RelativeNames
name_of n = map attributes_of n.rdns.items
