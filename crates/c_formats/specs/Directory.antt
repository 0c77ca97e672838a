-- The attributes of a subject, as C sees them (RFC 5280 4.2.1.8).
use Rattle.std.specs.Prelude.{◌≡◌, ℕ, List}
use Rattle.der_extensions.specs.declared.directory_attributes.DirectoryAttribute.{DirectoryAttribute}
use Rattle.der_extensions.specs.declared.list.SequenceOf.{SequenceOf}
use Rattle.der_extensions.specs.Lists.{list_octets}
use Rattle.der_extensions.specs.PolicyExtensions.{DirectoryAttributeValue, directory_attribute_of}
use Rattle.c_formats.specs.declared.request.DmRequestAttribute.{DmRequestAttribute}

-- the encodings of attributes, one after another
abbrev pub attributes_octets : SequenceOf DirectoryAttribute → List ℕ
attributes_octets x = list_octets x

-- the fields are those of the attribute
pub record HasAttribute (x : DirectoryAttributeValue) (d : DmRequestAttribute) : Type 0 where
  pub identifier : d.identifier.now ≡ x.0
  pub values : d.values.now ≡ x.1.0

abbrev pub IsAttribute : DirectoryAttribute → DmRequestAttribute → Type 0
IsAttribute x d = HasAttribute (directory_attribute_of x) d
